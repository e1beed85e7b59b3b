-- The turns of requests and of polls are numbered one by one.
use Rattle.std.proofs.Common.{◌≡◌, ℕ, ◌+◌, List, [], ◌∷◌, ◌++◌, length, refl, sym, ap, subst, arith, inl, inr, length-append}
use Rattle.std.proofs.lemmas.List.Elements.{filter_map-append}
use Rattle.std.specs.Prelude.{Some, None, Result, Ok, Err}
use Rattle.servient_base.specs.Moves.{Becomes, Stays, Then}
use Rattle.wot_json.specs.Tree.{Json}
use Rattle.thing_ops.specs.declared.outcome.Outcome.{Outcome}
use Rattle.thing_ops.specs.Requests.{RequestSeen}
use Rattle.thing_handler.specs.declared.handler.CallKind.{CallKind}
use Rattle.thing_handler.specs.declared.handler.CallKind.TheVariants as call
use Rattle.thing_handler.specs.declared.handler.Answer.TheVariants as answer
use Rattle.thing_handler.specs.Turns.{RunTurn, HandlerCall, turns_in, AreNumberedFrom, turn_in}
use Rattle.thing_handler.proofs.TurnLaws.{numbered_then}
use Rattle.thing_site.specs.Site.{Placed, Site}
use Rattle.thing_state.specs.State.{State, Status, running, completed, Emission}
use Rattle.thing_site.specs.declared.place.ThingAct.{ThingAct}
use Rattle.thing_site.specs.declared.place.ThingAct.TheVariants.{Describes as describes, ReadsAll as reads_all, WritesMany as writes_many, Reads as reads, Writes as writes, Invokes as invokes, Queries as queries, Cancels as cancels, ReadsEvent as reads_event, Waits as waits}
use Rattle.thing_site.specs.Refusals.{Input}
use Rattle.thing_core.specs.Thing.{Done, ReadsValue, with_value, ReadsEach, WritesEach, IfDone, SeesWritten, emissions_of_write, Stops, IsInvoked, IsQueried, Queries, IsCancelled, Cancels, PollsEvent, Performs, Acts, refuses, has_no_memory, performs, readable}
use Rattle.thing_state.specs.Calls.{Called, no_number, no_memory, gives, failure_of, Calls}
use Rattle.thing_core.proofs.ReadLaws.{AfterValue}

-- The turns are numbered on from those that the state has, and are counted.
pub record Counts (s : State) (calls : List HandlerCall) (t : State) : Type 0 where
  pub count : t.turns ≡ s.turns + length (turns_in calls)
  pub numbered : AreNumberedFrom s.turns (turns_in calls)

-- nothing is called, and the turns stay
counts_quiet : (s u t : State) (calls : List HandlerCall) → u.turns ≡ s.turns → Becomes u [] calls t → Counts s calls t
counts_quiet s u t calls same b =
    subst (λ (cs : List HandlerCall). Counts s cs t) (sym b.saw) (record { count = omega (arith, same, ap (λ (x : State). x.turns) b.next); numbered = tt })

counts_stays : (s t : State) (calls : List HandlerCall) → Stays s calls t → Counts s calls t
counts_stays s t calls b = counts_quiet s s t calls refl b

counts_then : (s m t : State) (a b calls : List HandlerCall) → Counts s a m → Counts m b t → calls ≡ a ++ b → Counts s calls t
counts_then s m t a b calls p q whole =
    let turns = filter_map-append turn_in a b in
    subst (λ (cs : List HandlerCall). Counts s cs t) (sym whole) (record {
      count = omega (arith, p.count, q.count, ap (λ (ts : List RunTurn). length ts) turns, length-append (turns_in a) (turns_in b));
      numbered = subst (λ (ts : List RunTurn). AreNumberedFrom s.turns ts) (sym turns)
          (numbered_then s.turns (turns_in a) (turns_in b) p.numbered (subst (λ (n : ℕ). AreNumberedFrom n (turns_in b)) p.count q.numbered));
    })

-- one call
call_counts : (slot : ℕ) (what : CallKind) (c : Called) (s : State) (calls : List HandlerCall) (t : State) → Calls slot what c s calls t → Counts s calls t
call_counts slot what no_number s calls t k = counts_stays s t calls k.1
call_counts slot what no_memory s calls t k =
    subst (λ (cs : List HandlerCall). Counts s cs t) (sym k.1.saw) (record { count = omega (arith, ap (λ (x : State). x.turns) k.1.next); numbered = tt })
call_counts slot what (gives a) s calls t k =
    subst (λ (cs : List HandlerCall). Counts s cs t) (sym k.1.saw) (record { count = ap (λ (x : State). x.turns) k.1.next; numbered = (refl, tt) })

-- ---- properties

-- seeing a value is no turn
seen_counts : (p : Placed) (r : Result Json Outcome) (s : State) (calls : List HandlerCall) (t : State) → Becomes (with_value p r s) [] calls t → Counts s calls t
seen_counts p (Ok value) s calls t b = counts_quiet s _ t calls refl b
seen_counts p (Err o) s calls t b = counts_stays s t calls b

value_counts : (p : Placed) (r : Result Json Outcome) (s : State) (calls : List HandlerCall) (t : State) → ReadsValue p r s calls t → Counts s calls t
value_counts p r s calls t v =
    let both = v.1 in
    counts_then s both.mid t both.first both.second calls (call_counts p.slot call.Read v.0 s both.first both.mid both.one)
    (seen_counts p r both.mid both.second t both.other.1) both.whole

after_counts : (p : Placed) (ps : List Placed) (got : List (List ℕ × Json)) (done : Done) (r : Result Json Outcome) (s : State) (calls : List HandlerCall) (t : State)
    → ((value : Json) → ReadsEach ps (got ++ (p.affordance.name, value) ∷ []) done s calls t → Counts s calls t) → AfterValue p ps got done r s calls t → Counts s calls t
after_counts p ps got done (Ok value) s calls t further rest = further value rest
after_counts p ps got done (Err o) s calls t further rest = counts_stays s t calls rest.1

each_counts : (ps : List Placed) (got : List (List ℕ × Json)) (done : Done) (s : State) (calls : List HandlerCall) (t : State) → ReadsEach ps got done s calls t → Counts s calls t
each_counts [] got done s calls t r = counts_stays s t calls r.1
each_counts (p ∷ ps) got done s calls t r =
    let both = r.1 in
    counts_then s both.mid t both.first both.second calls (value_counts p r.0 s both.first both.mid both.one)
    (after_counts p ps got done r.0 both.mid both.second t (λ value rest. each_counts ps (got ++ (p.affordance.name, value) ∷ []) done both.mid both.second t rest) both.other)
    both.whole

-- ---- writes

done_counts : (i : Input) (inputs : List Input) (emitted : List Emission) (done : Done) (c : Called) (s : State) (calls : List HandlerCall) (t : State)
    → ((u : State) (after : List HandlerCall) → WritesEach inputs (emitted ++ emissions_of_write i) done u after t → Counts u after t)
    → IfDone c (Then (SeesWritten i) (WritesEach inputs (emitted ++ emissions_of_write i) done)) (Stops (failure_of c) emitted done) s calls t
    → Counts s calls t
done_counts i inputs emitted done (gives answer.Done) s calls t further r =
    counts_then s r.mid t r.first r.second calls (counts_quiet s _ r.mid r.first refl r.one) (further r.mid r.second r.other) r.whole
done_counts i inputs emitted done no_number s calls t further r = counts_stays s t calls r.1
done_counts i inputs emitted done no_memory s calls t further r = counts_stays s t calls r.1
done_counts i inputs emitted done (gives (answer.Value tree)) s calls t further r = counts_stays s t calls r.1
done_counts i inputs emitted done (gives answer.Started) s calls t further r = counts_stays s t calls r.1
done_counts i inputs emitted done (gives answer.Running) s calls t further r = counts_stays s t calls r.1
done_counts i inputs emitted done (gives (answer.Finished output)) s calls t further r = counts_stays s t calls r.1
done_counts i inputs emitted done (gives answer.Cancelled) s calls t further r = counts_stays s t calls r.1
done_counts i inputs emitted done (gives answer.Quiet) s calls t further r = counts_stays s t calls r.1
done_counts i inputs emitted done (gives (answer.Fired tree)) s calls t further r = counts_stays s t calls r.1
done_counts i inputs emitted done (gives (answer.Refused n)) s calls t further r = counts_stays s t calls r.1
done_counts i inputs emitted done (gives (answer.DeviceFault n)) s calls t further r = counts_stays s t calls r.1

writes_count : (inputs : List Input) (emitted : List Emission) (done : Done) (s : State) (calls : List HandlerCall) (t : State) → WritesEach inputs emitted done s calls t
    → Counts s calls t
writes_count [] emitted done s calls t r = counts_stays s t calls r.1
writes_count (i ∷ inputs) emitted done s calls t r =
    let both = r.2.1 in
    counts_then s both.mid t both.first both.second calls (call_counts i.affordance.slot (call.Write r.0) r.2.0 s both.first both.mid both.one)
    (done_counts i inputs emitted done r.2.0 both.mid both.second t (λ u after rest. writes_count inputs (emitted ++ emissions_of_write i) done u after t rest) both.other)
    both.whole

-- ---- actions

invoked_counts : (p : Placed) (path : List (List ℕ)) (id : ℕ) (done : Done) (c : Called) (s : State) (calls : List HandlerCall) (t : State) → IsInvoked p path id done c s calls t
    → Counts s calls t
invoked_counts p path id done (gives answer.Started) s calls t is = counts_quiet s _ t calls refl is.1
invoked_counts p path id done (gives (answer.Finished None)) s calls t is = counts_quiet s _ t calls refl is.1
invoked_counts p path id done (gives (answer.Finished (Some tree))) s calls t is = counts_quiet s _ t calls refl is.1
invoked_counts p path id done no_number s calls t is = counts_stays s t calls is.1
invoked_counts p path id done no_memory s calls t is = counts_stays s t calls is.1
invoked_counts p path id done (gives (answer.Value tree)) s calls t is = counts_quiet s _ t calls refl is.1
invoked_counts p path id done (gives answer.Done) s calls t is = counts_quiet s _ t calls refl is.1
invoked_counts p path id done (gives answer.Running) s calls t is = counts_quiet s _ t calls refl is.1
invoked_counts p path id done (gives answer.Cancelled) s calls t is = counts_quiet s _ t calls refl is.1
invoked_counts p path id done (gives answer.Quiet) s calls t is = counts_quiet s _ t calls refl is.1
invoked_counts p path id done (gives (answer.Fired tree)) s calls t is = counts_quiet s _ t calls refl is.1
invoked_counts p path id done (gives (answer.Refused n)) s calls t is = counts_quiet s _ t calls refl is.1
invoked_counts p path id done (gives (answer.DeviceFault n)) s calls t is = counts_quiet s _ t calls refl is.1

queried_counts : (p : Placed) (id : ℕ) (done : Done) (c : Called) (s : State) (calls : List HandlerCall) (t : State) → IsQueried p id done c s calls t → Counts s calls t
queried_counts p id done (gives answer.Running) s calls t is = counts_stays s t calls is.1
queried_counts p id done (gives (answer.Finished None)) s calls t is = counts_quiet s _ t calls refl is.1
queried_counts p id done (gives (answer.Finished (Some tree))) s calls t (inl taken) = counts_quiet s _ t calls refl taken.1.1
queried_counts p id done (gives (answer.Finished (Some tree))) s calls t (inr bad) = counts_stays s t calls bad.1.1
queried_counts p id done no_number s calls t is = counts_stays s t calls is.1
queried_counts p id done no_memory s calls t is = counts_stays s t calls is.1
queried_counts p id done (gives (answer.Value tree)) s calls t is = counts_stays s t calls is.1
queried_counts p id done (gives answer.Done) s calls t is = counts_stays s t calls is.1
queried_counts p id done (gives answer.Started) s calls t is = counts_stays s t calls is.1
queried_counts p id done (gives answer.Cancelled) s calls t is = counts_stays s t calls is.1
queried_counts p id done (gives answer.Quiet) s calls t is = counts_stays s t calls is.1
queried_counts p id done (gives (answer.Fired tree)) s calls t is = counts_stays s t calls is.1
queried_counts p id done (gives (answer.Refused n)) s calls t is = counts_stays s t calls is.1
queried_counts p id done (gives (answer.DeviceFault n)) s calls t is = counts_stays s t calls is.1

cancelled_counts : (id : ℕ) (done : Done) (c : Called) (s : State) (calls : List HandlerCall) (t : State) → IsCancelled id done c s calls t → Counts s calls t
cancelled_counts id done (gives answer.Cancelled) s calls t is = counts_quiet s _ t calls refl is.1
cancelled_counts id done no_number s calls t is = counts_stays s t calls is.1
cancelled_counts id done no_memory s calls t is = counts_stays s t calls is.1
cancelled_counts id done (gives (answer.Value tree)) s calls t is = counts_stays s t calls is.1
cancelled_counts id done (gives answer.Done) s calls t is = counts_stays s t calls is.1
cancelled_counts id done (gives answer.Started) s calls t is = counts_stays s t calls is.1
cancelled_counts id done (gives answer.Running) s calls t is = counts_stays s t calls is.1
cancelled_counts id done (gives (answer.Finished output)) s calls t is = counts_stays s t calls is.1
cancelled_counts id done (gives answer.Quiet) s calls t is = counts_stays s t calls is.1
cancelled_counts id done (gives (answer.Fired tree)) s calls t is = counts_stays s t calls is.1
cancelled_counts id done (gives (answer.Refused n)) s calls t is = counts_stays s t calls is.1
cancelled_counts id done (gives (answer.DeviceFault n)) s calls t is = counts_stays s t calls is.1

queries_count : (p : Placed) (id : ℕ) (status : Status) (done : Done) (s : State) (calls : List HandlerCall) (t : State) → Queries p id status done s calls t → Counts s calls t
queries_count p id running done s calls t r =
    let both = r.1 in
    counts_then s both.mid t both.first both.second calls (call_counts p.slot (call.Query id) r.0 s both.first both.mid both.one)
    (queried_counts p id done r.0 both.mid both.second t both.other) both.whole
queries_count p id (completed output) done s calls t r = counts_stays s t calls r.1

cancels_count : (p : Placed) (id : ℕ) (status : Status) (done : Done) (s : State) (calls : List HandlerCall) (t : State) → Cancels p id status done s calls t → Counts s calls t
cancels_count p id running done s calls t r =
    let both = r.1 in
    counts_then s both.mid t both.first both.second calls (call_counts p.slot (call.Cancel id) r.0 s both.first both.mid both.one)
    (cancelled_counts id done r.0 both.mid both.second t both.other) both.whole
cancels_count p id (completed output) done s calls t r = counts_quiet s _ t calls refl r.1

-- ---- acts and polls

performs_count : (act : ThingAct) (q : RequestSeen) (inputs : List Input) (done : Done) (s : State) (calls : List HandlerCall) (t : State) → Performs act q inputs done s calls t
    → Counts s calls t
performs_count (describes thing) q inputs done s calls t r = counts_stays s t calls r.1
performs_count (reads_all thing) q inputs done s calls t r = each_counts (readable thing) [] done s calls t r
performs_count (writes_many thing) q inputs done s calls t r = writes_count inputs [] done s calls t r
performs_count (reads p) q inputs done s calls t r = value_counts p r.0 s calls t r.2
performs_count (writes p) q inputs done s calls t r = writes_count inputs [] done s calls t r
performs_count (invokes p) q inputs done s calls t r =
    let both = r.2.1 in
    counts_then s both.mid t both.first both.second calls (call_counts p.slot (call.Invoke s.next_invocation r.0) r.2.0 s both.first both.mid both.one)
    (invoked_counts p q.path s.next_invocation done r.2.0 both.mid both.second t both.other) both.whole
performs_count (queries p id) q inputs done s calls t r = queries_count p id r.0.status done s calls t r.2
performs_count (cancels p id) q inputs done s calls t r = cancels_count p id r.0.status done s calls t r.2
performs_count (reads_event p) q inputs done s calls t r = counts_stays s t calls r.1
performs_count (waits p) q inputs done s calls t r = counts_stays s t calls r.1

pub acts_count : (site : Site) (q : RequestSeen) (done : Done) (s : State) (calls : List HandlerCall) (t : State) → Acts site q done s calls t → Counts s calls t
acts_count site q done s calls t (refuses o refused answers) = counts_stays s t calls answers.1
acts_count site q done s calls t (has_no_memory answers) = counts_stays s t calls answers.1
acts_count site q done s calls t (performs act inputs free asked given does) = performs_count act q inputs done s calls t does

pub polled_counts : (p : Placed) (one : List Emission) (s : State) (calls : List HandlerCall) (t : State) → PollsEvent p one s calls t → Counts s calls t
polled_counts p one s calls t r =
    let both = r.1 in
    counts_then s both.mid t both.first both.second calls (call_counts p.slot call.Poll r.0 s both.first both.mid both.one)
    (counts_quiet both.mid _ t both.second refl both.other.1) both.whole
