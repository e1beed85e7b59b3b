-- The calls of a request to the Things are the first of those that its act asks for, and those of a poll are one.
use Rattle.std.proofs.Common.{◌≡◌, ℕ, List, [], ◌∷◌, ◌++◌, map, refl, sym, ap, ap₂, subst, ◌∙◌, inl, inr}
use Rattle.std.specs.Prelude.{◌⊎◌, Result, Ok, Err, Some, None}
use Rattle.std.proofs.lemmas.List.{append-nil}
use Rattle.servient_base.specs.Moves.{Then}
use Rattle.wot_json.specs.Tree.{Json}
use Rattle.thing_ops.specs.declared.outcome.Outcome.{Outcome}
use Rattle.thing_ops.specs.Requests.{RequestSeen}
use Rattle.thing_handler.specs.declared.handler.CallKind.{CallKind}
use Rattle.thing_handler.specs.declared.handler.CallKind.TheVariants as call
use Rattle.thing_handler.specs.declared.handler.Answer.TheVariants as answer
use Rattle.thing_handler.specs.Turns.{HandlerCall, missed}
use Rattle.thing_site.specs.Site.{Placed, Site}
use Rattle.thing_site.specs.declared.place.ThingAct.{ThingAct}
use Rattle.thing_site.specs.declared.place.ThingAct.TheVariants.{Describes as describes, ReadsAll as reads_all, WritesMany as writes_many, Reads as reads_one, Writes as writes_one, Invokes as invokes_one, Queries as queries_one, Cancels as cancels_one, ReadsEvent as reads_event, Waits as waits}
use Rattle.thing_site.specs.Refusals.{Input}
use Rattle.thing_state.specs.State.{State, Status, running, completed, Emission}
use Rattle.thing_state.specs.Calls.{Called, no_number, no_memory, gives, failure_of, Calls}
use Rattle.thing_core.specs.Thing.{Done, GivesValue, ReadsValue, readable, ReadsEach, SeesWritten, emissions_of_write, Stops, IfDone, WritesEach, IsInvoked, IsQueried, Queries, IsCancelled, Cancels, Performs, Acts, refuses, has_no_memory, performs, PollsEvent}
use Rattle.thing_core.proofs.ReadLaws.{AfterValue}
use Rattle.servient_laws.specs.CallRequests.{AskedCall, reads, writes, invokes, queries, cancels, slot_of, IsCall, LetsGoOn, calls_of_act, AreFirstOf, AreCallsOf, makes_none, makes_some, ArePollOf}

-- ---- lists of calls

first_none : (asked : List AskedCall) (calls : List HandlerCall) → calls ≡ [] → AreFirstOf asked calls
first_none asked calls none = subst (λ (cs : List HandlerCall). AreFirstOf asked cs) (sym none) (nothing asked)
  where
    nothing : (asked : List AskedCall) → AreFirstOf asked []
    nothing [] = tt
    nothing (a ∷ asked) = tt

-- a call lets the next one be made
abbrev LetsOn : AskedCall → Called → Type 0
LetsOn a (gives given) = LetsGoOn a given
LetsOn a no_number = ⊥
LetsOn a no_memory = ⊥

-- a call, and then what follows where it lets it
first_then : (a : AskedCall) (asked : List AskedCall) (what : CallKind) (c : Called) (s m : State) (first rest calls : List HandlerCall) → Calls (slot_of a) what c s first m → IsCall a what
    → (rest ≡ []) ⊎ (LetsOn a c × AreFirstOf asked rest) → calls ≡ first ++ rest → AreFirstOf (a ∷ asked) calls
first_then a asked what no_number s m first rest calls k is (inl none) whole = first_none (a ∷ asked) calls (whole ∙ ap₂ (λ (x y : List HandlerCall). x ++ y) k.1.saw none)
first_then a asked what no_number s m first rest calls k is (inr on) whole = absurd on.0
first_then a asked what no_memory s m first rest calls k is (inl none) whole =
    subst (λ (cs : List HandlerCall). AreFirstOf (a ∷ asked) cs) (sym (whole ∙ ap₂ (λ (x y : List HandlerCall). x ++ y) k.1.saw none)) (refl, refl)
first_then a asked what no_memory s m first rest calls k is (inr on) whole = absurd on.0
first_then a asked what (gives given) s m first rest calls k is (inl none) whole =
    subst (λ (cs : List HandlerCall). AreFirstOf (a ∷ asked) cs) (sym (whole ∙ ap₂ (λ (x y : List HandlerCall). x ++ y) k.1.saw none)) (refl, is, inl refl)
first_then a asked what (gives given) s m first rest calls k is (inr on) whole =
    subst (λ (cs : List HandlerCall). AreFirstOf (a ∷ asked) cs) (sym (whole ∙ ap (λ (x : List HandlerCall). x ++ rest) k.1.saw)) (refl, is, inr on)

-- one call, after which there is none
one_call : (a : AskedCall) (what : CallKind) (c : Called) (s m : State) (first rest calls : List HandlerCall) → Calls (slot_of a) what c s first m → IsCall a what → rest ≡ [] → calls ≡ first ++ rest
    → AreFirstOf (a ∷ []) calls
one_call a what c s m first rest calls k is none whole = first_then a [] what c s m first rest calls k is (inl none) whole

-- ---- reading

abbrev ValueLetsOn : Placed → Result Json Outcome → Called → Type 0
ValueLetsOn p (Ok value) c = LetsOn (reads p) c
ValueLetsOn p (Err o) c = Unit {0}

value_lets : (p : Placed) (r : Result Json Outcome) (c : Called) → GivesValue p.affordance.output c r → ValueLetsOn p r c
value_lets p (Err o) c is = tt
value_lets p (Ok value) no_number is = absurd cc
value_lets p (Ok value) no_memory is = absurd cc
value_lets p (Ok value) (gives (answer.Value tree)) (inl taken) = (tree, refl, taken.0)
value_lets p (Ok value) (gives (answer.Value tree)) (inr refused) = absurd (let e : Ok value ≡ Err _ = refused.1 in cc)
value_lets p (Ok value) (gives (answer.Refused n)) is = absurd cc
value_lets p (Ok value) (gives (answer.DeviceFault n)) is = absurd cc
value_lets p (Ok value) (gives answer.Done) is = absurd cc
value_lets p (Ok value) (gives answer.Started) is = absurd cc
value_lets p (Ok value) (gives answer.Running) is = absurd cc
value_lets p (Ok value) (gives (answer.Finished output)) is = absurd cc
value_lets p (Ok value) (gives answer.Cancelled) is = absurd cc
value_lets p (Ok value) (gives answer.Quiet) is = absurd cc
value_lets p (Ok value) (gives (answer.Fired tree)) is = absurd cc

-- reading a value is one call, and then others where it gave one
read_first : (p : Placed) (asked : List AskedCall) (r : Result Json Outcome) (s m : State) (first rest calls : List HandlerCall) → ReadsValue p r s first m
    → (rest ≡ []) ⊎ ((c : Called) → ValueLetsOn p r c → LetsOn (reads p) c × AreFirstOf asked rest) → calls ≡ first ++ rest → AreFirstOf (reads p ∷ asked) calls
read_first p asked r s m first rest calls (c, v) on whole =
    first_then (reads p) asked call.Read c s v.mid v.first rest calls v.one refl (by on)
    (whole ∙ ap (λ (x : List HandlerCall). x ++ rest) (v.whole ∙ ap (λ (x : List HandlerCall). v.first ++ x) v.other.1.saw ∙ append-nil v.first))
  where
    by : (rest ≡ []) ⊎ ((c : Called) → ValueLetsOn p r c → LetsOn (reads p) c × AreFirstOf asked rest) → (rest ≡ []) ⊎ (LetsOn (reads p) c × AreFirstOf asked rest)
    by (inl none) = inl none
    by (inr more) = inr (more c (value_lets p r c v.other.0))

each_first : (ps : List Placed) (got : List (List ℕ × Json)) (done : Done) (s t : State) (calls : List HandlerCall) → ReadsEach ps got done s calls t → AreFirstOf (map reads ps) calls
each_first [] got done s t calls w = first_none [] calls w.1.saw
each_first (p ∷ ps) got done s t calls (r, w) = by r w.one w.other (λ more m rest move. each_first ps more done m t rest move)
  where
    by : (r : Result Json Outcome) → ReadsValue p r s w.first w.mid → AfterValue p ps got done r w.mid w.second t
        → ((more : List (List ℕ × Json)) (m : State) (rest : List HandlerCall) → ReadsEach ps more done m rest t → AreFirstOf (map reads ps) rest) → AreFirstOf (reads p ∷ map reads ps) calls
    by (Ok value) one other each =
        read_first p (map reads ps) (Ok value) s w.mid w.first w.second calls one (inr (λ c lets. (lets, each (got ++ (p.affordance.name, value) ∷ []) w.mid w.second other))) w.whole
    by (Err o) one other each = read_first p (map reads ps) (Err o) s w.mid w.first w.second calls one (inl other.1.saw) w.whole

-- ---- writing

written_first : (is : List Input) (emitted : List Emission) (done : Done) (s t : State) (calls : List HandlerCall) → WritesEach is emitted done s calls t → AreFirstOf (map writes is) calls
written_first [] emitted done s t calls w = first_none [] calls w.1.saw
written_first (i ∷ is) emitted done s t calls (tree, value, (c, w)) =
    by c w.one w.other (λ m rest move. written_first is (emitted ++ emissions_of_write i) done m t rest move)
  where
    stopped : (c : Called) → Calls i.affordance.slot (call.Write tree) c s w.first w.mid → Stops (failure_of c) emitted done w.mid w.second t → AreFirstOf (writes i ∷ map writes is) calls
    stopped c one other = first_then (writes i) (map writes is) (call.Write tree) c s w.mid w.first w.second calls one (tree, value, refl) (inl other.1.saw) w.whole

    by : (c : Called) → Calls i.affordance.slot (call.Write tree) c s w.first w.mid
        → IfDone c (Then (SeesWritten i) (WritesEach is (emitted ++ emissions_of_write i) done)) (Stops (failure_of c) emitted done) w.mid w.second t
        → ((m : State) (rest : List HandlerCall) → WritesEach is (emitted ++ emissions_of_write i) done m rest t → AreFirstOf (map writes is) rest) → AreFirstOf (writes i ∷ map writes is) calls
    by (gives answer.Done) one other each =
        first_then (writes i) (map writes is) (call.Write tree) (gives answer.Done) s w.mid w.first w.second calls one (tree, value, refl)
        (inr (refl, subst (λ (cs : List HandlerCall). AreFirstOf (map writes is) cs) (sym (other.whole ∙ ap (λ (x : List HandlerCall). x ++ other.second) other.one.saw)) (each other.mid other.second other.other))) w.whole
    by no_number one other each = stopped no_number one other
    by no_memory one other each = stopped no_memory one other
    by (gives (answer.Value v)) one other each = stopped (gives (answer.Value v)) one other
    by (gives (answer.Refused n)) one other each = stopped (gives (answer.Refused n)) one other
    by (gives (answer.DeviceFault n)) one other each = stopped (gives (answer.DeviceFault n)) one other
    by (gives answer.Started) one other each = stopped (gives answer.Started) one other
    by (gives answer.Running) one other each = stopped (gives answer.Running) one other
    by (gives (answer.Finished output)) one other each = stopped (gives (answer.Finished output)) one other
    by (gives answer.Cancelled) one other each = stopped (gives answer.Cancelled) one other
    by (gives answer.Quiet) one other each = stopped (gives answer.Quiet) one other
    by (gives (answer.Fired v)) one other each = stopped (gives (answer.Fired v)) one other

-- ---- actions: what follows the call makes none

invoked_quiet : (p : Placed) (path : List (List ℕ)) (id : ℕ) (done : Done) (c : Called) (s t : State) (calls : List HandlerCall) → IsInvoked p path id done c s calls t → calls ≡ []
invoked_quiet p path id done (gives (answer.Finished (Some tree))) s t calls w = w.1.saw
invoked_quiet p path id done (gives (answer.Finished None)) s t calls w = w.1.saw
invoked_quiet p path id done (gives x) s t calls w = w.1.saw
invoked_quiet p path id done c s t calls w = w.1.saw

queried_quiet : (p : Placed) (id : ℕ) (done : Done) (c : Called) (s t : State) (calls : List HandlerCall) → IsQueried p id done c s calls t → calls ≡ []
queried_quiet p id done (gives answer.Running) s t calls w = w.1.saw
queried_quiet p id done (gives (answer.Finished None)) s t calls w = w.1.saw
queried_quiet p id done (gives (answer.Finished (Some tree))) s t calls (inl w) = w.1.1.saw
queried_quiet p id done (gives (answer.Finished (Some tree))) s t calls (inr w) = w.1.1.saw
queried_quiet p id done c s t calls w = w.1.saw

cancelled_quiet : (id : ℕ) (done : Done) (c : Called) (s t : State) (calls : List HandlerCall) → IsCancelled id done c s calls t → calls ≡ []
cancelled_quiet id done (gives answer.Cancelled) s t calls w = w.1.saw
cancelled_quiet id done c s t calls w = w.1.saw

queries_first : (p : Placed) (id : ℕ) (status : Status) (done : Done) (s t : State) (calls : List HandlerCall) → Queries p id status done s calls t → AreFirstOf (queries p id ∷ []) calls
queries_first p id running done s t calls (c, w) = one_call (queries p id) (call.Query id) c s w.mid w.first w.second calls w.one refl (queried_quiet p id done c w.mid t w.second w.other) w.whole
queries_first p id (completed output) done s t calls w = first_none (queries p id ∷ []) calls w.1.saw

cancels_first : (p : Placed) (id : ℕ) (status : Status) (done : Done) (s t : State) (calls : List HandlerCall) → Cancels p id status done s calls t → AreFirstOf (cancels p id ∷ []) calls
cancels_first p id running done s t calls (c, w) = one_call (cancels p id) (call.Cancel id) c s w.mid w.first w.second calls w.one refl (cancelled_quiet id done c w.mid t w.second w.other) w.whole
cancels_first p id (completed output) done s t calls w = first_none (cancels p id ∷ []) calls w.1.saw

-- ---- acts and requests

act_first : (does : ThingAct) (q : RequestSeen) (inputs : List Input) (done : Done) (s t : State) (calls : List HandlerCall) → Performs does q inputs done s calls t → AreFirstOf (calls_of_act does inputs) calls
act_first (describes thing) q inputs done s t calls w = first_none [] calls w.1.saw
act_first (reads_all thing) q inputs done s t calls w = each_first (readable thing) [] done s t calls w
act_first (writes_many thing) q inputs done s t calls w = written_first inputs [] done s t calls w
act_first (reads_one p) q inputs done s t calls (r, is, w) = read_first p [] r s t calls [] calls w (inl refl) (sym (append-nil calls))
act_first (writes_one p) q inputs done s t calls w = written_first inputs [] done s t calls w
act_first (invokes_one p) q inputs done s t calls (handed, is, (c, w)) =
    one_call (invokes p inputs) (call.Invoke s.next_invocation handed) c s w.mid w.first w.second calls w.one (s.next_invocation, handed, is, refl)
    (invoked_quiet p q.path s.next_invocation done c w.mid t w.second w.other) w.whole
act_first (queries_one p id) q inputs done s t calls (i, is, w) = queries_first p id i.status done s t calls w
act_first (cancels_one p id) q inputs done s t calls (i, is, w) = cancels_first p id i.status done s t calls w
act_first (reads_event p) q inputs done s t calls w = first_none [] calls w.1.saw
act_first (waits p) q inputs done s t calls w = first_none [] calls w.1.saw

pub acts_have_calls : (site : Site) (q : RequestSeen) (done : Done) (s t : State) (calls : List HandlerCall) → Acts site q done s calls t → AreCallsOf site q calls
acts_have_calls site q done s t calls (refuses o is w) = makes_none w.1.saw
acts_have_calls site q done s t calls (has_no_memory w) = makes_none w.1.saw
acts_have_calls site q done s t calls (performs does inputs free is given w) = makes_some s does inputs is given (act_first does q inputs done s t calls w)

-- ---- polls

pub polls_are_one : (p : Placed) (emissions : List Emission) (s t : State) (calls : List HandlerCall) → PollsEvent p emissions s calls t → ArePollOf p calls
polls_are_one p emissions s t calls (c, w) = by c w.one
  where
    made : (first : List HandlerCall) → w.first ≡ first → calls ≡ first
    made first is = w.whole ∙ ap₂ (λ (x y : List HandlerCall). x ++ y) is w.other.1.saw ∙ append-nil first

    by : (c : Called) → Calls p.slot call.Poll c s w.first w.mid → ArePollOf p calls
    by no_number k = subst (λ (cs : List HandlerCall). ArePollOf p cs) (sym (made [] k.1.saw)) tt
    by no_memory k = subst (λ (cs : List HandlerCall). ArePollOf p cs) (sym (made (missed p.slot ∷ []) k.1.saw)) (refl, refl)
    by (gives given) k = subst (λ (cs : List HandlerCall). ArePollOf p cs) (sym (made _ k.1.saw)) (refl, refl, refl)
