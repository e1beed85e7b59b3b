-- However the machine moves, as many affordances may emit as before.
use Rattle.std.proofs.Common.{◌≡◌, ℕ, List, [], ◌∷◌, ◌++◌, map, length, ap, ◌∙◌, refl, inl, inr}
use Rattle.std.specs.Prelude.{Result, Ok, Err, Some, None}
use Rattle.std.proofs.lemmas.List.{length-map}
use Rattle.servient_base.specs.Moves.{Then}
use Rattle.wot_json.specs.Tree.{Json}
use Rattle.thing_ops.specs.declared.outcome.Outcome.{Outcome}
use Rattle.thing_ops.specs.Requests.{RequestSeen}
use Rattle.thing_handler.specs.declared.handler.CallKind.{CallKind}
use Rattle.thing_handler.specs.declared.handler.CallKind.TheVariants as call
use Rattle.thing_handler.specs.declared.handler.Answer.TheVariants as answer
use Rattle.thing_handler.specs.Turns.{HandlerCall}
use Rattle.thing_site.specs.Site.{Placed}
use Rattle.thing_state.specs.State.{Status, running, completed, State, Emission, LastValue, last_after, renewed}
use Rattle.thing_site.specs.declared.place.ThingAct.{ThingAct}
use Rattle.thing_site.specs.declared.place.ThingAct.TheVariants.{Describes as describes, ReadsAll as reads_all, WritesMany as writes_many, Reads as reads, Writes as writes, Invokes as invokes, Queries as queries, Cancels as cancels, ReadsEvent as reads_event, Waits as waits}
use Rattle.thing_site.specs.Refusals.{Input}
use Rattle.thing_state.specs.Calls.{Move, Called, no_number, no_memory, gives, failure_of, Calls}
use Rattle.thing_core.specs.Thing.{Done, ReadsValue, with_value, ReadsEach, SeesWritten, emissions_of_write, Stops, IfDone, WritesEach, IsInvoked, IsQueried, Queries, IsCancelled, Cancels, Performs, PollsEach}
use Rattle.thing_core.specs.Performing.{OrMemory}
use Rattle.thing_core.proofs.ReadLaws.{AfterValue}

-- as many as before
abbrev pub Keeps : State → State → Type 0
Keeps s t = length t.last ≡ length s.last

same_count : (s t : State) → t ≡ s → Keeps s t
same_count s t e = ap (λ (x : State). length x.last) e

calls_keep : (slot : ℕ) (what : CallKind) (called : Called) (s : State) (seen : List HandlerCall) (t : State) → Calls slot what called s seen t → Keeps s t
calls_keep slot what no_number s seen t p = same_count s t p.1.next
calls_keep slot what no_memory s seen t p = same_count s t p.1.next
calls_keep slot what (gives a) s seen t p = ap (λ (x : State). length x.last) p.1.next

seen_keep : (p : Placed) (r : Result Json Outcome) (s t : State) → t ≡ with_value p r s → Keeps s t
seen_keep p (Ok value) s t e = ap (λ (x : State). length x.last) e
seen_keep p (Err o) s t e = same_count s t e

value_keeps : (p : Placed) (r : Result Json Outcome) (s : State) (seen : List HandlerCall) (t : State) → ReadsValue p r s seen t → Keeps s t
value_keeps p r s seen t q = seen_keep p r q.1.mid t q.1.other.1.next ∙ calls_keep p.slot call.Read q.0 s q.1.first q.1.mid q.1.one

reads_keep : (ps : List Placed) (got : List (List ℕ × Json)) (done : Done) (s : State) (seen : List HandlerCall) (t : State) → ReadsEach ps got done s seen t → Keeps s t
reads_keep [] got done s seen t q = same_count s t q.1.next
reads_keep (p ∷ ps) got done s seen t q =
    after (λ more. reads_keep ps more done q.1.mid q.1.second t) q.0 q.1.other ∙ value_keeps p q.0 s q.1.first q.1.mid q.1.one
  where
    after : ((more : List (List ℕ × Json)) → ReadsEach ps more done q.1.mid q.1.second t → Keeps q.1.mid t) → (r : Result Json Outcome) → AfterValue p ps got done r q.1.mid q.1.second t → Keeps q.1.mid t
    after further (Ok value) x = further (got ++ (p.affordance.name, value) ∷ []) x
    after further (Err o) x = same_count q.1.mid t x.1.next

emitted_keep : (es : List Emission) (last : List LastValue) → length (last_after es last) ≡ length last
emitted_keep [] last = refl
emitted_keep (e ∷ es) last = emitted_keep es (map (renewed e) last) ∙ length-map last (renewed e)

emits_keep : (es : List Emission) (s t : State) → t ≡ record s { last = last_after es s.last } → Keeps s t
emits_keep es s t e = ap (λ (x : State). length x.last) e ∙ emitted_keep es s.last

written_keep : (i : Input) (s t : State) (seen : List HandlerCall) → SeesWritten i s seen t → Keeps s t
written_keep i s t seen x = ap (λ (y : State). length y.last) x.next ∙ emitted_keep (emissions_of_write i) s.last

if_done : (called : Called) (F O : Move) (s : State) (seen : List HandlerCall) (t : State) (K : Type 0) → (F s seen t → K) → (O s seen t → K) → IfDone called F O s seen t → K
if_done (gives answer.Done) F O s seen t K f o x = f x
if_done called F O s seen t K f o x = o x

writes_keep : (is : List Input) (emitted : List Emission) (done : Done) (s : State) (seen : List HandlerCall) (t : State) → WritesEach is emitted done s seen t → Keeps s t
writes_keep [] emitted done s seen t q = same_count s t q.1.next
writes_keep (i ∷ is) emitted done s seen t q =
    if_done q.2.0 (Then (SeesWritten i) (WritesEach is (emitted ++ emissions_of_write i) done)) (Stops (failure_of q.2.0) emitted done) q.2.1.mid q.2.1.second t (Keeps q.2.1.mid t)
    (λ x. writes_keep is (emitted ++ emissions_of_write i) done x.mid x.second t x.other ∙ written_keep i q.2.1.mid x.mid x.first x.one)
    (λ x. same_count q.2.1.mid t x.1.next) q.2.1.other
    ∙ calls_keep i.affordance.slot (call.Write q.0) q.2.0 s q.2.1.first q.2.1.mid q.2.1.one

invoked_keeps : (p : Placed) (path : List (List ℕ)) (id : ℕ) (done : Done) (called : Called) (s : State) (seen : List HandlerCall) (t : State) → IsInvoked p path id done called s seen t → Keeps s t
invoked_keeps p path id done (gives answer.Started) s seen t x = ap (λ (y : State). length y.last) x.1.next
invoked_keeps p path id done (gives (answer.Finished None)) s seen t x = ap (λ (y : State). length y.last) x.1.next
invoked_keeps p path id done (gives (answer.Finished (Some tree))) s seen t x = ap (λ (y : State). length y.last) x.1.next
invoked_keeps p path id done called s seen t x = ap (λ (y : State). length y.last) x.1.next

queried_keeps : (p : Placed) (id : ℕ) (done : Done) (called : Called) (s : State) (seen : List HandlerCall) (t : State) → IsQueried p id done called s seen t → Keeps s t
queried_keeps p id done (gives answer.Running) s seen t x = same_count s t x.1.next
queried_keeps p id done (gives (answer.Finished None)) s seen t x = ap (λ (y : State). length y.last) x.1.next
queried_keeps p id done (gives (answer.Finished (Some tree))) s seen t (inl x) = ap (λ (y : State). length y.last) x.1.1.next
queried_keeps p id done (gives (answer.Finished (Some tree))) s seen t (inr x) = same_count s t x.1.1.next
queried_keeps p id done called s seen t x = same_count s t x.1.next

cancelled_keeps : (id : ℕ) (done : Done) (called : Called) (s : State) (seen : List HandlerCall) (t : State) → IsCancelled id done called s seen t → Keeps s t
cancelled_keeps id done (gives answer.Cancelled) s seen t x = ap (λ (y : State). length y.last) x.1.next
cancelled_keeps id done called s seen t x = same_count s t x.1.next

queries_keep : (p : Placed) (id : ℕ) (status : Status) (done : Done) (s : State) (seen : List HandlerCall) (t : State) → Queries p id status done s seen t → Keeps s t
queries_keep p id running done s seen t q =
    queried_keeps p id done q.0 q.1.mid q.1.second t q.1.other ∙ calls_keep p.slot (call.Query id) q.0 s q.1.first q.1.mid q.1.one
queries_keep p id (completed output) done s seen t q = same_count s t q.1.next

cancels_keep : (p : Placed) (id : ℕ) (status : Status) (done : Done) (s : State) (seen : List HandlerCall) (t : State) → Cancels p id status done s seen t → Keeps s t
cancels_keep p id running done s seen t q =
    cancelled_keeps id done q.0 q.1.mid q.1.second t q.1.other ∙ calls_keep p.slot (call.Cancel id) q.0 s q.1.first q.1.mid q.1.one
cancels_keep p id (completed output) done s seen t q = ap (λ (y : State). length y.last) q.1.next

performs_keep : (act : ThingAct) (q : RequestSeen) (is : List Input) (done : Done) (s : State) (seen : List HandlerCall) (t : State) → Performs act q is done s seen t → Keeps s t
performs_keep (describes thing) q is done s seen t x = same_count s t x.1.next
performs_keep (reads_all thing) q is done s seen t x = reads_keep _ [] done s seen t x
performs_keep (writes_many thing) q is done s seen t x = writes_keep is [] done s seen t x
performs_keep (reads p) q is done s seen t x = value_keeps p x.0 s seen t x.2
performs_keep (writes p) q is done s seen t x = writes_keep is [] done s seen t x
performs_keep (invokes p) q is done s seen t x =
    invoked_keeps p q.path s.next_invocation done x.2.0 x.2.1.mid x.2.1.second t x.2.1.other ∙ calls_keep p.slot (call.Invoke s.next_invocation x.0) x.2.0 s x.2.1.first x.2.1.mid x.2.1.one
performs_keep (queries p id) q is done s seen t x = queries_keep p id x.0.status done s seen t x.2
performs_keep (cancels p id) q is done s seen t x = cancels_keep p id x.0.status done s seen t x.2
performs_keep (reads_event p) q is done s seen t x = same_count s t x.1.next
performs_keep (waits p) q is done s seen t x = same_count s t x.1.next

pub act_keeps : (act : ThingAct) (q : RequestSeen) (is : List Input) (done : Done) (s : State) (seen : List HandlerCall) (t : State) → OrMemory (Performs act q is) done s seen t → Keeps s t
act_keeps act q is done s seen t (inl x) = performs_keep act q is done s seen t x
act_keeps act q is done s seen t (inr x) = same_count s t x.1.next

pub polls_keep : (ps : List Placed) (es : List Emission) (s : State) (seen : List HandlerCall) (t : State) → PollsEach ps es s seen t → Keeps s t
polls_keep [] es s seen t q = same_count s t q.1.next
polls_keep (p ∷ ps) es s seen t q =
    polls_keep ps q.1 q.3.mid q.3.second t q.3.other
    ∙ emits_keep q.0 q.3.one.1.mid q.3.mid q.3.one.1.other.1.next
    ∙ calls_keep p.slot call.Poll q.3.one.0 s q.3.one.1.first q.3.one.1.mid q.3.one.1.one
