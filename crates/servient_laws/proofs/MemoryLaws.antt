-- Where a request was out of memory.
use Rattle.std.proofs.Common.{◌≡◌, ℕ, List, [], ◌∷◌, ◌++◌, Bool, true, false, cond, refl, sym, ap, ap₂, ◌∙◌, append_assoc, inl, inr}
use Rattle.std.specs.Prelude.{Option, Some, None, Result, Ok, Err}
use Rattle.servient_base.specs.Moves.{Then}
use Rattle.wot_json.specs.Tree.{Json}
use Rattle.wot_json.specs.Json.{text_of}
use Rattle.wot_json.specs.Meaning.{json_of}
use Rattle.thing_ops.specs.declared.conditions.Conditions.{Conditions}
use Rattle.thing_ops.specs.Conditions.{fails, has}
use Rattle.thing_ops.specs.declared.outcome.Outcome.{Outcome}
use Rattle.thing_ops.specs.declared.outcome.Outcome.TheVariants as outcome
use Rattle.thing_ops.specs.Requests.{RequestSeen}
use Rattle.thing_handler.specs.declared.handler.CallKind.{CallKind}
use Rattle.thing_handler.specs.declared.handler.CallKind.TheVariants as call
use Rattle.thing_handler.specs.declared.handler.Answer.TheVariants as answer
use Rattle.thing_handler.specs.Turns.{HandlerCall, missed}
use Rattle.thing_site.specs.Site.{Placed}
use Rattle.thing_site.specs.declared.place.ThingAct.{ThingAct}
use Rattle.thing_site.specs.declared.place.ThingAct.TheVariants.{Describes as describes, ReadsAll as reads_all, WritesMany as writes_many, Reads as reads, Writes as writes, Invokes as invokes, Queries as queries, Cancels as cancels, ReadsEvent as reads_event, Waits as waits}
use Rattle.thing_site.specs.Refusals.{Input}
use Rattle.thing_state.specs.State.{State, Emission, Status, running, completed, last_of, version_of}
use Rattle.thing_core.specs.Refusals.{Asked, refusals, IsRefusedBy}
use Rattle.thing_core.specs.Thing.{Done, only, GivesValue, ReadsValue, readable, ReadsEach, SeesWritten, emissions_of_write, Stops, IfDone, WritesEach, IsInvoked, IsQueried, Queries, IsCancelled, Cancels, event_outcome, read_outcome, Performs, refuses, has_no_memory, performs}
use Rattle.thing_state.specs.Calls.{Called, no_number, no_memory, gives, failure_of, Calls}
use Rattle.thing_core.proofs.ReadLaws.{AfterValue}
use Rattle.servient_laws.specs.Memory.{EndsInMiss, MemoryIsSeen}

-- ---- traces that end in a miss

after : (a b seen : List HandlerCall) → EndsInMiss b → seen ≡ a ++ b → EndsInMiss seen
after a b seen e whole = record { before = a ++ e.before; slot = e.slot; last = whole ∙ ap (λ (x : List HandlerCall). a ++ x) e.last ∙ sym (append_assoc a e.before (missed e.slot ∷ [])) }

nothing_after : (a b seen : List HandlerCall) → EndsInMiss a → b ≡ [] → seen ≡ a ++ b → EndsInMiss seen
nothing_after a b seen e none whole = record {
  before = e.before;
  slot = e.slot;
  last = whole ∙ ap₂ (λ (x y : List HandlerCall). x ++ y) e.last none ∙ append_assoc e.before (missed e.slot ∷ []) [];
}

-- a call whose failure is that is a miss
call_missed : (slot : ℕ) (what : CallKind) (c : Called) (s : State) (seen : List HandlerCall) (t : State) → failure_of c ≡ outcome.Memory → Calls slot what c s seen t → EndsInMiss seen
call_missed slot what no_number s seen t is k = absurd cc
call_missed slot what no_memory s seen t is k = record { before = []; slot = slot; last = k.1.saw }
call_missed slot what (gives (answer.Refused n)) s seen t is k = absurd cc
call_missed slot what (gives (answer.DeviceFault n)) s seen t is k = absurd cc
call_missed slot what (gives (answer.Value tree)) s seen t is k = absurd cc
call_missed slot what (gives answer.Done) s seen t is k = absurd cc
call_missed slot what (gives answer.Started) s seen t is k = absurd cc
call_missed slot what (gives answer.Running) s seen t is k = absurd cc
call_missed slot what (gives (answer.Finished output)) s seen t is k = absurd cc
call_missed slot what (gives answer.Cancelled) s seen t is k = absurd cc
call_missed slot what (gives answer.Quiet) s seen t is k = absurd cc
call_missed slot what (gives (answer.Fired tree)) s seen t is k = absurd cc

outcome_of : (done : Done) (o : Outcome) → done ≡ only o → done.outcome ≡ outcome.Memory → o ≡ outcome.Memory
outcome_of done o is memory = sym (ap (λ (d : Done). d.outcome) is) ∙ memory

-- ---- reading

abbrev failure_in : Result Json Outcome → Outcome
failure_in (Ok value) = outcome.Memory
failure_in (Err o) = o

failed : (r : Result Json Outcome) (o p : Outcome) → r ≡ Err o → r ≡ Err p → o ≡ p
failed r o p one other = sym (ap failure_in one) ∙ ap failure_in other

no_content : (text : List ℕ) → outcome.Content text None ≡ outcome.Memory → ⊥
no_content text e = cc

no_read : (c : Conditions) (version : ℕ) (text : List ℕ) → read_outcome c version text ≡ outcome.Memory → ⊥
no_read c version text e = by_test (fails c version) (has c.known version) e
  where
    by_test : (b d : Bool) → cond b outcome.PreconditionFailed (cond d (outcome.NotModified version) (outcome.Content text (Some version))) ≡ outcome.Memory → ⊥
    by_test true d x = cc
    by_test false true x = cc
    by_test false false x = cc

never_bad : outcome.BadAnswer ≡ outcome.Memory → ⊥
never_bad e = cc

gives_missed : (schema : Option Json) (c : Called) (r : Result Json Outcome) → r ≡ Err outcome.Memory → GivesValue schema c r → failure_of c ≡ outcome.Memory
gives_missed schema (gives (answer.Value tree)) r is (inl taken) = absurd (differ (sym is ∙ taken.1))
  where
    differ : Err outcome.Memory ≡ Ok (json_of tree) → ⊥
    differ e = cc
gives_missed schema (gives (answer.Value tree)) r is (inr bad) = absurd (never_bad (failed r outcome.BadAnswer outcome.Memory bad.1 is))
gives_missed schema no_number r is e = failed r outcome.CallsUsed outcome.Memory e is
gives_missed schema no_memory r is e = refl
gives_missed schema (gives (answer.Refused n)) r is e = failed r (outcome.Refused n) outcome.Memory e is
gives_missed schema (gives (answer.DeviceFault n)) r is e = failed r (outcome.DeviceFault n) outcome.Memory e is
gives_missed schema (gives answer.Done) r is e = failed r outcome.BadAnswer outcome.Memory e is
gives_missed schema (gives answer.Started) r is e = failed r outcome.BadAnswer outcome.Memory e is
gives_missed schema (gives answer.Running) r is e = failed r outcome.BadAnswer outcome.Memory e is
gives_missed schema (gives (answer.Finished output)) r is e = failed r outcome.BadAnswer outcome.Memory e is
gives_missed schema (gives answer.Cancelled) r is e = failed r outcome.BadAnswer outcome.Memory e is
gives_missed schema (gives answer.Quiet) r is e = failed r outcome.BadAnswer outcome.Memory e is
gives_missed schema (gives (answer.Fired tree)) r is e = failed r outcome.BadAnswer outcome.Memory e is

value_missed : (p : Placed) (r : Result Json Outcome) (s : State) (seen : List HandlerCall) (t : State) → r ≡ Err outcome.Memory → ReadsValue p r s seen t → EndsInMiss seen
value_missed p r s seen t is v =
    let both = v.1 in
    nothing_after both.first both.second seen
    (call_missed p.slot call.Read v.0 s both.first both.mid (gives_missed p.affordance.output v.0 r is both.other.0) both.one) both.other.1.saw both.whole

after_missed : (p : Placed) (ps : List Placed) (got : List (List ℕ × Json)) (done : Done) (r : Result Json Outcome) (s m t : State) (first second seen : List HandlerCall)
    → done.outcome ≡ outcome.Memory → ReadsValue p r s first m → AfterValue p ps got done r m second t → seen ≡ first ++ second
    → ((value : Json) → ReadsEach ps (got ++ (p.affordance.name, value) ∷ []) done m second t → EndsInMiss second) → EndsInMiss seen
after_missed p ps got done (Ok value) s m t first second seen memory read rest whole further = after first second seen (further value rest) whole
after_missed p ps got done (Err o) s m t first second seen memory read rest whole further =
    nothing_after first second seen
    (value_missed p (Err o) s first m (ap (λ (x : Outcome). Err x) (outcome_of done o rest.0 memory)) read) rest.1.saw whole

each_missed : (ps : List Placed) (got : List (List ℕ × Json)) (done : Done) (s : State) (seen : List HandlerCall) (t : State) → done.outcome ≡ outcome.Memory
    → ReadsEach ps got done s seen t → EndsInMiss seen
each_missed [] got done s seen t memory r = absurd (no_content _ (outcome_of done _ r.0 memory))
each_missed (p ∷ ps) got done s seen t memory r =
    let both = r.1 in
    after_missed p ps got done r.0 s both.mid t both.first both.second seen memory both.one both.other both.whole
    (λ value rest. each_missed ps (got ++ (p.affordance.name, value) ∷ []) done both.mid both.second t memory rest)

-- ---- writing

stopped : (done : Done) (o : Outcome) (emitted : List Emission) → done ≡ record { outcome = o; emissions = emitted } → done.outcome ≡ outcome.Memory → o ≡ outcome.Memory
stopped done o emitted is memory = sym (ap (λ (d : Done). d.outcome) is) ∙ memory

changed_differs : outcome.Changed ≡ outcome.Memory → ⊥
changed_differs e = cc

written_missed : (i : Input) (inputs : List Input) (emitted : List Emission) (done : Done) (slot : ℕ) (what : CallKind) (c : Called) (s m t : State) (first second seen : List HandlerCall)
    → done.outcome ≡ outcome.Memory → Calls slot what c s first m
    → IfDone c (Then (SeesWritten i) (WritesEach inputs (emitted ++ emissions_of_write i) done)) (Stops (failure_of c) emitted done) m second t
    → seen ≡ first ++ second → ((u : State) (rest : List HandlerCall) → WritesEach inputs (emitted ++ emissions_of_write i) done u rest t → EndsInMiss rest) → EndsInMiss seen
written_missed i inputs emitted done slot what (gives answer.Done) s m t first second seen memory called r whole further =
    after first second seen (after r.first r.second second (further r.mid r.second r.other) r.whole) whole
written_missed i inputs emitted done slot what no_number s m t first second seen memory called r whole further =
    nothing_after first second seen (call_missed slot what no_number s first m (stopped done _ emitted r.0 memory) called) r.1.saw whole
written_missed i inputs emitted done slot what no_memory s m t first second seen memory called r whole further =
    nothing_after first second seen (call_missed slot what no_memory s first m (stopped done _ emitted r.0 memory) called) r.1.saw whole
written_missed i inputs emitted done slot what (gives (answer.Value tree)) s m t first second seen memory called r whole further =
    nothing_after first second seen (call_missed slot what (gives (answer.Value tree)) s first m (stopped done _ emitted r.0 memory) called) r.1.saw whole
written_missed i inputs emitted done slot what (gives answer.Started) s m t first second seen memory called r whole further =
    nothing_after first second seen (call_missed slot what (gives answer.Started) s first m (stopped done _ emitted r.0 memory) called) r.1.saw whole
written_missed i inputs emitted done slot what (gives answer.Running) s m t first second seen memory called r whole further =
    nothing_after first second seen (call_missed slot what (gives answer.Running) s first m (stopped done _ emitted r.0 memory) called) r.1.saw whole
written_missed i inputs emitted done slot what (gives (answer.Finished output)) s m t first second seen memory called r whole further =
    nothing_after first second seen (call_missed slot what (gives (answer.Finished output)) s first m (stopped done _ emitted r.0 memory) called) r.1.saw whole
written_missed i inputs emitted done slot what (gives answer.Cancelled) s m t first second seen memory called r whole further =
    nothing_after first second seen (call_missed slot what (gives answer.Cancelled) s first m (stopped done _ emitted r.0 memory) called) r.1.saw whole
written_missed i inputs emitted done slot what (gives answer.Quiet) s m t first second seen memory called r whole further =
    nothing_after first second seen (call_missed slot what (gives answer.Quiet) s first m (stopped done _ emitted r.0 memory) called) r.1.saw whole
written_missed i inputs emitted done slot what (gives (answer.Fired tree)) s m t first second seen memory called r whole further =
    nothing_after first second seen (call_missed slot what (gives (answer.Fired tree)) s first m (stopped done _ emitted r.0 memory) called) r.1.saw whole
written_missed i inputs emitted done slot what (gives (answer.Refused n)) s m t first second seen memory called r whole further =
    nothing_after first second seen (call_missed slot what (gives (answer.Refused n)) s first m (stopped done _ emitted r.0 memory) called) r.1.saw whole
written_missed i inputs emitted done slot what (gives (answer.DeviceFault n)) s m t first second seen memory called r whole further =
    nothing_after first second seen (call_missed slot what (gives (answer.DeviceFault n)) s first m (stopped done _ emitted r.0 memory) called) r.1.saw whole

writes_missed : (inputs : List Input) (emitted : List Emission) (done : Done) (s : State) (seen : List HandlerCall) (t : State) → done.outcome ≡ outcome.Memory
    → WritesEach inputs emitted done s seen t → EndsInMiss seen
writes_missed [] emitted done s seen t memory r = absurd (changed_differs (stopped done outcome.Changed emitted r.0 memory))
writes_missed (i ∷ inputs) emitted done s seen t memory r =
    let both = r.2.1 in
    written_missed i inputs emitted done i.affordance.slot (call.Write r.0) r.2.0 s both.mid t both.first both.second seen memory both.one both.other both.whole
    (λ u rest move. writes_missed inputs (emitted ++ emissions_of_write i) done u rest t memory move)

-- ---- actions

-- the answer's outcome was that, and nothing more was called
record IsFailure (c : Called) (seen : List HandlerCall) : Type 0 where
  outcome : failure_of c ≡ outcome.Memory
  calls : seen ≡ []

started_differs : (place : List (List ℕ)) (text : List ℕ) → outcome.Started place text ≡ outcome.Memory → ⊥
started_differs place text e = cc

output_differs : (text : List ℕ) → outcome.Output text ≡ outcome.Memory → ⊥
output_differs text e = cc

deleted_differs : outcome.Deleted ≡ outcome.Memory → ⊥
deleted_differs e = cc

invoked_failed : (p : Placed) (path : List (List ℕ)) (id : ℕ) (done : Done) (c : Called) (s : State) (seen : List HandlerCall) (t : State) → done.outcome ≡ outcome.Memory
    → IsInvoked p path id done c s seen t → IsFailure c seen
invoked_failed p path id done (gives answer.Started) s seen t memory is = absurd (started_differs _ _ (outcome_of done _ is.0 memory))
invoked_failed p path id done (gives (answer.Finished None)) s seen t memory is = absurd (changed_differs (outcome_of done outcome.Changed is.0 memory))
invoked_failed p path id done (gives (answer.Finished (Some tree))) s seen t memory (inl taken, rest) = absurd (output_differs _ (outcome_of done _ taken.1 memory))
invoked_failed p path id done (gives (answer.Finished (Some tree))) s seen t memory (inr bad, rest) = absurd (never_bad (outcome_of done outcome.BadAnswer bad.1 memory))
invoked_failed p path id done no_number s seen t memory is = record { outcome = outcome_of done _ is.0 memory; calls = is.1.saw }
invoked_failed p path id done no_memory s seen t memory is = record { outcome = outcome_of done _ is.0 memory; calls = is.1.saw }
invoked_failed p path id done (gives (answer.Value tree)) s seen t memory is = record { outcome = outcome_of done _ is.0 memory; calls = is.1.saw }
invoked_failed p path id done (gives answer.Done) s seen t memory is = record { outcome = outcome_of done _ is.0 memory; calls = is.1.saw }
invoked_failed p path id done (gives answer.Running) s seen t memory is = record { outcome = outcome_of done _ is.0 memory; calls = is.1.saw }
invoked_failed p path id done (gives answer.Cancelled) s seen t memory is = record { outcome = outcome_of done _ is.0 memory; calls = is.1.saw }
invoked_failed p path id done (gives answer.Quiet) s seen t memory is = record { outcome = outcome_of done _ is.0 memory; calls = is.1.saw }
invoked_failed p path id done (gives (answer.Fired tree)) s seen t memory is = record { outcome = outcome_of done _ is.0 memory; calls = is.1.saw }
invoked_failed p path id done (gives (answer.Refused n)) s seen t memory is = record { outcome = outcome_of done _ is.0 memory; calls = is.1.saw }
invoked_failed p path id done (gives (answer.DeviceFault n)) s seen t memory is = record { outcome = outcome_of done _ is.0 memory; calls = is.1.saw }

queried_failed : (p : Placed) (id : ℕ) (done : Done) (c : Called) (s : State) (seen : List HandlerCall) (t : State) → done.outcome ≡ outcome.Memory → IsQueried p id done c s seen t
    → IsFailure c seen
queried_failed p id done (gives answer.Running) s seen t memory is = absurd (no_content _ (outcome_of done _ is.0 memory))
queried_failed p id done (gives (answer.Finished None)) s seen t memory is = absurd (no_content _ (outcome_of done _ is.0 memory))
queried_failed p id done (gives (answer.Finished (Some tree))) s seen t memory (inl taken) = absurd (no_content _ (outcome_of done _ taken.1.0 memory))
queried_failed p id done (gives (answer.Finished (Some tree))) s seen t memory (inr bad) = record { outcome = outcome_of done _ bad.1.0 memory; calls = bad.1.1.saw }
queried_failed p id done no_number s seen t memory is = record { outcome = outcome_of done _ is.0 memory; calls = is.1.saw }
queried_failed p id done no_memory s seen t memory is = record { outcome = outcome_of done _ is.0 memory; calls = is.1.saw }
queried_failed p id done (gives (answer.Value tree)) s seen t memory is = record { outcome = outcome_of done _ is.0 memory; calls = is.1.saw }
queried_failed p id done (gives answer.Done) s seen t memory is = record { outcome = outcome_of done _ is.0 memory; calls = is.1.saw }
queried_failed p id done (gives answer.Started) s seen t memory is = record { outcome = outcome_of done _ is.0 memory; calls = is.1.saw }
queried_failed p id done (gives answer.Cancelled) s seen t memory is = record { outcome = outcome_of done _ is.0 memory; calls = is.1.saw }
queried_failed p id done (gives answer.Quiet) s seen t memory is = record { outcome = outcome_of done _ is.0 memory; calls = is.1.saw }
queried_failed p id done (gives (answer.Fired tree)) s seen t memory is = record { outcome = outcome_of done _ is.0 memory; calls = is.1.saw }
queried_failed p id done (gives (answer.Refused n)) s seen t memory is = record { outcome = outcome_of done _ is.0 memory; calls = is.1.saw }
queried_failed p id done (gives (answer.DeviceFault n)) s seen t memory is = record { outcome = outcome_of done _ is.0 memory; calls = is.1.saw }

cancelled_failed : (id : ℕ) (done : Done) (c : Called) (s : State) (seen : List HandlerCall) (t : State) → done.outcome ≡ outcome.Memory → IsCancelled id done c s seen t → IsFailure c seen
cancelled_failed id done (gives answer.Cancelled) s seen t memory is = absurd (deleted_differs (outcome_of done outcome.Deleted is.0 memory))
cancelled_failed id done no_number s seen t memory is = record { outcome = outcome_of done _ is.0 memory; calls = is.1.saw }
cancelled_failed id done no_memory s seen t memory is = record { outcome = outcome_of done _ is.0 memory; calls = is.1.saw }
cancelled_failed id done (gives (answer.Value tree)) s seen t memory is = record { outcome = outcome_of done _ is.0 memory; calls = is.1.saw }
cancelled_failed id done (gives answer.Done) s seen t memory is = record { outcome = outcome_of done _ is.0 memory; calls = is.1.saw }
cancelled_failed id done (gives answer.Started) s seen t memory is = record { outcome = outcome_of done _ is.0 memory; calls = is.1.saw }
cancelled_failed id done (gives answer.Running) s seen t memory is = record { outcome = outcome_of done _ is.0 memory; calls = is.1.saw }
cancelled_failed id done (gives (answer.Finished output)) s seen t memory is = record { outcome = outcome_of done _ is.0 memory; calls = is.1.saw }
cancelled_failed id done (gives answer.Quiet) s seen t memory is = record { outcome = outcome_of done _ is.0 memory; calls = is.1.saw }
cancelled_failed id done (gives (answer.Fired tree)) s seen t memory is = record { outcome = outcome_of done _ is.0 memory; calls = is.1.saw }
cancelled_failed id done (gives (answer.Refused n)) s seen t memory is = record { outcome = outcome_of done _ is.0 memory; calls = is.1.saw }
cancelled_failed id done (gives (answer.DeviceFault n)) s seen t memory is = record { outcome = outcome_of done _ is.0 memory; calls = is.1.saw }

failed_missed : (slot : ℕ) (what : CallKind) (c : Called) (s m : State) (first second seen : List HandlerCall) → Calls slot what c s first m → IsFailure c second → seen ≡ first ++ second
    → EndsInMiss seen
failed_missed slot what c s m first second seen called f whole = nothing_after first second seen (call_missed slot what c s first m f.outcome called) f.calls whole

queries_missed : (p : Placed) (id : ℕ) (status : Status) (done : Done) (s : State) (seen : List HandlerCall) (t : State) → done.outcome ≡ outcome.Memory → Queries p id status done s seen t
    → EndsInMiss seen
queries_missed p id running done s seen t memory r =
    let both = r.1 in failed_missed p.slot (call.Query id) r.0 s both.mid both.first both.second seen both.one (queried_failed p id done r.0 both.mid both.second t memory both.other) both.whole
queries_missed p id (completed output) done s seen t memory r = absurd (no_content _ (outcome_of done _ r.0 memory))

cancels_missed : (p : Placed) (id : ℕ) (status : Status) (done : Done) (s : State) (seen : List HandlerCall) (t : State) → done.outcome ≡ outcome.Memory → Cancels p id status done s seen t
    → EndsInMiss seen
cancels_missed p id running done s seen t memory r =
    let both = r.1 in failed_missed p.slot (call.Cancel id) r.0 s both.mid both.first both.second seen both.one (cancelled_failed id done r.0 both.mid both.second t memory both.other) both.whole
cancels_missed p id (completed output) done s seen t memory r = absurd (deleted_differs (outcome_of done outcome.Deleted r.0 memory))

-- ---- requests

no_event : (o : Option (List ℕ)) → event_outcome o ≡ outcome.Memory → ⊥
no_event None e = absurd cc
no_event (Some text) e = no_content text e

no_description : (text : List ℕ) (b : Bool) → outcome.Description text b ≡ outcome.Memory → ⊥
no_description text b e = cc

no_wait : (n : ℕ) → outcome.Wait n ≡ outcome.Memory → ⊥
no_wait n e = cc

pub performs_missed : (act : ThingAct) (q : RequestSeen) (inputs : List Input) (done : Done) (s : State) (seen : List HandlerCall) (t : State) → done.outcome ≡ outcome.Memory
    → Performs act q inputs done s seen t → EndsInMiss seen
performs_missed (describes thing) q inputs done s seen t memory r = absurd (no_description _ _ (outcome_of done _ r.0 memory))
performs_missed (reads_all thing) q inputs done s seen t memory r = each_missed (readable thing) [] done s seen t memory r
performs_missed (writes_many thing) q inputs done s seen t memory r = writes_missed inputs [] done s seen t memory r
performs_missed (reads p) q inputs done s seen t memory (Ok value, is, read) = absurd (no_read q.conditions (version_of p.slot t.versions) (text_of value) (outcome_of done _ is memory))
performs_missed (reads p) q inputs done s seen t memory (Err o, is, read) = value_missed p (Err o) s seen t (ap (λ (x : Outcome). Err x) (outcome_of done o is memory)) read
performs_missed (writes p) q inputs done s seen t memory r = writes_missed inputs [] done s seen t memory r
performs_missed (invokes p) q inputs done s seen t memory r =
    let both = r.2.1 in
    failed_missed p.slot (call.Invoke s.next_invocation r.0) r.2.0 s both.mid both.first both.second seen both.one
    (invoked_failed p q.path s.next_invocation done r.2.0 both.mid both.second t memory both.other) both.whole
performs_missed (queries p id) q inputs done s seen t memory r = queries_missed p id r.0.status done s seen t memory r.2
performs_missed (cancels p id) q inputs done s seen t memory r = cancels_missed p id r.0.status done s seen t memory r.2
performs_missed (reads_event p) q inputs done s seen t memory r = absurd (no_event (last_of p.slot s.last) (outcome_of done _ r.0 memory))
performs_missed (waits p) q inputs done s seen t memory r = absurd (no_wait p.slot (outcome_of done _ r.0 memory))

-- no refusal is that
pub never_refused : (a : Asked) (o : Outcome) → IsRefusedBy refusals a o → o ≡ outcome.Memory → ⊥
never_refused a o (inl missing) e = absurd (let is : o ≡ outcome.NotFound = missing.1 in differ (sym is ∙ e))
  where
    differ : outcome.NotFound ≡ outcome.Memory → ⊥
    differ x = cc
never_refused a o (inr (n1, inl verb)) e = absurd (differ verb.1.0 (sym verb.1.2 ∙ e))
  where
    differ : (allow : _) → outcome.NotAllowed allow ≡ outcome.Memory → ⊥
    differ allow x = cc
never_refused a o (inr (n1, inr (n2, inl bad))) e = absurd (differ (sym bad.1 ∙ e))
  where
    differ : outcome.NotAcceptable ≡ outcome.Memory → ⊥
    differ x = cc
never_refused a o (inr (n1, inr (n2, inr (n3, inl bad)))) e = absurd (differ (sym bad.1 ∙ e))
  where
    differ : outcome.Format ≡ outcome.Memory → ⊥
    differ x = cc
never_refused a o (inr (n1, inr (n2, inr (n3, inr (n4, inl bad))))) e = absurd (differ (sym bad.1 ∙ e))
  where
    differ : outcome.BadValue ≡ outcome.Memory → ⊥
    differ x = cc
never_refused a o (inr (n1, inr (n2, inr (n3, inr (n4, inr (n5, inl bad)))))) e = absurd (differ (sym bad.1 ∙ e))
  where
    differ : outcome.TooLarge ≡ outcome.Memory → ⊥
    differ x = cc
never_refused a o (inr (n1, inr (n2, inr (n3, inr (n4, inr (n5, inr (n6, inl bad))))))) e = absurd (differ (sym bad.1 ∙ e))
  where
    differ : outcome.BadValue ≡ outcome.Memory → ⊥
    differ x = cc
never_refused a o (inr (n1, inr (n2, inr (n3, inr (n4, inr (n5, inr (n6, inr (n7, inl bad)))))))) e = absurd (differ (sym bad.1 ∙ e))
  where
    differ : outcome.PreconditionFailed ≡ outcome.Memory → ⊥
    differ x = cc
never_refused a o (inr (n1, inr (n2, inr (n3, inr (n4, inr (n5, inr (n6, inr (n7, inr (n8, inl bad))))))))) e = absurd (differ (sym bad.1 ∙ e))
  where
    differ : outcome.InvocationsFull ≡ outcome.Memory → ⊥
    differ x = cc
never_refused a o (inr (n1, inr (n2, inr (n3, inr (n4, inr (n5, inr (n6, inr (n7, inr (n8, inr (n9, none)))))))))) e = none

pub memory_is_seen : MemoryIsSeen
memory_is_seen site q done s t seen (refuses o refused answers) memory =
    absurd (never_refused (record { site = site; state = s; request = q }) o refused (outcome_of done o answers.0 memory))
memory_is_seen site q done s t seen (has_no_memory answers) memory = inl (record { calls = answers.1.saw; thing = answers.1.next })
memory_is_seen site q done s t seen (performs act inputs free asked given move) memory = inr (performs_missed act q inputs done s seen t memory move)
