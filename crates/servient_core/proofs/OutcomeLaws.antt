-- The outcome of a request can be sent by CoAP.
use Rattle.std.proofs.Common.{◌≡◌, ℕ, ◌<◌, ◌≤◌, ◌^◌, Bool, true, false, cond, List, [], ◌∷◌, ◌++◌, length, refl, sym, ap, subst, ◌∙◌, arith, inl, inr, length-append}
use Rattle.std.specs.Prelude.{Option, Some, None, Result, Ok, Err, decimal, codes}
use Rattle.std.specs.List.{All}
use Rattle.std.proofs.lemmas.List.Elements.{All-append}
use Rattle.std.proofs.lemmas.Fmt.{length-decimal-le}
use Rattle.servient_base.specs.Moves.{Then}
use Rattle.wot_json.specs.Tree.{Json, object, members_of}
use Rattle.wot_json.specs.Json.{text_of}
use Rattle.wot_json.specs.Meaning.{json_of}
use Rattle.thing_ops.specs.declared.conditions.Conditions.{Conditions}
use Rattle.thing_ops.specs.Conditions.{fails, has}
use Rattle.thing_ops.specs.declared.outcome.Outcome.{Outcome}
use Rattle.thing_ops.specs.declared.outcome.Outcome.TheVariants as outcome
use Rattle.thing_ops.specs.Requests.{RequestSeen}
use Rattle.thing_handler.specs.declared.handler.Answer.TheVariants as answer
use Rattle.thing_handler.specs.Turns.{HandlerCall}
use Rattle.thing_site.specs.Site.{Placed, Site}
use Rattle.thing_state.specs.State.{State, Status, running, completed, Emission, status_text, last_of, version_of}
use Rattle.thing_site.specs.declared.place.ThingAct.{ThingAct}
use Rattle.thing_site.specs.declared.place.ThingAct.TheVariants.{Describes as describes, ReadsAll as reads_all, WritesMany as writes_many, Reads as reads, Writes as writes, Invokes as invokes, Queries as queries, Cancels as cancels, ReadsEvent as reads_event, Waits as waits}
use Rattle.thing_site.specs.Refusals.{Input, Refusal, nothing_there, verb_not_taken, answer_not_acceptable, format_not_taken, body_not_as_wanted, value_too_large, refused_by_schema, condition_failed, no_invocation_left, IsFirst}
use Rattle.thing_core.specs.Refusals.{Asked, refusals, Stands, IsAnsweredWith}
use Rattle.thing_core.specs.Thing.{Done, only, GivesValue, ReadsValue, ReadsEach, WritesEach, IfDone, SeesWritten, emissions_of_write, Stops, IsInvoked, place_of_invocation, IsQueried, Queries, IsCancelled, Cancels, event_outcome, outcome_of_read, read_outcome, readable, Performs, Acts, refuses, has_no_memory, performs}
use Rattle.thing_state.specs.Calls.{Called, no_number, no_memory, gives, failure_of}
use Rattle.thing_core.proofs.ReadLaws.{AfterValue}
use Rattle.servient_core.specs.Keeping.{IsSendable}
use Rattle.servient_core.proofs.ActionPaths.{IsShortPath, ShortIfInvoked, short_if_invoked}

sendable_as : (o p : Outcome) → o ≡ p → IsSendable p → IsSendable o
sendable_as o p same s = subst (λ (x : Outcome). IsSendable x) (sym same) s

-- a deed that is done so has this outcome
outcome_is : (done : Done) (o : Outcome) → done ≡ only o → IsSendable o → IsSendable done.outcome
outcome_is done o is s = sendable_as done.outcome o (ap (λ (d : Done). d.outcome) is) s

failure_sendable : (c : Called) → IsSendable (failure_of c)
failure_sendable no_number = (refl, tt)
failure_sendable no_memory = (refl, tt)
failure_sendable (gives (answer.Value tree)) = (refl, tt)
failure_sendable (gives answer.Done) = (refl, tt)
failure_sendable (gives answer.Started) = (refl, tt)
failure_sendable (gives answer.Running) = (refl, tt)
failure_sendable (gives (answer.Finished output)) = (refl, tt)
failure_sendable (gives answer.Cancelled) = (refl, tt)
failure_sendable (gives answer.Quiet) = (refl, tt)
failure_sendable (gives (answer.Fired tree)) = (refl, tt)
failure_sendable (gives (answer.Refused n)) = (refl, tt)
failure_sendable (gives (answer.DeviceFault n)) = (refl, tt)

-- ---- refusals

refusal_sendable : (r : Refusal) (a : Asked) (o : Outcome) → IsAnsweredWith r a o → IsSendable o
refusal_sendable nothing_there a o is = sendable_as o outcome.NotFound is (refl, tt)
refusal_sendable verb_not_taken a o is = sendable_as o (outcome.NotAllowed is.0) is.2 (refl, tt)
refusal_sendable answer_not_acceptable a o is = sendable_as o outcome.NotAcceptable is (refl, tt)
refusal_sendable format_not_taken a o is = sendable_as o outcome.Format is (refl, tt)
refusal_sendable body_not_as_wanted a o is = sendable_as o outcome.BadValue is (refl, tt)
refusal_sendable value_too_large a o is = sendable_as o outcome.TooLarge is (refl, tt)
refusal_sendable refused_by_schema a o is = sendable_as o outcome.BadValue is (refl, tt)
refusal_sendable condition_failed a o is = sendable_as o outcome.PreconditionFailed is (refl, tt)
refusal_sendable no_invocation_left a o is = sendable_as o outcome.InvocationsFull is (refl, tt)

first_sendable : (S : Refusal → Type 0) (a : Asked) (rs : List Refusal) (o : Outcome) → IsFirst S (λ r. IsAnsweredWith r a) rs o → IsSendable o
first_sendable S a [] o is = absurd is
first_sendable S a (r ∷ rs) o (inl first) = refusal_sendable r a o first.1
first_sendable S a (r ∷ rs) o (inr later) = first_sendable S a rs o later.1

-- ---- properties

abbrev error_of : Result Json Outcome → Outcome
error_of (Ok value) = outcome.Memory
error_of (Err o) = o

error_is : (r : Result Json Outcome) (o p : Outcome) → r ≡ Err o → r ≡ Err p → IsSendable p → IsSendable o
error_is r o p one same s = sendable_as o p (ap error_of (sym one ∙ same)) s

differ : (r : Result Json Outcome) (o : Outcome) (v : Json) → r ≡ Err o → r ≡ Ok v → ⊥
differ r o v e is = cc

no_value_sendable : (schema : Option Json) (c : Called) (r : Result Json Outcome) (o : Outcome) → r ≡ Err o → GivesValue schema c r → IsSendable o
no_value_sendable schema (gives (answer.Value tree)) r o e (inl taken) = absurd (differ r o _ e taken.1)
no_value_sendable schema (gives (answer.Value tree)) r o e (inr bad) = error_is r o outcome.BadAnswer e bad.1 (refl, tt)
no_value_sendable schema no_number r o e is = error_is r o _ e is (failure_sendable no_number)
no_value_sendable schema no_memory r o e is = error_is r o _ e is (failure_sendable no_memory)
no_value_sendable schema (gives answer.Done) r o e is = error_is r o _ e is (failure_sendable (gives answer.Done))
no_value_sendable schema (gives answer.Started) r o e is = error_is r o _ e is (failure_sendable (gives answer.Started))
no_value_sendable schema (gives answer.Running) r o e is = error_is r o _ e is (failure_sendable (gives answer.Running))
no_value_sendable schema (gives (answer.Finished output)) r o e is = error_is r o _ e is (failure_sendable (gives (answer.Finished output)))
no_value_sendable schema (gives answer.Cancelled) r o e is = error_is r o _ e is (failure_sendable (gives answer.Cancelled))
no_value_sendable schema (gives answer.Quiet) r o e is = error_is r o _ e is (failure_sendable (gives answer.Quiet))
no_value_sendable schema (gives (answer.Fired tree)) r o e is = error_is r o _ e is (failure_sendable (gives (answer.Fired tree)))
no_value_sendable schema (gives (answer.Refused n)) r o e is = error_is r o _ e is (failure_sendable (gives (answer.Refused n)))
no_value_sendable schema (gives (answer.DeviceFault n)) r o e is = error_is r o _ e is (failure_sendable (gives (answer.DeviceFault n)))

-- one property was read
read_sendable : (p : Placed) (r : Result Json Outcome) (s : State) (seen : List HandlerCall) (t : State) → ReadsValue p r s seen t → (o : Outcome) → r ≡ Err o → IsSendable o
read_sendable p r s seen t v o is =
    no_value_sendable p.affordance.output v.0 r o is v.1.other.0

-- a property is read
judged_sendable : (c : Conditions) (version : ℕ) (text : List ℕ) → IsSendable (read_outcome c version text)
judged_sendable c version text = by_test (fails c version) (has c.known version)
  where
    by_test : (b d : Bool) → IsSendable (cond b outcome.PreconditionFailed (cond d (outcome.NotModified version) (outcome.Content text (Some version))))
    by_test true d = (refl, tt)
    by_test false true = (refl, tt)
    by_test false false = (refl, tt)

reads_sendable : (p : Placed) (c : Conditions) (version : ℕ) (done : Done) (r : Result Json Outcome) (s : State) (seen : List HandlerCall) (t : State) → ReadsValue p r s seen t
    → done ≡ only (outcome_of_read c version r) → IsSendable done.outcome
reads_sendable p c version done (Ok value) s seen t v is = outcome_is done (read_outcome c version (text_of value)) is (judged_sendable c version (text_of value))
reads_sendable p c version done (Err o) s seen t v is = outcome_is done o is (read_sendable p (Err o) s seen t v o refl)

-- several are
after_sendable : (p : Placed) (ps : List Placed) (got : List (List ℕ × Json)) (done : Done) (r : Result Json Outcome) (s m t : State) (first second : List HandlerCall)
    → ((value : Json) → ReadsEach ps (got ++ (p.affordance.name, value) ∷ []) done m second t → IsSendable done.outcome)
    → ReadsValue p r s first m → AfterValue p ps got done r m second t → IsSendable done.outcome
after_sendable p ps got done (Ok value) s m t first second further v rest = further value rest
after_sendable p ps got done (Err o) s m t first second further v rest = outcome_is done o rest.0 (read_sendable p (Err o) s first m v o refl)

each_sendable : (ps : List Placed) (got : List (List ℕ × Json)) (done : Done) (s : State) (seen : List HandlerCall) (t : State) → ReadsEach ps got done s seen t
    → IsSendable done.outcome
each_sendable [] got done s seen t r = outcome_is done (outcome.Content (text_of (object (members_of got))) None) r.0 (refl, tt)
each_sendable (p ∷ ps) got done s seen t r =
    after_sendable p ps got done r.0 s r.1.mid t r.1.first r.1.second
    (λ value rest. each_sendable ps (got ++ (p.affordance.name, value) ∷ []) done r.1.mid r.1.second t rest) r.1.one r.1.other

-- ---- writes

stops_sendable : (o : Outcome) (emitted : List Emission) (done : Done) (s : State) (seen : List HandlerCall) (t : State) → Stops o emitted done s seen t → IsSendable o
    → IsSendable done.outcome
stops_sendable o emitted done s seen t stops sendable = sendable_as done.outcome o (ap (λ (d : Done). d.outcome) stops.0) sendable

written_sendable : (i : Input) (inputs : List Input) (emitted : List Emission) (done : Done) (c : Called) (s : State) (seen : List HandlerCall) (t : State)
    → ((u : State) (after : List HandlerCall) → WritesEach inputs (emitted ++ emissions_of_write i) done u after t → IsSendable done.outcome)
    → IfDone c (Then (SeesWritten i) (WritesEach inputs (emitted ++ emissions_of_write i) done)) (Stops (failure_of c) emitted done) s seen t
    → IsSendable done.outcome
written_sendable i inputs emitted done (gives answer.Done) s seen t further r = further r.mid r.second r.other
written_sendable i inputs emitted done no_number s seen t further r = stops_sendable _ emitted done s seen t r (failure_sendable no_number)
written_sendable i inputs emitted done no_memory s seen t further r = stops_sendable _ emitted done s seen t r (failure_sendable no_memory)
written_sendable i inputs emitted done (gives (answer.Value tree)) s seen t further r = stops_sendable _ emitted done s seen t r (failure_sendable (gives (answer.Value tree)))
written_sendable i inputs emitted done (gives answer.Started) s seen t further r = stops_sendable _ emitted done s seen t r (failure_sendable (gives answer.Started))
written_sendable i inputs emitted done (gives answer.Running) s seen t further r = stops_sendable _ emitted done s seen t r (failure_sendable (gives answer.Running))
written_sendable i inputs emitted done (gives (answer.Finished output)) s seen t further r =
    stops_sendable _ emitted done s seen t r (failure_sendable (gives (answer.Finished output)))
written_sendable i inputs emitted done (gives answer.Cancelled) s seen t further r = stops_sendable _ emitted done s seen t r (failure_sendable (gives answer.Cancelled))
written_sendable i inputs emitted done (gives answer.Quiet) s seen t further r = stops_sendable _ emitted done s seen t r (failure_sendable (gives answer.Quiet))
written_sendable i inputs emitted done (gives (answer.Fired tree)) s seen t further r = stops_sendable _ emitted done s seen t r (failure_sendable (gives (answer.Fired tree)))
written_sendable i inputs emitted done (gives (answer.Refused n)) s seen t further r = stops_sendable _ emitted done s seen t r (failure_sendable (gives (answer.Refused n)))
written_sendable i inputs emitted done (gives (answer.DeviceFault n)) s seen t further r =
    stops_sendable _ emitted done s seen t r (failure_sendable (gives (answer.DeviceFault n)))

writes_sendable : (inputs : List Input) (emitted : List Emission) (done : Done) (s : State) (seen : List HandlerCall) (t : State)
    → WritesEach inputs emitted done s seen t → IsSendable done.outcome
writes_sendable [] emitted done s seen t r = stops_sendable outcome.Changed emitted done s seen t r (refl, tt)
writes_sendable (i ∷ inputs) emitted done s seen t r =
    let both = r.2.1 in
    written_sendable i inputs emitted done r.2.0 both.mid both.second t
    (λ u after rest. writes_sendable inputs (emitted ++ emissions_of_write i) done u after t rest) both.other

-- ---- actions

started_short : (path : List (List ℕ)) (id : ℕ) → IsShortPath path → id < 2 ^ 64 → IsSendable (outcome.Started (place_of_invocation path id) (status_text id running))
started_short path id short few =
    let digits : length (decimal id) ≤ 20 = length-decimal-le 20 id (omega arith) (omega (arith, few)) few in (
      refl,
      (
        omega (arith, length-append path (decimal id ∷ []), short.count),
        All-append (λ segment. length segment ≤ 255) path (decimal id ∷ []) short.each (search (arith, digits)),
        omega (arith, digits, length-append (codes "{\"id\":") (decimal id), length-append (codes "{\"id\":" ++ decimal id) (codes ",\"status\":\"running\"}")),
      ),
    )

invoked_sendable : (p : Placed) (path : List (List ℕ)) (id : ℕ) (done : Done) (c : Called) (s : State) (seen : List HandlerCall) (t : State) → IsShortPath path → id < 2 ^ 64
    → IsInvoked p path id done c s seen t → IsSendable done.outcome
invoked_sendable p path id done (gives answer.Started) s seen t short few is = outcome_is done _ is.0 (started_short path id short few)
invoked_sendable p path id done (gives (answer.Finished None)) s seen t short few is = outcome_is done outcome.Changed is.0 (refl, tt)
invoked_sendable p path id done (gives (answer.Finished (Some tree))) s seen t short few is =
    elim is.0 as (λ _. IsSendable done.outcome) [
      | inl taken ↦ outcome_is done (outcome.Output (text_of (json_of tree))) taken.1 (refl, tt)
      | inr bad ↦ outcome_is done outcome.BadAnswer bad.1 (refl, tt)
    ]
invoked_sendable p path id done no_number s seen t short few is = outcome_is done _ is.0 (failure_sendable no_number)
invoked_sendable p path id done no_memory s seen t short few is = outcome_is done _ is.0 (failure_sendable no_memory)
invoked_sendable p path id done (gives (answer.Value tree)) s seen t short few is = outcome_is done _ is.0 (failure_sendable (gives (answer.Value tree)))
invoked_sendable p path id done (gives answer.Done) s seen t short few is = outcome_is done _ is.0 (failure_sendable (gives answer.Done))
invoked_sendable p path id done (gives answer.Running) s seen t short few is = outcome_is done _ is.0 (failure_sendable (gives answer.Running))
invoked_sendable p path id done (gives answer.Cancelled) s seen t short few is = outcome_is done _ is.0 (failure_sendable (gives answer.Cancelled))
invoked_sendable p path id done (gives answer.Quiet) s seen t short few is = outcome_is done _ is.0 (failure_sendable (gives answer.Quiet))
invoked_sendable p path id done (gives (answer.Fired tree)) s seen t short few is = outcome_is done _ is.0 (failure_sendable (gives (answer.Fired tree)))
invoked_sendable p path id done (gives (answer.Refused n)) s seen t short few is = outcome_is done _ is.0 (failure_sendable (gives (answer.Refused n)))
invoked_sendable p path id done (gives (answer.DeviceFault n)) s seen t short few is = outcome_is done _ is.0 (failure_sendable (gives (answer.DeviceFault n)))

queried_sendable : (p : Placed) (id : ℕ) (done : Done) (c : Called) (s : State) (seen : List HandlerCall) (t : State) → IsQueried p id done c s seen t → IsSendable done.outcome
queried_sendable p id done (gives answer.Running) s seen t is = outcome_is done _ is.0 (refl, tt)
queried_sendable p id done (gives (answer.Finished None)) s seen t is = outcome_is done _ is.0 (refl, tt)
queried_sendable p id done (gives (answer.Finished (Some tree))) s seen t (inl taken) = outcome_is done _ taken.1.0 (refl, tt)
queried_sendable p id done (gives (answer.Finished (Some tree))) s seen t (inr bad) = outcome_is done _ bad.1.0 (failure_sendable (gives (answer.Finished (Some tree))))
queried_sendable p id done no_number s seen t is = outcome_is done _ is.0 (failure_sendable no_number)
queried_sendable p id done no_memory s seen t is = outcome_is done _ is.0 (failure_sendable no_memory)
queried_sendable p id done (gives (answer.Value tree)) s seen t is = outcome_is done _ is.0 (failure_sendable (gives (answer.Value tree)))
queried_sendable p id done (gives answer.Done) s seen t is = outcome_is done _ is.0 (failure_sendable (gives answer.Done))
queried_sendable p id done (gives answer.Started) s seen t is = outcome_is done _ is.0 (failure_sendable (gives answer.Started))
queried_sendable p id done (gives answer.Cancelled) s seen t is = outcome_is done _ is.0 (failure_sendable (gives answer.Cancelled))
queried_sendable p id done (gives answer.Quiet) s seen t is = outcome_is done _ is.0 (failure_sendable (gives answer.Quiet))
queried_sendable p id done (gives (answer.Fired tree)) s seen t is = outcome_is done _ is.0 (failure_sendable (gives (answer.Fired tree)))
queried_sendable p id done (gives (answer.Refused n)) s seen t is = outcome_is done _ is.0 (failure_sendable (gives (answer.Refused n)))
queried_sendable p id done (gives (answer.DeviceFault n)) s seen t is = outcome_is done _ is.0 (failure_sendable (gives (answer.DeviceFault n)))

cancelled_sendable : (id : ℕ) (done : Done) (c : Called) (s : State) (seen : List HandlerCall) (t : State) → IsCancelled id done c s seen t → IsSendable done.outcome
cancelled_sendable id done (gives answer.Cancelled) s seen t is = outcome_is done outcome.Deleted is.0 (refl, tt)
cancelled_sendable id done no_number s seen t is = outcome_is done _ is.0 (failure_sendable no_number)
cancelled_sendable id done no_memory s seen t is = outcome_is done _ is.0 (failure_sendable no_memory)
cancelled_sendable id done (gives (answer.Value tree)) s seen t is = outcome_is done _ is.0 (failure_sendable (gives (answer.Value tree)))
cancelled_sendable id done (gives answer.Done) s seen t is = outcome_is done _ is.0 (failure_sendable (gives answer.Done))
cancelled_sendable id done (gives answer.Started) s seen t is = outcome_is done _ is.0 (failure_sendable (gives answer.Started))
cancelled_sendable id done (gives answer.Running) s seen t is = outcome_is done _ is.0 (failure_sendable (gives answer.Running))
cancelled_sendable id done (gives (answer.Finished output)) s seen t is = outcome_is done _ is.0 (failure_sendable (gives (answer.Finished output)))
cancelled_sendable id done (gives answer.Quiet) s seen t is = outcome_is done _ is.0 (failure_sendable (gives answer.Quiet))
cancelled_sendable id done (gives (answer.Fired tree)) s seen t is = outcome_is done _ is.0 (failure_sendable (gives (answer.Fired tree)))
cancelled_sendable id done (gives (answer.Refused n)) s seen t is = outcome_is done _ is.0 (failure_sendable (gives (answer.Refused n)))
cancelled_sendable id done (gives (answer.DeviceFault n)) s seen t is = outcome_is done _ is.0 (failure_sendable (gives (answer.DeviceFault n)))

queries_sendable : (p : Placed) (id : ℕ) (status : Status) (done : Done) (s : State) (seen : List HandlerCall) (t : State) → Queries p id status done s seen t → IsSendable done.outcome
queries_sendable p id running done s seen t r = queried_sendable p id done r.0 r.1.mid r.1.second t r.1.other
queries_sendable p id (completed output) done s seen t r = outcome_is done _ r.0 (refl, tt)

cancels_sendable : (p : Placed) (id : ℕ) (status : Status) (done : Done) (s : State) (seen : List HandlerCall) (t : State) → Cancels p id status done s seen t → IsSendable done.outcome
cancels_sendable p id running done s seen t r = cancelled_sendable id done r.0 r.1.mid r.1.second t r.1.other
cancels_sendable p id (completed output) done s seen t r = outcome_is done outcome.Deleted r.0 (refl, tt)

-- ---- acts

event_sendable : (last : Option (List ℕ)) → IsSendable (event_outcome last)
event_sendable None = (refl, tt)
event_sendable (Some text) = (refl, tt)

performs_sendable : (act : ThingAct) (q : RequestSeen) (inputs : List Input) (done : Done) (s : State) (seen : List HandlerCall) (t : State) → ShortIfInvoked act q.path
    → s.next_invocation < 2 ^ 64 → Performs act q inputs done s seen t → IsSendable done.outcome
performs_sendable (describes thing) q inputs done s seen t short few r = outcome_is done _ r.0 (refl, tt)
performs_sendable (reads_all thing) q inputs done s seen t short few r = each_sendable (readable thing) [] done s seen t r
performs_sendable (writes_many thing) q inputs done s seen t short few r = writes_sendable inputs [] done s seen t r
performs_sendable (reads p) q inputs done s seen t short few r = reads_sendable p q.conditions (version_of p.slot t.versions) done r.0 s seen t r.2 r.1
performs_sendable (writes p) q inputs done s seen t short few r = writes_sendable inputs [] done s seen t r
performs_sendable (invokes p) q inputs done s seen t short few r =
    let both = r.2.1 in
    invoked_sendable p q.path s.next_invocation done r.2.0 both.mid both.second t short few both.other
performs_sendable (queries p id) q inputs done s seen t short few r = queries_sendable p id r.0.status done s seen t r.2
performs_sendable (cancels p id) q inputs done s seen t short few r = cancels_sendable p id r.0.status done s seen t r.2
performs_sendable (reads_event p) q inputs done s seen t short few r = outcome_is done _ r.0 (event_sendable (last_of p.slot s.last))
performs_sendable (waits p) q inputs done s seen t short few r = outcome_is done _ r.0 (refl, tt)

-- The outcome of a request can be sent by CoAP.
pub acts_sendable : (site : Site) (q : RequestSeen) (done : Done) (s : State) (seen : List HandlerCall) (t : State) → All (λ segment. length segment ≤ 255) q.path
    → s.next_invocation < 2 ^ 64 → Acts site q done s seen t → IsSendable done.outcome
acts_sendable site q done s seen t short few (refuses o refused answers) =
    outcome_is done o answers.0 (first_sendable (λ r. Stands r (record { site = site; state = s; request = q })) (record { site = site; state = s; request = q }) refusals o refused)
acts_sendable site q done s seen t short few (has_no_memory answers) = outcome_is done outcome.Memory answers.0 (refl, tt)
acts_sendable site q done s seen t short few (performs act inputs free asked given does) =
    performs_sendable act q inputs done s seen t (short_if_invoked site q s act short asked) few does
