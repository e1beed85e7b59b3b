-- The Thing machine: requests to Things with their outcomes, and polls of their events, as moves over a state
-- (servient_base/specs/Moves.antt). The trace of a move has the calls of device handlers: those that were answered,
-- which are turns, and those for which a handler was out of memory.
use Rattle.std.specs.Prelude.{◌≡◌, ◌+◌, ◌⊎◌, ℕ, List, [], ◌∷◌, ◌++◌, decimal, Bool, not, Option, Some, None, Result, Ok, Err, if◌then◌else◌}
use Rattle.std.specs.List.{filter}
use Rattle.servient_base.specs.Moves.{Becomes, Stays, Then, Passing}
use Rattle.wot_json.specs.Tree.{Json, object, members_of}
use Rattle.wot_json.specs.Json.{text_of}
use Rattle.wot_json.specs.Meaning.{json_of}
use Rattle.wot_json.specs.declared.tree.Tree.{Tree}
use Rattle.wot_terms.specs.declared.kind.Kind.TheVariants as kind
use Rattle.thing_ops.specs.declared.conditions.Conditions.{Conditions}
use Rattle.thing_ops.specs.declared.outcome.Outcome.{Outcome}
use Rattle.thing_ops.specs.declared.outcome.Outcome.TheVariants as outcome
use Rattle.thing_ops.specs.Conditions.{fails, has}
use Rattle.thing_ops.specs.Requests.{RequestSeen}
use Rattle.thing_handler.specs.declared.handler.CallKind.TheVariants as call
use Rattle.thing_handler.specs.declared.handler.Answer.TheVariants as answer
use Rattle.thing_handler.specs.Turns.{HandlerCall}
use Rattle.thing_site.specs.Site.{Placed, ExposedThing, Site, those_of, events_of}
use Rattle.thing_state.specs.State.{Status, running, completed, Invocation, State, Emission, invocation_named, without_invocation, with_completed, with_running, status_text, last_of, last_after, versions_after, version_of, with_seen, with_id_used, with_invocations}
use Rattle.thing_site.specs.declared.place.ThingAct.{ThingAct}
use Rattle.thing_site.specs.declared.place.ThingAct.TheVariants as act
use Rattle.thing_site.specs.Refusals.{Input, inputs_of}
use Rattle.thing_state.specs.Calls.{Move, Called, gives, Calls, failure_of, IsTaken}
use Rattle.thing_core.specs.Refusals.{act_asked, refusals, IsRefusedBy, NoneStands}

-- the outcome of a request, and what is emitted meanwhile, in order
pub record Done : Type 0 where
  pub outcome : Outcome
  pub emissions : List Emission

abbrev pub only : Outcome → Done
only o = record { outcome = o; emissions = [] }

-- the one where this holds, and else the other
abbrev pub Decides : {A : Type 0} → Type 0 → A → A → A → Type 0
Decides P one otherwise result = (P × (result ≡ one)) ⊎ ((¬ P) × (result ≡ otherwise))

-- ---- properties

-- the value that a call for one gives, or the outcome instead
abbrev pub GivesValue : Option Json → Called → Result Json Outcome → Type 0
GivesValue schema (gives (answer.Value tree)) r = Decides (IsTaken schema (json_of tree)) (Ok (json_of tree)) (Err outcome.BadAnswer) r
GivesValue schema called r = r ≡ Err (failure_of called)

-- the value that a property gave is seen, where it gave one
abbrev pub with_value : Placed → Result Json Outcome → State → State
with_value p (Ok value) s = with_seen p.slot (text_of value) s
with_value p (Err o) s = s

-- a property is read: one call, and what it gives is seen
abbrev pub ReadsValue : Placed → Result Json Outcome → Move
ReadsValue p r =
    Passing (Calls p.slot call.Read) (λ called s seen t. GivesValue p.affordance.output called r × Becomes (with_value p r s) [] seen t)

-- The outcome of reading one property at this version, with this text: its value, unless the version isn't what the
-- request asks for, or its sender has that version (RFC 9110, sections 13.1.1 to 13.2.2; RFC 7252, section 5.10.6.2).
abbrev pub read_outcome : Conditions → ℕ → List ℕ → Outcome
read_outcome c version text =
    if fails c version then outcome.PreconditionFailed
    else if has c.known version then outcome.NotModified version
    else outcome.Content text (Some version)

abbrev pub outcome_of_read : Conditions → ℕ → Result Json Outcome → Outcome
outcome_of_read c version (Ok value) = read_outcome c version (text_of value)
outcome_of_read c version (Err o) = o

-- one property is read, and judged by the version that it then has
abbrev pub Reads : Placed → Conditions → Done → Move
Reads p c done s seen t =
    (r : Result Json Outcome) × (done ≡ only (outcome_of_read c (version_of p.slot t.versions) r)) × ReadsValue p r s seen t

-- those of a Thing that aren't write-only
abbrev pub is_readable : Placed → Bool
is_readable p = not p.affordance.write_only

abbrev pub readable : ExposedThing → List Placed
readable thing = filter is_readable (those_of kind.Property thing)

-- several are read, one after another, until one fails; with those that were read so far
abbrev pub ReadsEach : List Placed → List (List ℕ × Json) → Done → Move
ReadsEach [] got done s seen t = (done ≡ only (outcome.Content (text_of (object (members_of got))) None)) × Stays s seen t
ReadsEach (p ∷ ps) got done s seen t =
    Passing (ReadsValue p)
    (λ r. elim r as (λ _. Move) [
      | Ok value ↦ ReadsEach ps (got ++ (p.affordance.name, value) ∷ []) done
      | Err o ↦ λ u after v. (done ≡ only o) × Stays u after v
    ]) s seen t

-- an emission becomes the last value of its affordance
abbrev pub Emits : List Emission → Move
Emits emissions s = Becomes (record s { last = last_after emissions s.last }) []

abbrev pub emission : Placed → Json → Emission
emission p value = record { target = p.slot; text = text_of value }

-- an observable property emits what is written to it (TD 1.1, section 5.3.1.3)
abbrev pub emissions_of_write : Input → List Emission
emissions_of_write i = if i.affordance.affordance.observable then emission i.affordance i.value ∷ [] else []

-- a value that was written is seen, and is emitted where the property is observable
abbrev pub SeesWritten : Input → Move
SeesWritten i s =
    Becomes (record s {
      versions = versions_after i.affordance.slot (text_of i.value) s.versions;
      last = last_after (emissions_of_write i) s.last;
    }) []

-- this is the outcome, with what was emitted so far
abbrev pub Stops : Outcome → List Emission → Done → Move
Stops o emitted done s seen t = (done ≡ record { outcome = o; emissions = emitted }) × Stays s seen t

-- one move where the device did what it was asked, and else another
abbrev pub IfDone : Called → Move → Move → Move
IfDone (gives answer.Done) further otherwise = further
IfDone called further otherwise = otherwise

-- several values are written, one after another, until one isn't done; with what was emitted so far. Those that were
-- written stay and were emitted.
abbrev pub WritesEach : List Input → List Emission → Done → Move
WritesEach [] emitted done s seen t = Stops outcome.Changed emitted done s seen t
WritesEach (i ∷ inputs) emitted done s seen t =
    (tree : Tree) × (json_of tree ≡ i.value)
    × Passing (Calls i.affordance.slot (call.Write tree))
    (λ called. IfDone called (Then (SeesWritten i) (WritesEach inputs (emitted ++ emissions_of_write i) done))
    (Stops (failure_of called) emitted done)) s seen t

-- ---- actions

-- the value that is handed in to an action: that of its input, or none
abbrev pub IsHandedIn : List Input → Option Tree → Type 0
IsHandedIn [] handed = handed ≡ None
IsHandedIn (i ∷ inputs) handed = (tree : Tree) × (json_of tree ≡ i.value) × (handed ≡ Some tree)

-- the path of an invocation: that of its action, and the id
abbrev pub place_of_invocation : List (List ℕ) → ℕ → List (List ℕ)
place_of_invocation path id = path ++ decimal id ∷ []

-- the effect of the answer to an invocation of this id
abbrev pub IsInvoked : Placed → List (List ℕ) → ℕ → Done → Called → Move
IsInvoked p path id done (gives answer.Started) s seen t =
    (done ≡ only (outcome.Started (place_of_invocation path id) (status_text id running)))
    × Becomes (with_id_used (with_invocations (with_running id p.slot s.invocations) s)) [] seen t
IsInvoked p path id done (gives (answer.Finished None)) s seen t = (done ≡ only outcome.Changed) × Becomes (with_id_used s) [] seen t
IsInvoked p path id done (gives (answer.Finished (Some tree))) s seen t =
    Decides (IsTaken p.affordance.output (json_of tree)) (only (outcome.Output (text_of (json_of tree)))) (only outcome.BadAnswer) done
    × Becomes (with_id_used s) [] seen t
IsInvoked p path id done (gives a) s seen t = (done ≡ only (failure_of (gives a))) × Becomes (with_id_used s) [] seen t
IsInvoked p path id done called s seen t = (done ≡ only (failure_of called)) × Stays s seen t

abbrev pub Invokes : Placed → List (List ℕ) → List Input → Done → Move
Invokes p path inputs done s seen t =
    (handed : Option Tree) × IsHandedIn inputs handed
    × Passing (Calls p.slot (call.Invoke s.next_invocation handed)) (IsInvoked p path s.next_invocation done) s seen t

-- an invocation is asked about that runs no more: its status, and no call
abbrev pub Tells : ℕ → Status → Done → Move
Tells id status done s seen t = (done ≡ only (outcome.Content (status_text id status) None)) × Stays s seen t

-- it finishes with this output
abbrev pub Completes : ℕ → Option (List ℕ) → Done → Move
Completes id output done s seen t =
    (done ≡ only (outcome.Content (status_text id (completed output)) None))
    × Becomes (with_invocations (with_completed id output s.invocations) s) [] seen t

abbrev pub Fails : Called → Done → Move
Fails called done s seen t = (done ≡ only (failure_of called)) × Stays s seen t

-- the effect of the answer to a query; where it is no success the invocation is as it was
abbrev pub IsQueried : Placed → ℕ → Done → Called → Move
IsQueried p id done (gives answer.Running) s seen t = Tells id running done s seen t
IsQueried p id done (gives (answer.Finished None)) s seen t = Completes id None done s seen t
IsQueried p id done (gives (answer.Finished (Some tree))) s seen t =
    (IsTaken p.affordance.output (json_of tree) × Completes id (Some (text_of (json_of tree))) done s seen t)
    ⊎ ((¬ (IsTaken p.affordance.output (json_of tree))) × Fails (gives (answer.Finished (Some tree))) done s seen t)
IsQueried p id done called s seen t = Fails called done s seen t

abbrev pub Queries : Placed → ℕ → Status → Done → Move
Queries p id running done s seen t = Passing (Calls p.slot (call.Query id)) (IsQueried p id done) s seen t
Queries p id (completed output) done s seen t = Tells id (completed output) done s seen t

-- an invocation goes
abbrev pub Removes : ℕ → Done → Move
Removes id done s seen t = (done ≡ only outcome.Deleted) × Becomes (with_invocations (without_invocation id s.invocations) s) [] seen t

abbrev pub IsCancelled : ℕ → Done → Called → Move
IsCancelled id done (gives answer.Cancelled) s seen t = Removes id done s seen t
IsCancelled id done called s seen t = Fails called done s seen t

abbrev pub Cancels : Placed → ℕ → Status → Done → Move
Cancels p id running done s seen t = Passing (Calls p.slot (call.Cancel id)) (IsCancelled id done) s seen t
Cancels p id (completed output) done s seen t = Removes id done s seen t

-- the status of an invocation decides what is done to it
abbrev pub OnInvocation : Placed → ℕ → (Status → Done → Move) → Done → Move
OnInvocation p id ByStatus done s seen t =
    (i : Invocation) × (invocation_named p.slot id s.invocations ≡ Some i) × ByStatus i.status done s seen t

-- ---- requests

-- the last emission of an event, where there was one
abbrev pub event_outcome : Option (List ℕ) → Outcome
event_outcome None = outcome.Empty
event_outcome (Some text) = outcome.Content text None

-- nothing is done but to answer
abbrev pub Answers : Outcome → Done → Move
Answers o done s seen t = (done ≡ only o) × Stays s seen t

-- The effect of each act, with these inputs: the table of acts.
abbrev pub Performs : ThingAct → RequestSeen → List Input → Done → Move
Performs (act.Describes thing) q inputs done s seen t = Answers (outcome.Description (text_of thing.description) q.accept.td) done s seen t
Performs (act.ReadsAll thing) q inputs done s seen t = ReadsEach (readable thing) [] done s seen t
Performs (act.WritesMany thing) q inputs done s seen t = WritesEach inputs [] done s seen t
Performs (act.Reads p) q inputs done s seen t = Reads p q.conditions done s seen t
Performs (act.Writes p) q inputs done s seen t = WritesEach inputs [] done s seen t
Performs (act.Invokes p) q inputs done s seen t = Invokes p q.path inputs done s seen t
Performs (act.Queries p id) q inputs done s seen t = OnInvocation p id (Queries p id) done s seen t
Performs (act.Cancels p id) q inputs done s seen t = OnInvocation p id (Cancels p id) done s seen t
Performs (act.ReadsEvent p) q inputs done s seen t = Answers (event_outcome (last_of p.slot s.last)) done s seen t
Performs (act.Waits p) q inputs done s seen t = Answers (outcome.Wait p.slot) done s seen t

-- A request to Things, and its outcome.
pub data Acts (site : Site) (q : RequestSeen) (done : Done) (s : State) (seen : List HandlerCall) (t : State) : Type 0 where
  -- the first refusal that holds decides, and no handler is called
  refuses : (o : Outcome) → IsRefusedBy refusals (record { site = site; state = s; request = q }) o → Answers o done s seen t
      → Acts site q done s seen t
  -- it may be out of memory before the first call of a handler
  has_no_memory : Answers outcome.Memory done s seen t → Acts site q done s seen t
  -- none holds, and the act is done
  performs : (act : ThingAct) → (inputs : List Input) → NoneStands refusals (record { site = site; state = s; request = q })
      → act_asked (record { site = site; state = s; request = q }) ≡ Some act → inputs_of act q.body ≡ Some inputs
      → Performs act q inputs done s seen t → Acts site q done s seen t

-- ---- polls

-- the emission of the answer to a poll: a value that is taken
abbrev pub IsPolled : Placed → List Emission → Called → Type 0
IsPolled p emissions (gives (answer.Fired tree)) = Decides (IsTaken p.affordance.output (json_of tree)) (emission p (json_of tree) ∷ []) [] emissions
IsPolled p emissions called = emissions ≡ []

-- an event is polled: one call
abbrev pub PollsEvent : Placed → List Emission → Move
PollsEvent p emissions = Passing (Calls p.slot call.Poll) (λ called s seen t. IsPolled p emissions called × Emits emissions s seen t)

-- several are, one after another
abbrev pub PollsEach : List Placed → List Emission → Move
PollsEach [] emissions s seen t = (emissions ≡ []) × Stays s seen t
PollsEach (p ∷ ps) emissions s seen t =
    (one rest : List Emission) × (emissions ≡ one ++ rest) × Then (PollsEvent p one) (PollsEach ps rest) s seen t

-- All events are polled, in the order of Things and names.
abbrev pub Polls : Site → List Emission → Move
Polls site = PollsEach (events_of site.things)
