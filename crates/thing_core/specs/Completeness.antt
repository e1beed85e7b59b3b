-- The outcome of a request that nothing is against, and whose devices answer as they should.
use Rattle.std.specs.Prelude.{◌≡◌, ◌⊎◌, ℕ, List, [], ◌∷◌, Option, Some, None}
use Rattle.std.specs.List.{AllByRecursion}
use Rattle.wot_json.specs.Tree.{Json}
use Rattle.wot_json.specs.Json.{text_of}
use Rattle.wot_json.specs.Meaning.{json_of}
use Rattle.wot_json.specs.declared.tree.Tree.{Tree}
use Rattle.thing_ops.specs.declared.outcome.Outcome.{Outcome}
use Rattle.thing_ops.specs.declared.outcome.Outcome.TheVariants as outcome
use Rattle.thing_ops.specs.declared.conditions.Conditions.{Conditions}
use Rattle.thing_ops.specs.Requests.{RequestSeen}
use Rattle.thing_handler.specs.declared.handler.CallKind.{CallKind}
use Rattle.thing_handler.specs.declared.handler.CallKind.TheVariants as call
use Rattle.thing_handler.specs.declared.handler.Answer.{Answer}
use Rattle.thing_handler.specs.declared.handler.Answer.TheVariants as answer
use Rattle.thing_handler.specs.Turns.{HandlerCall, answered, missed}
use Rattle.thing_site.specs.Site.{Placed, Site}
use Rattle.thing_state.specs.State.{State, most_turns}
use Rattle.thing_site.specs.declared.place.ThingAct.{ThingAct}
use Rattle.thing_site.specs.declared.place.ThingAct.TheVariants as act
use Rattle.thing_core.specs.Refusals.{act_asked, refusals, NoneStands}
use Rattle.thing_core.specs.Thing.{Done, Acts, read_outcome}
use Rattle.thing_state.specs.Calls.{IsTaken}
use Rattle.thing_core.specs.Performing.{affordances_of_act}

-- ---- answers in kind

-- an output is taken, where there is one
abbrev pub IsOutputTaken : Option Json → Option Tree → Type 0
IsOutputTaken schema None = Unit {0}
IsOutputTaken schema (Some tree) = IsTaken schema (json_of tree)

-- such a call may be answered so; a value must be taken
abbrev pub IsInKind : Option Json → CallKind → Answer → Type 0
IsInKind schema call.Read (answer.Value tree) = IsTaken schema (json_of tree)
IsInKind schema (call.Write value) answer.Done = Unit {0}
IsInKind schema (call.Invoke id input) answer.Started = Unit {0}
IsInKind schema (call.Invoke id input) (answer.Finished output) = IsOutputTaken schema output
IsInKind schema (call.Query id) answer.Running = Unit {0}
IsInKind schema (call.Query id) (answer.Finished output) = IsOutputTaken schema output
IsInKind schema (call.Cancel id) answer.Cancelled = Unit {0}
IsInKind schema call.Poll answer.Quiet = Unit {0}
IsInKind schema call.Poll (answer.Fired tree) = IsTaken schema (json_of tree)
IsInKind schema what a = ⊥

-- whenever the handler of an affordance answered, it answered in kind
abbrev pub AnswersInKind : List HandlerCall → Placed → Type 0
AnswersInKind [] p = Unit {0}
AnswersInKind (answered turn ∷ calls) p = (turn.slot ≡ p.slot → IsInKind p.affordance.output turn.what turn.answer) × AnswersInKind calls p
AnswersInKind (missed slot ∷ calls) p = AnswersInKind calls p

-- ---- successes

-- a value that has no version of its own
abbrev pub IsContent : Outcome → Type 0
IsContent o = (text : List ℕ) × (o ≡ outcome.Content text None)

-- one property was read, and judged by some version: its value with that version, or its sender has it, or it isn't
-- what the request asks for
abbrev pub IsRead : Conditions → Outcome → Type 0
IsRead c o = (version : ℕ) × (text : List ℕ) × (o ≡ read_outcome c version text)

-- an action is finished, without an output or with one, or runs
abbrev pub IsInvocation : Outcome → Type 0
IsInvocation o =
    (o ≡ outcome.Changed)
    ⊎ (((text : List ℕ) × (o ≡ outcome.Output text)) ⊎ ((place : List (List ℕ)) × (text : List ℕ) × (o ≡ outcome.Started place text)))

-- the outcome of each act where it succeeds, by the table of acts
abbrev pub IsSuccess : ThingAct → RequestSeen → Outcome → Type 0
IsSuccess (act.Describes thing) q o = o ≡ outcome.Description (text_of thing.description) q.accept.td
IsSuccess (act.ReadsAll thing) q o = IsContent o
IsSuccess (act.WritesMany thing) q o = o ≡ outcome.Changed
IsSuccess (act.Reads p) q o = IsRead q.conditions o
IsSuccess (act.Writes p) q o = o ≡ outcome.Changed
IsSuccess (act.Invokes p) q o = IsInvocation o
IsSuccess (act.Queries p id) q o = IsContent o
IsSuccess (act.Cancels p id) q o = o ≡ outcome.Deleted
IsSuccess (act.ReadsEvent p) q o = (o ≡ outcome.Empty) ⊎ IsContent o
IsSuccess (act.Waits p) q o = o ≡ outcome.Wait p.slot

-- a success; or it is out of memory, or the run has no number left for a turn
pub data Succeeds (S : Outcome → Type 0) (o : Outcome) (t : State) : Type 0 where
  succeeds : S o → Succeeds S o t
  lacks_memory : o ≡ outcome.Memory → Succeeds S o t
  lacks_numbers : o ≡ outcome.CallsUsed → t.turns ≡ most_turns t.left_out → Succeeds S o t

-- Where no refusal holds of a request, and the handlers that its act may call answer in kind, its outcome is the
-- success of its act; or it is out of memory, or the run has no number left for a turn.
abbrev pub IsComplete : Site → RequestSeen → Type 0
IsComplete site q =
    (act : ThingAct) (done : Done) (s t : State) (seen : List HandlerCall) → Acts site q done s seen t
    → NoneStands refusals (record { site = site; state = s; request = q })
    → act_asked (record { site = site; state = s; request = q }) ≡ Some act
    → AllByRecursion (AnswersInKind seen) (affordances_of_act act)
    → Succeeds (IsSuccess act q) done.outcome t
