-- Calls of handlers: what comes of one, and what it changes. A call is a move of the Thing machine
-- (servient_base/specs/Moves.antt), whose trace has the calls of device handlers: those that were answered, which are turns,
-- and those for which a handler was out of memory.
use Rattle.std.specs.Prelude.{◌≡◌, ◌<◌, ◌≤◌, ◌+◌, ℕ, List, [], ◌∷◌, length, Bool, true, false, Option, Some, None, Result, Ok, Err}
use Rattle.servient_base.specs.Moves.{Makes, Becomes, Stays}
use Rattle.wot_json.specs.Tree.{Json}
use Rattle.wot_json.specs.Json.{text_of}
use Rattle.wot_json.specs.declared.tree.Tree.{Tree}
use Rattle.thing_ops.specs.declared.outcome.Outcome.{Outcome}
use Rattle.thing_ops.specs.declared.outcome.Outcome.TheVariants as outcome
use Rattle.thing_handler.specs.declared.handler.CallKind.{CallKind}
use Rattle.thing_handler.specs.declared.handler.Answer.{Answer}
use Rattle.thing_handler.specs.declared.handler.Answer.TheVariants as answer
use Rattle.thing_handler.specs.Handler.{Seen}
use Rattle.thing_handler.specs.Turns.{HandlerCall, answered, missed, RackShows}
use Rattle.thing_site.specs.Refusals.{IsAccepted, longest_value}
use Rattle.thing_state.specs.State.{State, most_turns}
use Rattle.thing_state.specs.Course.{Course, HasRoom}

-- a move of this machine
abbrev pub Move : Type 1
Move = State → List HandlerCall → State → Type 0

-- ---- one call of a handler

-- the result of it: the run has no number left for a turn, the handler is out of memory, or it answers
pub data Called : Type 0 where
  no_number no_memory : Called
  gives : Answer → Called

abbrev pub Calls : ℕ → CallKind → Called → Move
Calls slot what no_number s seen t = (s.turns ≡ most_turns s.left_out) × Stays s seen t
Calls slot what no_memory s seen t = (s.turns < most_turns s.left_out) × Becomes s (missed slot ∷ []) seen t
Calls slot what (gives a) s seen t =
    (s.turns < most_turns s.left_out)
    × Becomes (record s { turns = s.turns + 1 }) (answered (record { number = s.turns; slot = slot; what = what; answer = a }) ∷ []) seen t

-- the outcome where that isn't a success of its act: a refusal and a fault of the device as they are; any other
-- answer is one that it mustn't give
abbrev pub failure_of : Called → Outcome
failure_of no_number = outcome.CallsUsed
failure_of no_memory = outcome.Memory
failure_of (gives (answer.Refused n)) = outcome.Refused n
failure_of (gives (answer.DeviceFault n)) = outcome.DeviceFault n
failure_of (gives a) = outcome.BadAnswer

-- a value of a device is taken where its schema, if it has one, accepts it, and its text is no
-- longer than a value may be
abbrev pub IsTaken : Option Json → Json → Type 0
IsTaken schema value = IsAccepted schema value × (length (text_of value) ≤ longest_value)

-- ---- a call that was made

-- a handler was called, and nothing else changed but the number of turns
pub record MakesCall (slot : ℕ) (what : CallKind) (called : Called) (old new : Course) (before after : List Seen) : Type 0 where
  pub made : Makes RackShows (Calls slot what called) old.state new.state before after
  pub pending : new.pending ≡ old.pending
  pub room : new.room ≡ old.room
  pub slots : length after ≡ length before

-- there was no answer, and this is the outcome of the request
abbrev pub IsUnanswered : Called → Outcome → Type 0
IsUnanswered no_number o = o ≡ outcome.CallsUsed
IsUnanswered no_memory o = o ≡ outcome.Memory
IsUnanswered (gives answer) o = ⊥

-- an answer, or the outcome of the request where there was none
abbrev pub ComesAs : Called → Result Answer Outcome → Type 0
ComesAs called (Ok answer) = called ≡ gives answer
ComesAs called (Err o) = IsUnanswered called o

-- where it was answered, a value of any property may be seen: the turn hasn't brought a version about yet
abbrev pub HasRoomAfter : Called → State → Type 0
HasRoomAfter (gives answer) s = HasRoom s
HasRoomAfter called s = Unit {0}

-- the same where this holds of what came of the call
pub record CallsFor (P : Called → Type 0) (slot : ℕ) (what : CallKind) (old new : Course) (before after : List Seen) : Type 0 where
  pub called : Called
  pub comes : P called
  pub versions : HasRoomAfter called new.state
  pub made : Makes RackShows (Calls slot what called) old.state new.state before after
  pub pending : new.pending ≡ old.pending
  pub room : new.room ≡ old.room
  pub slots : length after ≡ length before

abbrev pub has_fired : Called → Bool
has_fired (gives (answer.Fired value)) = true
has_fired called = false

-- the value that an event came about with
abbrev pub IsFired : Called → Option Tree → Type 0
IsFired called (Some value) = called ≡ gives (answer.Fired value)
IsFired called None = has_fired called ≡ false
