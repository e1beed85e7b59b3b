-- The calls of handlers in a run, and what a rack shows of them.
use Rattle.std.specs.Prelude.{◌≡◌, ◌<◌, ℕ, suc, ◌+◌, ◌==◌, List, [], ◌∷◌, ◌++◌, length, Option, Some, None, if◌then◌else◌}
use Rattle.std.specs.List.{AllByRecursion, filter_map}
use Rattle.servient_base.specs.Count.{raised}
use Rattle.thing_handler.specs.declared.handler.CallKind.{CallKind}
use Rattle.thing_handler.specs.declared.handler.Answer.{Answer}
use Rattle.thing_handler.specs.declared.handler.Turn.{Turn}
use Rattle.thing_handler.specs.Handler.{Seen}

-- a turn of a run: its number, the slot of the handler that was called, the call and the answer
pub record RunTurn : Type 0 where
  pub number : ℕ
  pub slot : ℕ
  pub what : CallKind
  pub answer : Answer

-- One call of a handler, as a trace has it.
pub data HandlerCall : Type 0 where
  -- the handler answered, which is a turn
  answered : RunTurn → HandlerCall
  -- the handler in this slot was out of memory
  missed : ℕ → HandlerCall

-- the turns among some calls, in order
abbrev pub turn_in : HandlerCall → Option RunTurn
turn_in (answered turn) = Some turn
turn_in (missed slot) = None

abbrev pub turns_in : List HandlerCall → List RunTurn
turns_in = filter_map turn_in

-- the slots of the handlers that were out of memory, in order
abbrev pub miss_in : HandlerCall → Option ℕ
miss_in (answered turn) = None
miss_in (missed slot) = Some slot

abbrev pub misses_in : List HandlerCall → List ℕ
misses_in = filter_map miss_in

-- the turn as its handler keeps it
abbrev pub kept_turn : RunTurn → Turn
kept_turn t = record { number = t.number; what = t.what; answer = t.answer }

-- the turns of one slot, as its handler keeps them
abbrev pub turns_of_slot : ℕ → List RunTurn → List Turn
turns_of_slot slot [] = []
turns_of_slot slot (t ∷ ts) = if t.slot == slot then kept_turn t ∷ turns_of_slot slot ts else turns_of_slot slot ts

-- the numbers go up one by one, from this one
abbrev pub AreNumberedFrom : ℕ → List RunTurn → Type 0
AreNumberedFrom first [] = Unit {0}
AreNumberedFrom first (t ∷ ts) = (t.number ≡ first) × AreNumberedFrom (first + 1) ts

-- each handler, from this slot on, has kept the turns of its slot after those that it had
abbrev pub GrewBy : List RunTurn → ℕ → List Seen → List Seen → Type 0
GrewBy turns slot [] [] = Unit {0}
GrewBy turns slot (old ∷ before) (new ∷ after) =
    (new.kind ≡ old.kind) × (new.turns ≡ old.turns ++ turns_of_slot slot turns) × GrewBy turns (suc slot) before after
GrewBy turns slot [] (new ∷ after) = ⊥
GrewBy turns slot (old ∷ before) [] = ⊥

-- the number of times that a slot is in a list of slots
abbrev pub times : ℕ → List ℕ → ℕ
times slot [] = 0
times slot (m ∷ slots) = if m == slot then suc (times slot slots) else times slot slots

-- each handler, from this slot on, counted exactly the calls of its slot that were out of memory
abbrev pub CountMisses : List ℕ → ℕ → List Seen → List Seen → Type 0
CountMisses misses slot [] [] = Unit {0}
CountMisses misses slot (old ∷ before) (new ∷ after) =
    (new.misses ≡ raised (times slot misses) old.misses) × CountMisses misses (suc slot) before after
CountMisses misses slot [] (new ∷ after) = ⊥
CountMisses misses slot (old ∷ before) [] = ⊥

-- The handlers of a rack show these calls and no others from one time to another. Each call is one of a handler of the
-- rack, each handler kept its own turns in their order, and each counted the calls that were out of memory.
pub record RackShows (before after : List Seen) (calls : List HandlerCall) : Type 0 where
  pub slots : AllByRecursion (λ t. t.slot < length before) (turns_in calls)
  pub missing : AllByRecursion (λ slot. slot < length before) (misses_in calls)
  pub turns : GrewBy (turns_in calls) 0 before after
  pub misses : CountMisses (misses_in calls) 0 before after
