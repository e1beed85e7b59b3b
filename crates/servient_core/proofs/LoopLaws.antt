-- Loops of the code: a move that is made again and again, and moves of the parts that change in them.
use Rattle.std.proofs.Common.{◌≡◌, ℕ, ◌≤◌, Bool, true, false, cond, subst, arith, inl, inr}
use Rattle.std.specs.Prelude.{Option, Some, None}
use Rattle.std.proofs.lemmas.Bool.{cases_lt}
use Rattle.servient_base.specs.Moves.{Refines, Until}
use Rattle.servient_base.proofs.MovesLaws.{refines_goes_on, refines_is_done}
use Rattle.http_bind.specs.Slots.{Held, Slots, left_in, HasRoomFor, HasRoom, held_at, longest_piece}
use Rattle.servient_trace.specs.Trace.{Outside, Shows}
use Rattle.servient_core.specs.Machine.{State, Move}
use Rattle.servient_core.specs.Serving.{StandsFor}
use Rattle.servient_core.specs.Keeping.{LeavesNoMore, OthersKeep}
use Rattle.servient_core.specs.declared.layers.Layers.{Layers}
use Rattle.servient_trace.proofs.TraceLaws.{shows_in_order}

-- ---- again and again

-- the invariant while a move is made again and again: all that is done from here on, was done since the first
pub record Repeating (P : Move) (IsDone : State → Type 0) (first k : Layers) (w v : Outside) : Type 0 where
  pub onward : (e : Layers) (x : Outside) → Refines StandsFor Shows (Until P IsDone) k e v x → Refines StandsFor Shows (Until P IsDone) first e w x

pub repeating_begins : (P : Move) (IsDone : State → Type 0) (k : Layers) (w : Outside) → Repeating P IsDone k k w w
repeating_begins P IsDone k w = record { onward = λ e x rest. rest }

pub repeating_more : (P : Move) (IsDone : State → Type 0) (first k l : Layers) (w v u : Outside) → Repeating P IsDone first k w v
    → Refines StandsFor Shows P k l v u → Repeating P IsDone first l w u
repeating_more P IsDone first k l w v u t step =
    record { onward = λ e x rest. t.onward e x (refines_goes_on StandsFor Shows shows_in_order P IsDone k l e v u x step rest) }

pub repeating_ends : (P : Move) (IsDone : State → Type 0) (first k : Layers) (w v : Outside) → Repeating P IsDone first k w v
    → ((s : State) → StandsFor k s → IsDone s) → Refines StandsFor Shows (Until P IsDone) first k w v
repeating_ends P IsDone first k w v t done = t.onward k v (refines_is_done StandsFor Shows shows_in_order P IsDone k v done)

-- ---- no more is left

pub leaves_then : (b d e : Slots) → LeavesNoMore b d → LeavesNoMore d e → LeavesNoMore b e
leaves_then b d e one other = λ c. omega (arith, one c, other c)

pub leaves_same : (b : Slots) → LeavesNoMore b b
leaves_same b = λ c. omega arith

-- one or two
small : (b : Bool) → (1 ≤ cond b 1 2) × (cond b 1 2 ≤ 2)
small true = (omega arith, omega arith)
small false = (omega arith, omega arith)

kept_room : (x y : Option Held) → left_in y ≤ left_in x → HasRoomFor longest_piece x → HasRoomFor longest_piece y
kept_room x None less room = tt
kept_room None (Some h) less room = absurd (omega (arith, less, (small h.continued).0))
kept_room (Some g) (Some h) less room = omega (arith, less, room, (small g.continued).1, (small h.continued).0)

-- where no more is left there is as much room
pub room_stays : (b d : Slots) (c : ℕ) → LeavesNoMore b d → HasRoom c b → HasRoom c d
room_stays b d c less room = kept_room (held_at c b) (held_at c d) (less c) room

-- ---- one connection and the others

pub others_then : (c : ℕ) (b d e : Slots) → OthersKeep c b d → OthersKeep c d e → OthersKeep c b e
others_then c b d e one other = λ x isnt. omega (arith, one x isnt, other x isnt)

pub others_all : (c : ℕ) (b d : Slots) → LeavesNoMore b d → OthersKeep c b d
others_all c b d less = λ x isnt. less x

-- each connection has room, where the others keep it and this one has it
pub room_of_all : (c : ℕ) (b d : Slots) → ((x : ℕ) → HasRoom x b) → OthersKeep c b d → HasRoom c d → (x : ℕ) → HasRoom x d
room_of_all c b d all keep room = λ x. elim (cases_lt x c) as (λ _. HasRoom x d) [
  | inl below ↦ kept_room (held_at x b) (held_at x d) (keep x (λ e. omega (arith, below, e))) (all x)
  | inr above ↦ elim (cases_lt c x) as (λ _. HasRoom x d) [
    | inl less ↦ kept_room (held_at x b) (held_at x d) (keep x (λ e. omega (arith, less, e))) (all x)
    | inr other ↦ (let same : c ≡ x = omega (arith, above, other) in subst (λ (y : ℕ). HasRoom y d) same room)
  ]
]
