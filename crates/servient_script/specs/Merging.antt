-- Each handler of a rack keeps its own turns. The turns of a run are theirs, put together by their numbers.
use Rattle.std.specs.Prelude.{◌≡◌, ◌<◌, ◌≤◌, ℕ, suc, ◌==◌, Bool, false, List, [], ◌∷◌, map, length, drop}
use Rattle.std.specs.List.{AllByRecursion}
use Rattle.thing_handler.specs.declared.handler.Turn.{Turn}
use Rattle.thing_handler.specs.Handler.{Seen}
use Rattle.thing_handler.specs.Turns.{RunTurn, turns_of_slot, AreNumberedFrom}

-- these are the turns of a run by their slots, from this slot on
abbrev pub AreSplit : List RunTurn → ℕ → List (List Turn) → Type 0
AreSplit turns slot [] = Unit {0}
AreSplit turns slot (kept ∷ others) = (kept ≡ turns_of_slot slot turns) × AreSplit turns (suc slot) others

-- These turns of a run, from this number on, are those of some slots put together.
pub record IsMerged (number : ℕ) (by_slot : List (List Turn)) (turns : List RunTurn) : Type 0 where
  pub numbered : AreNumberedFrom number turns
  pub slots : AllByRecursion (λ t. t.slot < length by_slot) turns
  pub split : AreSplit turns 0 by_slot

-- the first of some turns has this number
abbrev pub begins_with : ℕ → List Turn → Bool
begins_with number [] = false
begins_with number (t ∷ turns) = t.number == number

-- the number of turns that each handler has kept
abbrev pub counts_of : List Seen → List ℕ
counts_of = map (λ h. length h.turns)

-- each handler has kept n at least
abbrev pub HaveKept : List ℕ → List Seen → Type 0
HaveKept [] [] = Unit {0}
HaveKept (count ∷ counts) (h ∷ slots) = (count ≤ length h.turns) × HaveKept counts slots
HaveKept [] (h ∷ slots) = ⊥
HaveKept (count ∷ counts) [] = ⊥

-- the turns that each has kept after n
abbrev pub turns_after : List ℕ → List Seen → List (List Turn)
turns_after [] slots = []
turns_after (count ∷ counts) [] = []
turns_after (count ∷ counts) (h ∷ slots) = drop count h.turns ∷ turns_after counts slots
