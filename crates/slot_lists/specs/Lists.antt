-- Contracts see a `SlotLists` as lists of slots.
use Rattle.std.specs.Prelude.{◌≡◌, ◌<◌, ◌==◌, ℕ, Bool, true, false, not, List, [], ◌∷◌, filter, Option, Some, None, slice_index_or, slice_set, replicate, if◌then◌else◌}
use Rattle.std.specs.List.{list_any}

-- the number that all slots are below, and the lists
pub record Lists : Type 0 where
  pub capacity : ℕ
  pub lists : List (List ℕ)

-- n lists, all empty
abbrev pub empty_lists : ℕ → ℕ → Lists
empty_lists capacity count = record { capacity = capacity; lists = replicate count [] }

-- the list with this index
abbrev pub list_at : ℕ → Lists → List ℕ
list_at list t = slice_index_or t.lists list []

-- another list in place of the one with this index
abbrev pub with_list : ℕ → List ℕ → Lists → Lists
with_list list slots t = record t { lists = slice_set t.lists list slots }

-- whether a slot is in a list
abbrev pub is_among : ℕ → List ℕ → Bool
is_among slot slots = list_any (λ other. slot == other) slots

-- a slot is in this list, and below the capacity as all are
abbrev pub IsIn : ℕ → Lists → ℕ → Type 0
IsIn list t slot = (is_among slot (list_at list t) ≡ true) × (slot < t.capacity)

-- no list has this slot
abbrev pub IsInNone : ℕ → Lists → Type 0
IsInNone slot t = (list : ℕ) → is_among slot (list_at list t) ≡ false

-- a list without a slot
abbrev pub without : ℕ → List ℕ → List ℕ
without slot slots = filter (λ other. not (slot == other)) slots

-- the first slot of a list
abbrev pub first_of : List ℕ → Option ℕ
first_of [] = None
first_of (slot ∷ slots) = Some slot

-- the part of a list from a slot on
abbrev pub from_slot : Option ℕ → List ℕ → List ℕ
from_slot None slots = []
from_slot (Some slot) [] = []
from_slot (Some slot) (other ∷ slots) = if slot == other then other ∷ slots else from_slot (Some slot) slots
