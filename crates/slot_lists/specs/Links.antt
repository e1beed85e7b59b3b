-- Inside: how links by index are lists.
use Rattle.std.specs.Prelude.{◌≡◌, ◌<◌, ℕ, true, false, List, [], ◌∷◌, map, length, Option, Some, None, slice_index_or, slice_set, zero, suc, ⊤}
use Rattle.slot_lists.specs.Lists.{Lists, is_among, first_of}
use Rattle.slot_lists.specs.declared.link.SlotLink.{SlotLink}
use Rattle.slot_lists.specs.declared.link.Ends.{Ends}
use Rattle.slot_lists.specs.declared.lists.SlotLists.TheInside.{Inside}

-- the link of a slot, and its neighbours
abbrev pub link_at : List SlotLink → ℕ → SlotLink
link_at links slot = slice_index_or links slot (record { previous = None; next = None })

abbrev pub previous_in : List SlotLink → ℕ → Option ℕ
previous_in links slot = (link_at links slot).previous

abbrev pub next_in : List SlotLink → ℕ → Option ℕ
next_in links slot = (link_at links slot).next

-- the ends of a list
abbrev pub ends_at : List Ends → ℕ → Ends
ends_at ends list = slice_index_or ends list (record { first = None; last = None })

-- the slots from one on, as the links lead, at most n
abbrev pub slots_from : List SlotLink → ℕ → Option ℕ → List ℕ
slots_from links most None = []
slots_from links zero (Some slot) = []
slots_from links (suc most) (Some slot) = slot ∷ slots_from links most (next_in links slot)

-- the lists that the ends and the links make
abbrev pub lists_in : List SlotLink → List Ends → List (List ℕ)
lists_in links ends = map (λ e. slots_from links (length links) e.first) ends

-- the lists that are seen
abbrev pub lists_of : Inside → Lists
lists_of x = record { capacity = length x.links.items; lists = lists_in x.links.items x.ends.items }

-- the last slot of a list that comes after another one
abbrev pub last_after : Option ℕ → List ℕ → Option ℕ
last_after previous [] = previous
last_after previous (slot ∷ slots) = last_after (Some slot) slots

-- each slot of a list that comes after another one is a place, and is linked to its neighbours
abbrev pub AreNeighbours : ℕ → (ℕ → Option ℕ) → (ℕ → Option ℕ) → Option ℕ → List ℕ → Type 0
AreNeighbours capacity before after previous [] = ⊤
AreNeighbours capacity before after previous (slot ∷ slots) =
    (slot < capacity) × (before slot ≡ previous) × (after slot ≡ first_of slots) × AreNeighbours capacity before after (Some slot) slots

-- no slot is twice in a list
abbrev pub AreDistinct : List ℕ → Type 0
AreDistinct [] = ⊤
AreDistinct (slot ∷ slots) = (is_among slot slots ≡ false) × AreDistinct slots

-- links and ends make these lists, and no slot is in two places of them
pub record Makes (links : List SlotLink) (ends : List Ends) (lists : List (List ℕ)) : Type 0 where
  pub count : length lists ≡ length ends
  pub first : (i : ℕ) → i < length ends → (ends_at ends i).first ≡ first_of (slice_index_or lists i [])
  pub last : (i : ℕ) → i < length ends → (ends_at ends i).last ≡ last_after None (slice_index_or lists i [])
  pub neighbours : (i : ℕ) → AreNeighbours (length links) (previous_in links) (next_in links) None (slice_index_or lists i [])
  pub distinct : (i : ℕ) → AreDistinct (slice_index_or lists i [])
  pub apart : (i j slot : ℕ) → is_among slot (slice_index_or lists i []) ≡ true → is_among slot (slice_index_or lists j []) ≡ true → i ≡ j

-- its invariant
abbrev pub IsLinked : Inside → Type 0
IsLinked x = Makes x.links.items x.ends.items (lists_in x.links.items x.ends.items)

-- a link with another slot after it, or before it
abbrev pub with_next : Option ℕ → Option ℕ → List SlotLink → List SlotLink
with_next None next links = links
with_next (Some slot) next links = slice_set links slot (record (link_at links slot) { next = next })

abbrev pub with_previous : Option ℕ → Option ℕ → List SlotLink → List SlotLink
with_previous None previous links = links
with_previous (Some slot) previous links = slice_set links slot (record (link_at links slot) { previous = previous })

-- the first of two that is there
abbrev pub first_or : ℕ → Option ℕ → ℕ
first_or slot None = slot
first_or slot (Some first) = first

-- the ends of a list once a slot was put after the last one
abbrev pub ends_with : ℕ → Ends → Ends
ends_with slot e = record { first = Some (first_or slot e.first); last = Some slot }

-- one value where there is a neighbour, and else another
abbrev pub beside : Option ℕ → Option ℕ → Option ℕ → Option ℕ
beside None there else_other = else_other
beside (Some neighbour) there else_other = there

-- the ends of a list once the slot with this link was taken out
abbrev pub ends_without : SlotLink → Ends → Ends
ends_without link e = record { first = beside link.previous e.first link.next; last = beside link.next e.last link.previous }
