-- The next turn. The places that wait are a list with true at each of them.
use Rattle.std.specs.Prelude.{ℕ, Bool, false, List, Option, Some, None, ◌+◌, drop, slice_set, option_map, is_none}
use Rattle.std.specs.List.{position}

-- the first that waits
abbrev pub first_of : List Bool → Option ℕ
first_of waiting = position (λ waits. waits) waiting

-- one of two, the first of them that there is
abbrev pub either : Option ℕ → Option ℕ → Option ℕ
either (Some a) b = Some a
either None b = b

-- the next that waits, in the circle: the first after the one that had the last turn, or else the first of all
abbrev pub next_of : ℕ → List Bool → Option ℕ
next_of last waiting = either (option_map (λ step. last + 1 + step) (first_of (drop (last + 1) waiting))) (first_of waiting)

-- the place whose turn it is waits no longer, and the others do as before
abbrev pub without : Option ℕ → List Bool → List Bool
without (Some place) waiting = slice_set waiting place false
without None waiting = waiting

-- the place that had the last turn then
abbrev pub last_after : Option ℕ → ℕ → ℕ
last_after (Some place) last = place
last_after None last = last

-- none waits
abbrev pub none_of : List Bool → Bool
none_of waiting = is_none (first_of waiting)
