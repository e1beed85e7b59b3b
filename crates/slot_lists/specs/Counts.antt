-- How often a slot is in a list.
use Rattle.std.specs.Prelude.{◌+◌, ◌==◌, ℕ, List, [], ◌∷◌, if◌then◌else◌, nat_lt}

-- the number of times that a slot is in a list
abbrev pub times_in : ℕ → List ℕ → ℕ
times_in slot [] = 0
times_in slot (other ∷ others) = (if slot == other then 1 else 0) + times_in slot others

-- a number that is below another counts once, and else not at all
abbrev pub once_below : ℕ → ℕ → ℕ
once_below n limit = if nat_lt n limit then 1 else 0
