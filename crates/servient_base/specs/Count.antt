-- Counts of what failed. A count has 64 bits, and one that is at its last value, 2 ^ 64 - 1, stays there.
use Rattle.std.specs.Prelude.{ℕ, ◌+◌, ◌-◌, ◌^◌, ◌≤◌, min, max}

-- a count of 64 bits that went up by one, or stayed at its last value
abbrev pub one_more : ℕ → ℕ
one_more count = min (count + 1) (2 ^ 64 - 1)

-- a count of 64 bits that went up by `more`, or to its last value and no further
abbrev pub raised : ℕ → ℕ → ℕ
raised more count = min (count + more) (max count (2 ^ 64 - 1))

-- A count went up by `more` at least. One that stays at its last value counts as one that rose,
-- because 64 bits can't say more.
abbrev pub RoseBy : ℕ → ℕ → ℕ → Type 0
RoseBy more before now = min (before + more) (max before (2 ^ 64 - 1)) ≤ now

-- A count went up by one or more. A fault of an object is claimed only where its own count rose in that call, so that
-- an object that always answers "failed" meets no contract.
abbrev pub Rose : ℕ → ℕ → Type 0
Rose before now = RoseBy 1 before now
