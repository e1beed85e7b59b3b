-- Writing at a place of a slice.
use Rattle.std.specs.Prelude.{◌≡◌, ◌≤◌, ◌<◌, ◌+◌, ℕ, List, ◌++◌, length, take, drop, Option, Some, None}

-- A text was written at a place, and end is the place after it. The bytes before the place and after the end are as
-- they were.
pub record Puts (text : List ℕ) (at end : ℕ) (before now : List ℕ) : Type 0 where
  pub end_is : end ≡ at + length text
  pub within : end ≤ length now
  pub prefix : take end now ≡ take at before ++ text
  pub rest : drop end now ≡ drop end before

-- The text was written at the place; or there was no room for it.
abbrev pub PutsIfRoom : List ℕ → ℕ → List ℕ → List ℕ → Option ℕ → Type 0
PutsIfRoom text at before now (Some end) = Puts text at end before now
PutsIfRoom text at before now None = length before < at + length text
