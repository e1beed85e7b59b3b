-- Members in order, cut at a name.
use Rattle.std.specs.Prelude.{◌≡◌, ◌++◌, ℕ, List, [], ◌∷◌, Option, Some, None}
use Rattle.std.specs.Ordering.{nat_cmp}
use Rattle.std.specs.declared.cmp.Ordering.TheVariants.{Less}
use Rattle.std.specs.Cmp.Lexicographic.{slice_cmp}
use Rattle.wot_json.specs.Tree.{Json}

-- the first name is before the second in byte order
abbrev pub IsBefore : List ℕ → List ℕ → Type 0
IsBefore first second = slice_cmp nat_cmp first second ≡ Less

-- the name is before that of each member, and after that of each
abbrev pub IsBeforeAll : List ℕ → List (List ℕ × Json) → Type 0
IsBeforeAll name [] = Unit {0}
IsBeforeAll name (m ∷ ms) = IsBefore name m.0 × IsBeforeAll name ms

abbrev pub IsAfterAll : List ℕ → List (List ℕ × Json) → Type 0
IsAfterAll name [] = Unit {0}
IsAfterAll name (m ∷ ms) = IsBefore m.0 name × IsAfterAll name ms

-- these members, and before them one of this name if there is a value
abbrev pub with_first : List ℕ → Option Json → List (List ℕ × Json) → List (List ℕ × Json)
with_first name None ms = ms
with_first name (Some v) ms = (name, v) ∷ ms

-- The members are those before the name, that of the name if there is one, and those after it.
pub record IsCutAt (name : List ℕ) (members before : List (List ℕ × Json)) (value : Option Json) (after : List (List ℕ × Json)) : Type 0 where
  pub parts : members ≡ before ++ with_first name value after
  pub smaller : IsAfterAll name before
  pub greater : IsBeforeAll name after
