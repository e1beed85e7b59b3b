-- Members in order, of which those before a name move elsewhere and that of the name is taken out.
use Rattle.std.specs.Prelude.{◌≡◌, ◌++◌, ℕ, List, [], ◌∷◌, Option}
use Rattle.wot_json.specs.Tree.{Json}
use Rattle.wot_json.specs.Cutting.{IsBefore, IsCutAt}

-- there is a first member, and its name is before this one
abbrev pub BeginsBefore : List ℕ → List (List ℕ × Json) → Type 0
BeginsBefore name [] = ⊥
BeginsBefore name (m ∷ ms) = IsBefore m.0 name

-- there is a first member, and it has this name
abbrev pub BeginsAt : List ℕ → List (List ℕ × Json) → Type 0
BeginsAt name [] = ⊥
BeginsAt name (m ∷ ms) = m.0 ≡ name

-- Of these members those before the name move to the end of the others, the value of the name is taken out, if there is
-- one, and those after it are left.
pub record TakesAt (name : List ℕ) (members others : List (List ℕ × Json)) (value : Option Json) (left grown : List (List ℕ × Json)) : Type 0 where
  pub before : List (List ℕ × Json)
  pub cut : IsCutAt name members before value left
  pub moved : grown ≡ others ++ before
