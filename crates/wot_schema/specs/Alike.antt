-- Schemas that accept the same values.
use Rattle.std.specs.Prelude.{◌≡◌, ◌↔◌, ℕ, List, [], ◌∷◌, ⊤}
use Rattle.wot_json.specs.Tree.{Json}
use Rattle.wot_schema.specs.Acceptance.{Accepts}

-- two schemas accept the same values
abbrev pub AcceptAlike : Json → Json → Type 0
AcceptAlike s t = (v : Json) → (Accepts s v ↔ Accepts t v)

-- schemas accept the same values one by one
abbrev pub AllAlike : List Json → List Json → Type 0
AllAlike [] [] = ⊤
AllAlike (s ∷ ss) (t ∷ ts) = AcceptAlike s t × AllAlike ss ts
AllAlike [] (t ∷ ts) = ⊥
AllAlike (s ∷ ss) [] = ⊥

-- named schemas have the same names, and accept the same values, one by one
abbrev pub NamedAlike : List (List ℕ × Json) → List (List ℕ × Json) → Type 0
NamedAlike [] [] = ⊤
NamedAlike (s ∷ ss) (t ∷ ts) = (s.0 ≡ t.0) × AcceptAlike s.1 t.1 × NamedAlike ss ts
NamedAlike [] (t ∷ ts) = ⊥
NamedAlike (s ∷ ss) [] = ⊥
