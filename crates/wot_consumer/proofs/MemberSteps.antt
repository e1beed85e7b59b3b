-- The members of a value of all properties, one after another.
use Rattle.std.proofs.Common.{◌≡◌, ◌<◌, ◌+◌, ◌↔◌, ℕ, List, length, drop, get_or, sym, subst}
use Rattle.wot_json.specs.Tree.{Json, members_of}
use Rattle.wot_json.specs.Meaning.{json_of, json_members}
use Rattle.wot_json.specs.declared.tree.Tree.{Tree}
use Rattle.wot_schema.proofs.Steps.{rest_at}
use Rattle.wot_consumer.specs.Judgement.{AreProperties, IsAcceptedBy, property_schema}

abbrev pub AreAccepted : Json → List (List ℕ × Tree) → Type 0
AreAccepted t ms = AreProperties t (members_of (json_members ms))

-- of what is left the first is accepted
pub accepted_more : (t : Json) (ms : List (List ℕ × Tree)) (i : ℕ) (m : List ℕ × Tree) → i < length ms → m ≡ get_or ms i m →
    IsAcceptedBy (property_schema t m.0) (json_of m.1) → (AreAccepted t (drop i ms) ↔ AreAccepted t ms) → AreAccepted t (drop (i + 1) ms) ↔ AreAccepted t ms
accepted_more t ms i m within is accepted kept = (
  λ later. kept.0 (subst (AreAccepted t) (sym (rest_at ms i m within is)) (accepted, later)),
  λ all. (subst (AreAccepted t) (rest_at ms i m within is) (kept.1 all)).1,
)

-- it isn't
pub refused_one : (t : Json) (ms : List (List ℕ × Tree)) (i : ℕ) (m : List ℕ × Tree) → i < length ms → m ≡ get_or ms i m →
    (IsAcceptedBy (property_schema t m.0) (json_of m.1) → ⊥) → (AreAccepted t (drop i ms) ↔ AreAccepted t ms) → AreAccepted t ms → ⊥
refused_one t ms i m within is refused kept all = refused (subst (AreAccepted t) (rest_at ms i m within is) (kept.1 all)).0
