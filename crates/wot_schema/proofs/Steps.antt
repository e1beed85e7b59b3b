-- Steps of loops over schemas and values.
use Rattle.std.proofs.Common.{◌≡◌, ◌↔◌, ◌<◌, ◌+◌, ℕ, List, ◌∷◌, drop, get_or, length, map, Bool, true, false, MatchBool, sym, ap, subst, ◌∙◌, inl, inr}
use Rattle.std.proofs.lemmas.List.{drop_more}
use Rattle.wot_json.specs.Tree.{Json, elements_of}
use Rattle.wot_json.specs.Meaning.{json_of, json_items}
use Rattle.wot_json.specs.declared.tree.Tree.{Tree}
use Rattle.wot_schema.specs.Values.{EachElement}
use Rattle.wot_schema.specs.Acceptance.{Accepts, ExactlyOne, AcceptNone}
use Rattle.wot_schema.specs.Nodes.{schema_of}

-- the rest of a list at a place
pub rest_at : {A : Type 0} (xs : List A) (i : ℕ) (x : A) → i < length xs → x ≡ get_or xs i x → drop i xs ≡ x ∷ drop (i + 1) xs
rest_at xs i x within is = drop_more xs i x within ∙ ap (λ y. y ∷ drop (i + 1) xs) (sym is)

abbrev pub OneOf : List (List (List ℕ × Json)) → Json → Type 0
OneOf nodes v = ExactlyOne (elements_of (map schema_of nodes)) v

abbrev pub NoneOf : List (List (List ℕ × Json)) → Json → Type 0
NoneOf nodes v = AcceptNone (elements_of (map schema_of nodes)) v

-- the first schema that accepts was found: none of the others may
pub one_found : (nodes : List (List (List ℕ × Json))) (i : ℕ) (n : List (List ℕ × Json)) (v : Json) (found : Bool) → i < length nodes → n ≡ get_or nodes i n →
    found ≡ false → Accepts (schema_of n) v → OneOf nodes v ↔ MatchBool found (NoneOf (drop i nodes) v) (OneOf (drop i nodes) v) → OneOf nodes v ↔ NoneOf (drop (i + 1) nodes) v
one_found nodes i n v found within is first accepted invariant =
    let rest = rest_at nodes i n within is in
    let kept = rw first at invariant in (
      λ one. elim (subst (λ ns. OneOf ns v) rest (kept.0 one)) [ inl here ↦ here.1 | inr later ↦ absurd (later.0 accepted) ],
      λ none. kept.1 (subst (λ ns. OneOf ns v) (sym rest) (inl (accepted, none))),
    )

-- a schema that doesn't accept leaves things as they are
pub one_passed : (nodes : List (List (List ℕ × Json))) (i : ℕ) (n : List (List ℕ × Json)) (v : Json) (found : Bool) → i < length nodes → n ≡ get_or nodes i n →
    ¬ Accepts (schema_of n) v → OneOf nodes v ↔ MatchBool found (NoneOf (drop i nodes) v) (OneOf (drop i nodes) v) →
    OneOf nodes v ↔ MatchBool found (NoneOf (drop (i + 1) nodes) v) (OneOf (drop (i + 1) nodes) v)
one_passed nodes i n v true within is refused invariant =
    let rest = rest_at nodes i n within is in (
      λ one. (subst (λ ns. NoneOf ns v) rest (invariant.0 one)).1,
      λ none. invariant.1 (subst (λ ns. NoneOf ns v) (sym rest) (refused, none)),
    )
one_passed nodes i n v false within is refused invariant =
    let rest = rest_at nodes i n within is in (
      λ one. elim (subst (λ ns. OneOf ns v) rest (invariant.0 one)) [ inl here ↦ absurd (refused here.0) | inr later ↦ later.1 ],
      λ one. invariant.1 (subst (λ ns. OneOf ns v) (sym rest) (inr (refused, one))),
    )

-- an element that is accepted leaves the others
pub each_passed : (P : Json → Type 0) (ts : List Tree) (i : ℕ) (t : Tree) → i < length ts → t ≡ get_or ts i t → P (json_of t) →
    EachElement P (elements_of (json_items ts)) ↔ EachElement P (elements_of (json_items (drop i ts))) → EachElement P (elements_of (json_items ts)) ↔ EachElement P (elements_of (json_items (drop (i + 1) ts)))
each_passed P ts i t within is accepted invariant =
    let rest = rest_at ts i t within is in
    let E : List Tree → Type 0 = λ us. EachElement P (elements_of (json_items us)) in
    (λ all. (subst E rest (invariant.0 all)).1, λ all. invariant.1 (subst E (sym rest) (accepted, all)))
