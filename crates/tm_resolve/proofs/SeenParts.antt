-- Elements and members that are seen with values in place of placeholders, one after another.
use Rattle.std.proofs.Common.{◌≡◌, ℕ, zero, suc, ◌+◌, ◌<◌, ◌≤◌, List, [], ◌∷◌, map, length, get_or, refl, sym, ap, ◌∙◌, arith}
use Rattle.wot_json.specs.Tree.{Json, array, object, Elements, element, elements_of, elements_nesting, Members, member, members_of, members_nesting, nesting}
use Rattle.wot_json.specs.Lookup.{element_list}
use Rattle.wot_json.specs.Meaning.{json_of, json_items, json_members}
use Rattle.wot_json.specs.declared.tree.Tree.{Tree}
use Rattle.tm_parts.specs.Substitution.{Values, substituted_value, substituted_elements, substituted_members}
use Rattle.tm_resolve.specs.Seen.{with_values}

-- a member whose value is seen so
abbrev pub named_by : (Tree → Json) → List ℕ × Tree → List ℕ × Json
named_by meaning m = (m.0, meaning m.1)

-- the elements of a list, and its list of elements
pub elements_seen : (values : Values) (ts : List Tree) → elements_of (map (with_values values) ts) ≡ substituted_elements (elements_of (json_items ts)) values
elements_seen values [] = refl
elements_seen values (t ∷ ts) = ap (λ (es : Elements). element (substituted_value (json_of t) values) es) (elements_seen values ts)

pub items_seen : (values : Values) (ts : List Tree) → map (with_values values) ts ≡ element_list (substituted_elements (elements_of (json_items ts)) values)
items_seen values [] = refl
items_seen values (t ∷ ts) = ap (λ (vs : List Json). substituted_value (json_of t) values ∷ vs) (items_seen values ts)

-- the members of an object
pub members_seen : (values : Values) (ms : List (List ℕ × Tree)) → members_of (map (named_by (with_values values)) ms) ≡ substituted_members (members_of (json_members ms)) values
members_seen values [] = refl
members_seen values (m ∷ ms) = ap (λ (rest : Members). member m.0 (substituted_value (json_of m.1) values) rest) (members_seen values ms)

-- the members of an object that the code keeps so
pub kept_members_seen : (values : Values) (ms : List (List ℕ × Tree)) (members : List (List ℕ × Json)) → json_members ms ≡ members
    → members_of (map (named_by (with_values values)) ms) ≡ substituted_members (members_of members) values
kept_members_seen values ms members same = members_seen values ms ∙ ap (λ (ns : List (List ℕ × Json)). substituted_members (members_of ns) values) same

-- an element nests no deeper than its list, and a member than its object
listed_nests : (meaning : Tree → Json) (ts : List Tree) (i : ℕ) (t : Tree) → i < length ts → nesting (meaning (get_or ts i t)) ≤ elements_nesting (elements_of (map meaning ts))
listed_nests meaning [] i t within = absurd (omega arith)
listed_nests meaning (u ∷ ts) zero t within = omega arith
listed_nests meaning (u ∷ ts) (suc i) t within = omega (arith, listed_nests meaning ts i t (omega arith))

named_nests : (meaning : Tree → Json) (ms : List (List ℕ × Tree)) (i : ℕ) (m : List ℕ × Tree) → i < length ms → nesting (meaning (get_or ms i m).1) ≤ members_nesting (members_of (map (named_by meaning) ms))
named_nests meaning [] i m within = absurd (omega arith)
named_nests meaning (n ∷ ms) zero m within = omega arith
named_nests meaning (n ∷ ms) (suc i) m within = omega (arith, named_nests meaning ms i m (omega arith))

pub seen_element_nests : (values : Values) (ts : List Tree) (i : ℕ) (t : Tree) → i < length ts → t ≡ get_or ts i t
    → nesting (substituted_value (json_of t) values) ≤ elements_nesting (substituted_elements (elements_of (json_items ts)) values)
seen_element_nests values ts i t within is =
    omega (arith, listed_nests (with_values values) ts i t within, ap (λ (u : Tree). nesting (substituted_value (json_of u) values)) is, ap elements_nesting (elements_seen values ts))

pub seen_member_nests : (values : Values) (ms : List (List ℕ × Tree)) (members : List (List ℕ × Json)) (i : ℕ) (m : List ℕ × Tree) → json_members ms ≡ members → i < length ms → m ≡ get_or ms i m
    → nesting (substituted_value (json_of m.1) values) ≤ members_nesting (substituted_members (members_of members) values)
seen_member_nests values ms members i m same within is =
    omega (arith, named_nests (with_values values) ms i m within, ap (λ (n : List ℕ × Tree). nesting (substituted_value (json_of n.1) values)) is, ap members_nesting (kept_members_seen values ms members same))

-- a list nests one deeper than its elements, and an object than its members
pub list_nests : (v : Json) (es : Elements) → array es ≡ v → nesting v ≡ elements_nesting es + 1
list_nests v es is = ap nesting (sym is)

pub object_nests : (v : Json) (ms : Members) → object ms ≡ v → nesting v ≡ members_nesting ms + 1
object_nests v ms is = ap nesting (sym is)
