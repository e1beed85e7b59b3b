-- The codes of values, which the kit asks of the types that a `Model` shows. No contract names these.
use Rattle.std.specs.Prelude.{◌≡◌, ℕ, ◌==◌, cond, ℤ, pos, List, [], ◌∷◌, true, false, refl}
use Rattle.std.specs.Coded.{Coded, code_by, coded×, coded_ℕ, coded_ℤ, coded_list}
use mathlib.Core.Path.{ap, ◌∙◌}
use Rattle.wot_json.specs.Tree.{Json, null, boolean, integer, string, array, object, Elements, no_elements, element, Members, no_members, member}

-- a value as its nodes in prefix order, each a number, a text and an integer
abbrev Node : Type 0
Node = ℕ × (List ℕ × ℤ)

abbrev mutual
  nodes : Json → List Node → List Node
  nodes null k = (0, ([], pos 0)) ∷ k
  nodes (boolean true) k = (1, ([], pos 0)) ∷ k
  nodes (boolean false) k = (2, ([], pos 0)) ∷ k
  nodes (integer z) k = (3, ([], z)) ∷ k
  nodes (string s) k = (4, (s, pos 0)) ∷ k
  nodes (array es) k = (5, ([], pos 0)) ∷ element_nodes es k
  nodes (object ms) k = (8, ([], pos 0)) ∷ member_nodes ms k

  element_nodes : Elements → List Node → List Node
  element_nodes no_elements k = (6, ([], pos 0)) ∷ k
  element_nodes (element v es) k = (7, ([], pos 0)) ∷ nodes v (element_nodes es k)

  member_nodes : Members → List Node → List Node
  member_nodes no_members k = (9, ([], pos 0)) ∷ k
  member_nodes (member n v ms) k = (10, (n, pos 0)) ∷ nodes v (member_nodes ms k)

-- the parts built so far, from the last node on: values, lists of elements and lists of members
abbrev Built : Type 0
Built = List Json × (List Elements × List Members)

abbrev first_value : List Json → Json
first_value [] = null
first_value (v ∷ vs) = v

abbrev rest_values : List Json → List Json
rest_values [] = []
rest_values (v ∷ vs) = vs

abbrev first_elements : List Elements → Elements
first_elements [] = no_elements
first_elements (es ∷ more) = es

abbrev rest_elements : List Elements → List Elements
rest_elements [] = []
rest_elements (es ∷ more) = more

abbrev first_members : List Members → Members
first_members [] = no_members
first_members (ms ∷ more) = ms

abbrev rest_members : List Members → List Members
rest_members [] = []
rest_members (ms ∷ more) = more

abbrev with_value : Json → Built → Built
with_value v b = (v ∷ b.0, b.1)

abbrev build : Node → Built → Built
build n b =
    cond (n.0 == 0) (with_value null b) (cond (n.0 == 1) (with_value (boolean true) b) (cond (n.0 == 2) (with_value (boolean false) b)
    (cond (n.0 == 3) (with_value (integer n.1.1) b) (cond (n.0 == 4) (with_value (string n.1.0) b)
    (cond (n.0 == 5) (array (first_elements b.1.0) ∷ b.0, (rest_elements b.1.0, b.1.1)) (cond (n.0 == 6) (b.0, (no_elements ∷ b.1.0, b.1.1))
    (cond (n.0 == 7) (rest_values b.0, (element (first_value b.0) (first_elements b.1.0) ∷ rest_elements b.1.0, b.1.1))
    (cond (n.0 == 8) (object (first_members b.1.1) ∷ b.0, (b.1.0, rest_members b.1.1)) (cond (n.0 == 9) (b.0, (b.1.0, no_members ∷ b.1.1))
    (rest_values b.0, (b.1.0, member n.1.0 (first_value b.0) (first_members b.1.1) ∷ rest_members b.1.1)))))))))))

abbrev built : List Node → Built
built [] = ([], ([], []))
built (n ∷ ns) = build n (built ns)

mutual
  built-nodes : (v : Json) (k : List Node) → built (nodes v k) ≡ with_value v (built k)
  built-nodes null k = refl
  built-nodes (boolean true) k = refl
  built-nodes (boolean false) k = refl
  built-nodes (integer z) k = refl
  built-nodes (string s) k = refl
  built-nodes (array es) k = ap (build (5, ([], pos 0))) (built-element_nodes es k)
  built-nodes (object ms) k = ap (build (8, ([], pos 0))) (built-member_nodes ms k)

  built-element_nodes : (es : Elements) (k : List Node) → built (element_nodes es k) ≡ ((built k).0, (es ∷ (built k).1.0, (built k).1.1))
  built-element_nodes no_elements k = refl
  built-element_nodes (element v es) k = ap (build (7, ([], pos 0))) (built-nodes v (element_nodes es k) ∙ ap (with_value v) (built-element_nodes es k))

  built-member_nodes : (ms : Members) (k : List Node) → built (member_nodes ms k) ≡ ((built k).0, ((built k).1.0, ms ∷ (built k).1.1))
  built-member_nodes no_members k = refl
  built-member_nodes (member n v ms) k = ap (build (10, (n, pos 0))) (built-nodes v (member_nodes ms k) ∙ ap (with_value v) (built-member_nodes ms k))

abbrev from_nodes : List Node → Json
from_nodes ns = first_value (built ns).0

pub from_nodes-nodes : (v : Json) → from_nodes (nodes v []) ≡ v
from_nodes-nodes v = ap (λ b. first_value b.0) (built-nodes v [])

abbrev pub json_code : Coded Json
json_code = code_by (List Node) (coded_list (coded× coded_ℕ (coded× (coded_list coded_ℕ) coded_ℤ))) (λ v. nodes v []) from_nodes from_nodes-nodes

abbrev pub elements_code : Coded (List Json)
elements_code = coded_list json_code

abbrev pub members_code : Coded (List (List ℕ × Json))
members_code = coded_list (coded× (coded_list coded_ℕ) json_code)
