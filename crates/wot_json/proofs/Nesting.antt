-- A part nests less deep than the whole: the measure of a walk down a tree, also in the crates above.
use Rattle.std.proofs.Common.{◌≡◌, ℕ, zero, suc, ◌<◌, ◌≤◌, List, [], ◌∷◌, length, get_or, ap, arith}
use Rattle.wot_json.specs.Tree.{Json, nesting, most_nesting, most_member_nesting}
use Rattle.wot_json.specs.Meaning.{json_of, json_items, json_members}
use Rattle.wot_json.specs.declared.tree.Tree.{Tree}

-- an element nests no deeper than the deepest
pub element_nests : (ts : List Tree) (i : ℕ) (d : Tree) → i < length ts → nesting (json_of (get_or ts i d)) ≤ most_nesting (json_items ts)
element_nests [] i d within = absurd (omega arith)
element_nests (t ∷ ts) zero d within = omega arith
element_nests (t ∷ ts) (suc i) d within = omega (arith, element_nests ts i d (omega arith))

-- a member nests no deeper than the deepest
pub member_nests : (ms : List (List ℕ × Tree)) (i : ℕ) (d : List ℕ × Tree) → i < length ms → nesting (json_of (get_or ms i d).1) ≤ most_member_nesting (json_members ms)
member_nests [] i d within = absurd (omega arith)
member_nests (m ∷ ms) zero d within = omega arith
member_nests (m ∷ ms) (suc i) d within = omega (arith, member_nests ms i d (omega arith))

-- an element that was read nests no deeper than the deepest of the list
pub read_element_nests : (ts : List Tree) (vs : List Json) (i : ℕ) (t : Tree) → json_items ts ≡ vs → i < length ts → t ≡ get_or ts i t → nesting (json_of t) ≤ most_nesting vs
read_element_nests ts vs i t view within is =
    let nests = element_nests ts i t within in
    omega (arith, ap (λ (x : Tree). nesting (json_of x)) is, ap most_nesting view)

-- a member that was read nests no deeper than the deepest of the object
pub read_member_nests : (ms : List (List ℕ × Tree)) (vs : List (List ℕ × Json)) (i : ℕ) (m : List ℕ × Tree) → json_members ms ≡ vs → i < length ms → m ≡ get_or ms i m → nesting (json_of m.1) ≤ most_member_nesting vs
read_member_nests ms vs i m view within is =
    let nests = member_nests ms i m within in
    omega (arith, ap (λ (x : List ℕ × Tree). nesting (json_of x.1)) is, ap most_member_nesting view)
