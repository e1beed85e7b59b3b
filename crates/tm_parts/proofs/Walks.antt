-- Walks down a value: lists of its parts, and order among its members.
use Rattle.std.proofs.Common.{◌≡◌, ℕ, suc, ◌<◌, ◌≤◌, List, [], ◌∷◌, ◌++◌, map, drop, length, get_or, refl, sym, ap, subst, ◌∙◌, append_assoc, drop-cons}
use Rattle.std.proofs.lemmas.List.{append-nil, drop_all}
use Rattle.wot_json.specs.Meaning.{json_of, json_items, json_members}
use Rattle.wot_json.specs.declared.tree.Tree.{Tree}
use Rattle.wot_json.proofs.Nesting.{element_nests, member_nests}
use Rattle.wot_json.specs.Tree.{Json, nesting, most_nesting, most_member_nesting, Elements, element, elements_of, Members, member, members_of, AreOrdered}
use Rattle.tm_parts.specs.Substitution.{Values, substituted_value, substituted_elements, substituted_members, element_faults, member_faults}

-- the elements of a list, each with its values in place
pub elements_substituted : (vs : List Json) (values : Values) → elements_of (map (λ v. substituted_value v values) vs) ≡ substituted_elements (elements_of vs) values
elements_substituted [] values = refl
elements_substituted (v ∷ vs) values = ap (λ (es : Elements). element (substituted_value v values) es) (elements_substituted vs values)

-- the members of an object, each with its values in place
pub members_substituted : (ms : List (List ℕ × Json)) (values : Values) → members_of (map (λ m. (m.0, substituted_value m.1 values)) ms) ≡ substituted_members (members_of ms) values
members_substituted [] values = refl
members_substituted (m ∷ ms) values = ap (λ (rest : Members). member m.0 (substituted_value m.1 values) rest) (members_substituted ms values)

-- the prefix of members in order is in order
pub ordered_prefix : (xs ys : List (List ℕ × Json)) → AreOrdered (xs ++ ys) → AreOrdered xs
ordered_prefix [] ys ordered = tt
ordered_prefix (x ∷ []) ys ordered = tt
ordered_prefix (x ∷ y ∷ xs) ys ordered = (ordered.0, ordered_prefix (y ∷ xs) ys ordered.1)

-- order is of names alone
pub ordered_substituted : (ms : List (List ℕ × Json)) (values : Values) → AreOrdered ms → AreOrdered (map (λ m. (m.0, substituted_value m.1 values)) ms)
ordered_substituted [] values ordered = tt
ordered_substituted (m ∷ []) values ordered = tt
ordered_substituted (m ∷ n ∷ ms) values ordered = (ordered.0, ordered_substituted (n ∷ ms) values ordered.1)

-- after a walk through all elements, their values are there
pub elements_done : (done : List Json) (list : List Tree) (items : List Json) (place : ℕ) (values : Values) → json_items list ≡ items → length list ≤ place → done ++ map (λ v. substituted_value v values) (json_items (drop place list)) ≡ map (λ v. substituted_value v values) (json_items list) → elements_of done ≡ substituted_elements (elements_of items) values
elements_done done list items place values same past all =
    let rest : drop place list ≡ [] = drop_all place list past in
    let whole : done ≡ map (λ v. substituted_value v values) items =
    sym (append-nil done) ∙ ap (λ (ts : List Tree). done ++ map (λ v. substituted_value v values) (json_items ts)) (sym rest) ∙ all
    ∙ ap (λ (vs : List Json). map (λ v. substituted_value v values) vs) same in
    ap elements_of whole ∙ elements_substituted items values

-- after a walk through all members, theirs are
pub members_done : (done : List (List ℕ × Json)) (list : List (List ℕ × Tree)) (members : List (List ℕ × Json)) (place : ℕ) (values : Values) → json_members list ≡ members → length list ≤ place → done ++ map (λ m. (m.0, substituted_value m.1 values)) (json_members (drop place list)) ≡ map (λ m. (m.0, substituted_value m.1 values)) (json_members list) → members_of done ≡ substituted_members (members_of members) values
members_done done list members place values same past all =
    let rest : drop place list ≡ [] = drop_all place list past in
    let whole : done ≡ map (λ m. (m.0, substituted_value m.1 values)) members =
    sym (append-nil done) ∙ ap (λ (ts : List (List ℕ × Tree)). done ++ map (λ m. (m.0, substituted_value m.1 values)) (json_members ts)) (sym rest) ∙ all
    ∙ ap (λ (ms : List (List ℕ × Json)). map (λ m. (m.0, substituted_value m.1 values)) ms) same in
    ap members_of whole ∙ members_substituted members values

-- after a walk through all elements in which none had a fault, there is none
pub no_faults_in_elements : (list : List Tree) (items : List Json) (place : ℕ) (values : Values) → json_items list ≡ items → length list ≤ place → element_faults place (elements_of (json_items (drop place list))) values ≡ element_faults 0 (elements_of (json_items list)) values → element_faults 0 (elements_of items) values ≡ []
no_faults_in_elements list items place values same past all =
    ap (λ (vs : List Json). element_faults 0 (elements_of vs) values) (sym same) ∙ sym all
    ∙ ap (λ (ts : List Tree). element_faults place (elements_of (json_items ts)) values) (drop_all place list past)

-- and so it is with members
pub no_faults_in_members : (list : List (List ℕ × Tree)) (members : List (List ℕ × Json)) (place : ℕ) (values : Values) → json_members list ≡ members → length list ≤ place → member_faults (members_of (json_members (drop place list))) values ≡ member_faults (members_of (json_members list)) values → member_faults (members_of members) values ≡ []
no_faults_in_members list members place values same past all =
    ap (λ (ms : List (List ℕ × Json)). member_faults (members_of ms) values) (sym same) ∙ sym all
    ∙ ap (λ (ts : List (List ℕ × Tree)). member_faults (members_of (json_members ts)) values) (drop_all place list past)

-- the next member comes after those before it
pub next_in_order : (done : List (List ℕ × Json)) (list : List (List ℕ × Tree)) (members : List (List ℕ × Json)) (place : ℕ) (m : List ℕ × Tree) (name : List ℕ) (value : Json) (values : Values) → json_members list ≡ members → AreOrdered members → place < length list → m ≡ get_or list place m → name ≡ m.0 → value ≡ substituted_value (json_of m.1) values → done ++ map (λ m. (m.0, substituted_value m.1 values)) (json_members (drop place list)) ≡ map (λ m. (m.0, substituted_value m.1 values)) (json_members list) → AreOrdered (done ++ (name, value) ∷ [])
next_in_order done list members place m name value values same ordered within here name_is value_is all =
    let next : List ℕ × Json = (m.0, substituted_value (json_of m.1) values) in
    let later : List (List ℕ × Json) = map (λ m. (m.0, substituted_value m.1 values)) (json_members (drop (suc place) list)) in
    let rest : drop place list ≡ m ∷ drop (suc place) list = drop-cons list place m within ∙ ap (λ (n : List ℕ × Tree). n ∷ drop (suc place) list) (sym here) in
    let whole : (done ++ next ∷ []) ++ later ≡ map (λ m. (m.0, substituted_value m.1 values)) members =
    append_assoc done (next ∷ []) later
    ∙ ap (λ (ts : List (List ℕ × Tree)). done ++ map (λ m. (m.0, substituted_value m.1 values)) (json_members ts)) (sym rest) ∙ all
    ∙ ap (λ (ms : List (List ℕ × Json)). map (λ m. (m.0, substituted_value m.1 values)) ms) same in
    let prefix : AreOrdered (done ++ next ∷ []) = ordered_prefix (done ++ next ∷ []) later (subst AreOrdered (sym whole) (ordered_substituted members values ordered)) in
    let pair : ◌≡◌ {A = List ℕ × Json} next (name, value) = ap (λ (n : List ℕ). (n, substituted_value (json_of m.1) values)) (sym name_is) ∙ ap (λ (v : Json). (name, v)) (sym value_is) in
    subst (λ (n : List ℕ × Json). AreOrdered (done ++ n ∷ [])) pair prefix

-- an element that is met on the way nests no deeper than the list
pub element_met : (list : List Tree) (items : List Json) (place : ℕ) (t : Tree) → json_items list ≡ items → place < length list → t ≡ get_or list place t → nesting (json_of t) ≤ most_nesting items
element_met list items place t same within here =
    subst (λ (i : Tree). nesting (json_of i) ≤ most_nesting items) (sym here)
    (subst (λ (vs : List Json). nesting (json_of (get_or list place t)) ≤ most_nesting vs) same (element_nests list place t within))

-- and so does a member
pub member_met : (list : List (List ℕ × Tree)) (members : List (List ℕ × Json)) (place : ℕ) (m : List ℕ × Tree) → json_members list ≡ members → place < length list → m ≡ get_or list place m → nesting (json_of m.1) ≤ most_member_nesting members
member_met list members place m same within here =
    subst (λ (n : List ℕ × Tree). nesting (json_of n.1) ≤ most_member_nesting members) (sym here)
    (subst (λ (ms : List (List ℕ × Json)). nesting (json_of (get_or list place m).1) ≤ most_member_nesting ms) same (member_nests list place m within))
