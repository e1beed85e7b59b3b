-- The findings of parts one after the other, of the elements of a list and of the members of an object.
use Rattle.std.proofs.Common.{refl, ◌≡◌, ◌<◌, ◌+◌, ◌++◌, ℕ, List, [], ◌∷◌, length, get_or, drop, map, Some, None, Err, Result, ◌≢◌, Bool, if◌then◌else◌, sym, ap, subst, ◌∙◌, arith}
use Rattle.std.specs.Option.{option_map_or}
use Rattle.wot_json.specs.Tree.{Json, array, object, Members, elements_of, members_of}
use Rattle.wot_json.specs.Meaning.{json_of, json_items, json_members}
use Rattle.wot_json.specs.declared.tree.Tree.{Tree}
use Rattle.wot_json.specs.Lookup.{value_under, member_named}
use Rattle.wot_json.proofs.EqualTrees.{found-members_of}
use Rattle.std.proofs.lemmas.List.{drop_more}
use Rattle.wot_schema.proofs.Steps.{rest_at}
use Rattle.wot_terms.specs.declared.fault.RowFault.{RowFault}
use Rattle.wot_terms.specs.declared.fault.RowFault.TheVariants as row_fault
use Rattle.wot_terms.specs.Faults.{Places, Judge, here, in_member, in_element, optional_member, optional_members, each_element, each_member, list_of_some, object_of_some}
use Rattle.wot_terms.specs.Rows.{IsFinding}

-- the first place of the first part is the first of all
pub stops : (p q : Places) (e : RowFault) → IsFinding p (Err e) → IsFinding (p ++ q) (Err e)
stops [] q row_fault.NoMemory some = absurd (some refl)
stops (y ∷ p) q row_fault.NoMemory some = λ none. absurd cc
stops [] q (row_fault.At x) first = absurd cc
stops (y ∷ p) q (row_fault.At x) first = first

-- an element that has a wrong place has the first of all, where those before it have none
pub element_stops : (J : Judge) (places : Places) (ts : List Tree) (i : ℕ) (t : Tree) (e : RowFault) → i < length ts → t ≡ get_or ts i t →
    places ≡ each_element J i (elements_of (json_items (drop i ts))) → IsFinding (in_element i (J (json_of t))) (Err e) → IsFinding places (Err e)
element_stops J places ts i t e within is left first =
    subst (λ ps. IsFinding ps (Err e)) (sym (left ∙ ap (λ us. each_element J i (elements_of (json_items us))) (rest_at ts i t within is)))
    (stops (in_element i (J (json_of t))) (each_element J (i + 1) (elements_of (json_items (drop (i + 1) ts)))) e first)

pub member_stops : (J : Judge) (places : Places) (ts : List (List ℕ × Tree)) (i : ℕ) (t : List ℕ × Tree) (name : List ℕ) (e : RowFault) → i < length ts → t ≡ get_or ts i t → name ≡ t.0 →
    places ≡ each_member J (members_of (json_members (drop i ts))) → IsFinding (in_member name (J (json_of t.1))) (Err e) → IsFinding places (Err e)
member_stops J places ts i t name e within is named left first =
    subst (λ ps. IsFinding ps (Err e)) (sym (left ∙ ap (λ us. each_member J (members_of (json_members us))) (rest_at ts i t within is)))
    (stops (in_member t.0 (J (json_of t.1))) (each_member J (members_of (json_members (drop (i + 1) ts)))) e (subst (λ n. IsFinding (in_member n (J (json_of t.1))) (Err e)) named first))

-- the finding by a test is the finding by the same test
pub tested : (test passes : Bool) (r : Result (Unit {0}) RowFault) → passes ≡ test → IsFinding (if passes then [] else here) r → IsFinding (if test then [] else here) r
tested test passes r same finding = subst (λ b. IsFinding (if b then [] else here) r) same finding

-- the value under a name of an object is the one that its list of members has
pub named_among : (name : List ℕ) (ms : List (List ℕ × Json)) → value_under name (members_of ms) ≡ member_named name ms
named_among name ms = found-members_of name ms

-- places that are seen from further out are as many
pub some_places : (f : List ℕ → List ℕ) (places : Places) → places ≢ [] → map f places ≢ []
some_places f [] some = some
some_places f (p ∷ places) some = λ none. cc

-- the finding of a member that is there
pub there : (name : List ℕ) (J : Judge) (absent : Places) (ms : List (List ℕ × Json)) (v : Json) (r : Result (Unit {0}) RowFault) → Some v ≡ member_named name ms →
    IsFinding (in_member name (J v)) r → IsFinding (in_member name (option_map_or J (value_under name (members_of ms)) absent)) r
there name J absent ms v r is finding = subst (λ o. IsFinding (in_member name (option_map_or J o absent)) r) (is ∙ sym (found-members_of name ms)) finding

-- the finding where a member is missing
pub nowhere : (name : List ℕ) (J : Judge) (absent : Places) (ms : List (List ℕ × Json)) (r : Result (Unit {0}) RowFault) → None ≡ member_named name ms →
    IsFinding (in_member name absent) r → IsFinding (in_member name (option_map_or J (value_under name (members_of ms)) absent)) r
nowhere name J absent ms r is finding = subst (λ o. IsFinding (in_member name (option_map_or J o absent)) r) (is ∙ sym (found-members_of name ms)) finding

-- the findings of a list and of an object that are not empty
pub some_list : (J : Judge) (vs : List Json) (r : Result (Unit {0}) RowFault) → 0 < length vs → IsFinding (each_element J 0 (elements_of vs)) r → IsFinding (list_of_some J (array (elements_of vs))) r
some_list J [] r some finding = absurd (omega arith)
some_list J (v ∷ vs) r some finding = finding

pub some_object : (J : Judge) (ms : List (List ℕ × Json)) (r : Result (Unit {0}) RowFault) → 0 < length ms → IsFinding (each_member J (members_of ms)) r → IsFinding (object_of_some J (object (members_of ms))) r
some_object J [] r some finding = absurd (omega arith)
some_object J (m ∷ ms) r some finding = finding

-- of members that may be absent, the first that is wrong is the first of all
pub name_stops : {B : Type 0} (names : List B) (text : B → List ℕ) (i : ℕ) (n : B) (J : Judge) (ms : Members) (places : Places) (e : RowFault) → i < length names →
    places ≡ optional_members (map text (drop i names)) J ms → IsFinding (optional_member (text (get_or names i n)) J ms) (Err e) → IsFinding places (Err e)
name_stops names text i n J ms places e within left first =
    subst (λ ps. IsFinding ps (Err e)) (sym (left ∙ ap (λ ns. optional_members (map text ns) J ms) (drop_more names i n within)))
    (stops (optional_member (text (get_or names i n)) J ms) (optional_members (map text (drop (i + 1) names)) J ms) e first)
