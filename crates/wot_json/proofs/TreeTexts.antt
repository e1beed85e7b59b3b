-- The text of lists and objects, element by element and member by member.
use Rattle.std.proofs.Common.{◌≡◌, ℕ, List, [], ◌∷◌, ◌++◌, refl, ap, ◌∙◌, append_assoc}
use Rattle.std.specs.List.{flat_map}
use Rattle.wot_json.specs.declared.tree.Tree.{Tree}
use Rattle.wot_json.specs.Tree.{Json, array, object, elements_of, members_of}
use Rattle.wot_json.specs.Meaning.{json_items, json_members}
use Rattle.wot_json.specs.Json.{text_of, json_text, field_text, more_elements_text, more_members_text, further_element, further_field}

further_elements : (ts : List Tree) → more_elements_text (elements_of (json_items ts)) ≡ flat_map further_element ts
further_elements [] = refl
further_elements (t ∷ ts) =
    ap (λ (rest : List ℕ). 44 ∷ (json_text t ++ rest)) (further_elements ts)

-- a list: its first element, and each further one after a comma
pub list_text : (t : Tree) (ts : List Tree) → text_of (array (elements_of (json_items (t ∷ ts)))) ≡ (91 ∷ []) ++ (json_text t ++ (flat_map further_element ts ++ (93 ∷ [])))
list_text t ts =
    ap (λ (rest : List ℕ). 91 ∷ ((json_text t ++ rest) ++ 93 ∷ [])) (further_elements ts)
    ∙ ap (λ (rest : List ℕ). 91 ∷ rest) (append_assoc (json_text t) (flat_map further_element ts) (93 ∷ []))

-- the text of the list that these trees have
pub list_text_is : (values : List Json) (list : List Tree) (t : Tree) (ts : List Tree) → values ≡ json_items list → list ≡ t ∷ ts → text_of (array (elements_of values)) ≡ (91 ∷ []) ++ (json_text t ++ (flat_map further_element ts ++ (93 ∷ [])))
list_text_is values list t ts view is =
    ap (λ (vs : List Json). text_of (array (elements_of vs))) (view ∙ ap json_items is) ∙ list_text t ts

further_fields : (ms : List (List ℕ × Tree)) → more_members_text (members_of (json_members ms)) ≡ flat_map further_field ms
further_fields [] = refl
further_fields (m ∷ ms) = ap (λ (rest : List ℕ). 44 ∷ (field_text m ++ rest)) (further_fields ms)

-- an object: its first member, and each further one after a comma
pub object_text : (m : List ℕ × Tree) (ms : List (List ℕ × Tree)) → text_of (object (members_of (json_members (m ∷ ms)))) ≡ (123 ∷ []) ++ (field_text m ++ (flat_map further_field ms ++ (125 ∷ [])))
object_text m ms =
    ap (λ (rest : List ℕ). 123 ∷ ((field_text m ++ rest) ++ 125 ∷ [])) (further_fields ms)
    ∙ ap (λ (rest : List ℕ). 123 ∷ rest) (append_assoc (field_text m) (flat_map further_field ms) (125 ∷ []))

-- the text of the object that these names and trees have
pub object_text_is : (values : List (List ℕ × Json)) (list : List (List ℕ × Tree)) (m : List ℕ × Tree) (ms : List (List ℕ × Tree)) → values ≡ json_members list → list ≡ m ∷ ms → text_of (object (members_of values)) ≡ (123 ∷ []) ++ (field_text m ++ (flat_map further_field ms ++ (125 ∷ [])))
object_text_is values list m ms view is =
    ap (λ (vs : List (List ℕ × Json)). text_of (object (members_of vs))) (view ∙ ap json_members is) ∙ object_text m ms
