-- Lists that are not empty, and lists of texts.
use Rattle.std.proofs.Common.{◌≡◌, ◌<◌, ℕ, true, map, List, [], ◌∷◌, length, refl, arith}
use Rattle.wot_json.specs.Tree.{Json, string, array, elements_of}
use Rattle.wot_schema.specs.Values.{element_count}
use Rattle.wot_schema.specs.Faults.{list_with_element, are_texts}

-- a list that has an element is one
pub faultless_list : (vs : List Json) → 0 < length vs → list_with_element (array (elements_of vs)) ≡ []
faultless_list [] some = absurd (omega arith)
faultless_list (v ∷ vs) some = refl

pub element_count-elements_of : (vs : List Json) → element_count (elements_of vs) ≡ length vs
element_count-elements_of [] = refl
element_count-elements_of (v ∷ vs) = omega (arith, element_count-elements_of vs)

pub are_texts-map : (ts : List (List ℕ)) → are_texts (elements_of (map string ts)) ≡ true
are_texts-map [] = refl
are_texts-map (t ∷ ts) = are_texts-map ts
