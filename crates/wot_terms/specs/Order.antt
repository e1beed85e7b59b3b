-- The order of places in a value, and which places are there.
use Rattle.std.specs.Prelude.{◌≡◌, ◌<◌, ◌⊎◌, ℕ, zero, suc, List, [], ◌∷◌, ◌++◌, map, ⊤, Option, Some, None, IsSome, option_and_then}
use Rattle.std.specs.List.{flat_map}
use Rattle.std.specs.Option.{option_map_or}
use Rattle.std.specs.Ordering.{nat_cmp}
use Rattle.std.specs.declared.cmp.Ordering.TheVariants.{Less}
use Rattle.std.specs.Cmp.Lexicographic.{slice_cmp}
use Rattle.wot_json.specs.Tree.{Json, null, boolean, integer, string, array, object, Elements, no_elements, element, Members}
use Rattle.wot_json.specs.Places.{step_text, element_step_text}
use Rattle.wot_json.specs.Lookup.{value_under}
use Rattle.wot_terms.specs.Faults.{Places, schema}

-- a step inwards: to the member of this name, or to the element of this index (RFC 6901 section 4)
pub data Step : Type 0 where
  to_member : List ℕ → Step
  to_element : ℕ → Step

abbrev pub Path : Type 0
Path = List Step

-- the pointer of a path (RFC 6901 section 3)
abbrev pub step_pointer : Step → List ℕ
step_pointer (to_member name) = step_text name
step_pointer (to_element i) = element_step_text i

abbrev pub pointer_along : Path → List ℕ
pointer_along [] = []
pointer_along (s ∷ path) = step_pointer s ++ pointer_along path

-- the element of an index, counted from 0
abbrev pub element_of : ℕ → Elements → Option Json
element_of i no_elements = None
element_of zero (element v es) = Some v
element_of (suc i) (element v es) = element_of i es

-- the part of a value that a step leads to, and the value at the end of a path, where there is one (RFC 6901 section 4)
abbrev pub part_through : Step → Json → Option Json
part_through (to_member name) (object ms) = value_under name ms
part_through (to_member name) null = None
part_through (to_member name) (boolean b) = None
part_through (to_member name) (integer n) = None
part_through (to_member name) (string t) = None
part_through (to_member name) (array es) = None
part_through (to_element i) (array es) = element_of i es
part_through (to_element i) null = None
part_through (to_element i) (boolean b) = None
part_through (to_element i) (integer n) = None
part_through (to_element i) (string t) = None
part_through (to_element i) (object ms) = None

abbrev pub value_along : Path → Json → Option Json
value_along [] v = Some v
value_along (s ∷ path) v = option_and_then (value_along path) (part_through s v)

-- The path ends at a member that an object lacks, and the object is there.
pub record IsMissing (v : Json) (path : Path) : Type 0 where
  pub parent : Path
  pub name : List ℕ
  pub members : Members
  pub path_is : path ≡ parent ++ to_member name ∷ []
  pub object_is : value_along parent v ≡ Some (object members)
  pub absent : value_under name members ≡ None

-- a value is at the end of the path, or it ends at a member that an object lacks
abbrev pub IsPlace : Json → Path → Type 0
IsPlace v path = IsSome (value_along path v) ⊎ IsMissing v path

-- the text is the pointer of a place of the value
abbrev pub IsPointerIn : Json → List ℕ → Type 0
IsPointerIn v p = (path : Path) × (p ≡ pointer_along path) × IsPlace v path

-- of two steps into one value, the one comes before the other: names in byte order, indices as numbers
abbrev pub StepComesBefore : Step → Step → Type 0
StepComesBefore (to_member m) (to_member n) = slice_cmp nat_cmp m n ≡ Less
StepComesBefore (to_member m) (to_element j) = ⊥
StepComesBefore (to_element i) (to_member n) = ⊥
StepComesBefore (to_element i) (to_element j) = i < j

-- Preorder: a place comes before those inside it, and before those that are reached by a later step from where their
-- paths part.
abbrev pub ComesBefore : Path → Path → Type 0
ComesBefore [] [] = ⊥
ComesBefore [] (t ∷ q) = ⊤
ComesBefore (s ∷ p) [] = ⊥
ComesBefore (s ∷ p) (t ∷ q) = StepComesBefore s t ⊎ ((s ≡ t) × ComesBefore p q)

-- this holds of each of these
abbrev pub Each : {A : Type 0} → (A → Type 0) → List A → Type 0
Each P [] = ⊤
Each P (x ∷ xs) = P x × Each P xs

-- each path comes before all later ones
abbrev pub AreInPreorder : List Path → Type 0
AreInPreorder [] = ⊤
AreInPreorder (p ∷ ps) = Each (ComesBefore p) ps × AreInPreorder ps

-- The pointers are those of places of a value, in preorder.
pub record ComeInPreorder (v : Json) (places : Places) : Type 0 where
  pub paths : List Path
  pub places_are : places ≡ map pointer_along paths
  pub order : AreInPreorder paths
  pub are_places : Each (IsPlace v) paths

-- the places of the faults of the schema at the end of a path
abbrev pub schema_places : Json → Path → Places
schema_places v path = map (λ p. pointer_along path ++ p) (option_map_or schema (value_along path v) [])

-- The pointers are those of the faults of schemas in a value, each at a place that is there; the schemas come in
-- preorder.
pub record SchemasComeInPreorder (v : Json) (places : Places) : Type 0 where
  pub paths : List Path
  pub places_are : places ≡ flat_map (schema_places v) paths
  pub order : AreInPreorder paths
  pub are_there : Each (λ p. IsSome (value_along p v)) paths
  pub lead : Each (IsPointerIn v) places

-- the faults of a row of the table of a description are in preorder: the sixteenth row is the one on schemas
abbrev pub IsInPreorder : Json → ℕ × Places → Type 0
IsInPreorder v row = (row.0 ≡ 16 → SchemasComeInPreorder v row.1) × ((row.0 ≡ 16 → ⊥) → ComeInPreorder v row.1)
