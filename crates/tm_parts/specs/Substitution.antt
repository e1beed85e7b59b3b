-- A model with values in place of its placeholders, and the faults that it may have instead
-- (Thing Description 1.1, section "Thing Model").
use Rattle.std.specs.Prelude.{◌≡◌, ◌⊎◌, ℕ, ◌+◌, List, [], ◌∷◌, ◌++◌, map, Option, Some, None, unwrap_or}
use Rattle.std.specs.List.{flat_map}
use Rattle.wot_json.specs.Tree.{Json, null, boolean, integer, string, array, object, Elements, no_elements, element, Members, no_members, member}
use Rattle.wot_json.specs.Lookup.{member_named}
use Rattle.wot_json.specs.Places.{step_text, element_step_text}
use Rattle.tm_parts.specs.Placeholders.{Piece, plain, placeholder, placeholder_text, sole_placeholder, pieces, placeholders, first_of}
use Rattle.tm_parts.specs.declared.substitution.PartFault.{PartFault}
use Rattle.tm_parts.specs.declared.substitution.PartFault.TheVariants.{InName, NotText, NoMemory}

-- names, each with the value that is to take its place; of two with one name the first counts
abbrev pub Values : Type 0
Values = List (List ℕ × Json)

-- the value that is bound to a name, where one is
abbrev pub bound_value : List ℕ → Values → Option Json
bound_value name values = member_named name values

-- ---- one text

-- the text that a value puts into a text: a text itself, and any other value nothing
abbrev pub put_text : Json → List ℕ
put_text (string s) = s
put_text v = []

-- the faults of a value that is put into a text: it is no text
abbrev pub put_faults : List ℕ → Json → List PartFault
put_faults name (string s) = []
put_faults name v = NotText name ∷ []

-- the text of a piece of a text: a plain byte itself, a placeholder's value, and an unbound placeholder as it is
-- written
abbrev pub piece_text : Values → Piece → List ℕ
piece_text values (plain b) = b ∷ []
piece_text values (placeholder name) = elim (bound_value name values) [ None ↦ placeholder_text name | Some v ↦ put_text v ]

-- the faults of a piece of a text
abbrev pub piece_faults : Values → Piece → List PartFault
piece_faults values (plain b) = []
piece_faults values (placeholder name) = elim (bound_value name values) [ None ↦ [] | Some v ↦ put_faults name v ]

-- The value of a text: where it is exactly one placeholder, the value that is bound to that, of any type, and else a
-- text.
abbrev pub text_value : List ℕ → Values → Json
text_value text values =
    elim (sole_placeholder (pieces text)) [
      | None ↦ string (flat_map (piece_text values) (pieces text))
      | Some name ↦ unwrap_or (bound_value name values) (string text)
    ]

-- the faults of a text, from the left; one that is exactly one placeholder has none
abbrev pub text_faults : List ℕ → Values → List PartFault
text_faults text values =
    elim (sole_placeholder (pieces text)) [
      | None ↦ flat_map (piece_faults values) (pieces text)
      | Some name ↦ []
    ]

-- ---- a whole value

-- the value with the bound values in place of its placeholders; names of members stay
abbrev mutual
  pub substituted_value : Json → Values → Json
  substituted_value null values = null
  substituted_value (boolean b) values = boolean b
  substituted_value (integer z) values = integer z
  substituted_value (string s) values = text_value s values
  substituted_value (array es) values = array (substituted_elements es values)
  substituted_value (object ms) values = object (substituted_members ms values)

  pub substituted_elements : Elements → Values → Elements
  substituted_elements no_elements values = no_elements
  substituted_elements (element v es) values = element (substituted_value v values) (substituted_elements es values)

  pub substituted_members : Members → Values → Members
  substituted_members no_members values = no_members
  substituted_members (member n v ms) values = member n (substituted_value v values) (substituted_members ms values)

-- a fault as it is seen from the value around the part that has it: its pointer begins with this step
abbrev pub faults_inside : List ℕ → PartFault → PartFault
faults_inside step (InName pointer) = InName (step ++ pointer)
faults_inside step (NotText name) = NotText name
faults_inside step NoMemory = NoMemory

-- a member name that holds a placeholder, bound or not, is a fault at that member
abbrev pub name_faults_from : List ℕ → List (List ℕ) → List PartFault
name_faults_from name [] = []
name_faults_from name (first ∷ more) = InName (step_text name) ∷ []

-- the faults of the names of an object's members
abbrev pub name_faults : Members → List PartFault
name_faults no_members = []
name_faults (member n v ms) = name_faults_from n (placeholders n) ++ name_faults ms

-- all faults in preorder: at an object first those of its members' names, then those of its members
abbrev mutual
  pub faults_of : Json → Values → List PartFault
  faults_of null values = []
  faults_of (boolean b) values = []
  faults_of (integer z) values = []
  faults_of (string s) values = text_faults s values
  faults_of (array es) values = element_faults 0 es values
  faults_of (object ms) values = name_faults ms ++ member_faults ms values

  pub element_faults : ℕ → Elements → Values → List PartFault
  element_faults index no_elements values = []
  element_faults index (element v es) values = map (faults_inside (element_step_text index)) (faults_of v values) ++ element_faults (index + 1) es values

  pub member_faults : Members → Values → List PartFault
  member_faults no_members values = []
  member_faults (member n v ms) values = map (faults_inside (step_text n)) (faults_of v values) ++ member_faults ms values

-- a substitution with these faults is refused with this one: the first of them, or out of memory
abbrev pub IsSubstitutionRefusal : PartFault → List PartFault → Type 0
IsSubstitutionRefusal fault faults = (fault ≡ NoMemory) ⊎ (first_of faults ≡ Some fault)
