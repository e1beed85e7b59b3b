-- The faults of a data schema: `schema_faults` lists them all, `table` says what each member must be.
-- Places are seen from the value that has the fault, because each part then reports its own; the level above
-- puts its step before them.
use Rattle.std.specs.Prelude.{◌≡◌, ◌⊎◌, ◌&&◌, Bool, true, false, ℕ, ◌+◌, pos, suc, List, [], ◌∷◌, ◌++◌, map, Some, IfSome, codes, slice_get, if◌then◌else◌}
use Rattle.std.specs.List.{flat_map, list_any}
use Rattle.std.specs.Option.{option_map_or}
use Rattle.std.specs.Str.{bytes_eq}
use Rattle.wot_json.specs.Tree.{Json, integer, string, array, object, Elements, no_elements, element, Members, no_members, member}
use Rattle.wot_json.specs.Places.{step_text, element_step_text}
use Rattle.wot_json.specs.Lookup.{value_under}
use Rattle.wot_schema.specs.declared.fault.SchemaFault.{SchemaFault}
use Rattle.wot_schema.specs.declared.fault.SchemaFault.TheVariants.{Unsupported, Malformed, NoMemory}
use Rattle.wot_schema.specs.Acceptance.{Holder, one_of, items, properties, name_of}

-- the faults of a value, with their places seen from it
abbrev pub Judge : Type 0
Judge = Json → List SchemaFault

-- a fault whose place is reached through this step
abbrev pub fault_through : List ℕ → SchemaFault → SchemaFault
fault_through step (Unsupported place word) = Unsupported (step ++ place) word
fault_through step (Malformed place) = Malformed (step ++ place)
fault_through step NoMemory = NoMemory

-- the faults of a member, with their places seen from its object (RFC 6901 sections 3 and 4)
abbrev pub faults_in_member : List ℕ → List SchemaFault → List SchemaFault
faults_in_member name faults = map (fault_through (step_text name)) faults

-- the faults of an element, with their places seen from its list (RFC 6901 section 4)
abbrev pub faults_in_element : ℕ → List SchemaFault → List SchemaFault
faults_in_element i faults = map (fault_through (element_step_text i)) faults

-- the value itself has another form than is asked for
abbrev pub wrong_form : List SchemaFault
wrong_form = Malformed [] ∷ []

-- the value itself is not supported, or is a word that is not
abbrev pub unsupported_word : List ℕ → List SchemaFault
unsupported_word word = Unsupported [] word ∷ []

-- a member that no schema may have
abbrev pub nothing : List ℕ → Judge
nothing name s = unsupported_word name

-- the types of values (TD 1.1 section 5.3.2.1) without `number`
abbrev pub type_names : List (List ℕ)
type_names =
    codes "boolean" ∷ codes "integer" ∷ codes "string" ∷ codes "null" ∷ codes "array" ∷ codes "object" ∷ []

-- the name of a type; `number` is one too, but its values are no integers
abbrev pub type_name : Judge
type_name (string t) =
    if bytes_eq t (codes "number") then unsupported_word t
    else if list_any (bytes_eq t) type_names then []
    else wrong_form
type_name s = wrong_form

abbrev pub any_value : Judge
any_value s = []

abbrev pub list_with_element : Judge
list_with_element (array (element s ss)) = []
list_with_element s = wrong_form

abbrev pub whole_number : Judge
whole_number (integer n) = []
whole_number s = wrong_form

abbrev pub number_above_zero : Judge
number_above_zero (integer (pos (suc n))) = []
number_above_zero s = wrong_form

abbrev pub count : Judge
count (integer (pos n)) = []
count s = wrong_form

abbrev pub object_or_list : Judge
object_or_list (object ms) = []
object_or_list (array ss) = []
object_or_list s = wrong_form

abbrev pub is_text : Json → Bool
is_text (string t) = true
is_text s = false

abbrev pub are_texts : Elements → Bool
are_texts no_elements = true
are_texts (element s ss) = is_text s && are_texts ss

abbrev pub list_of_texts : Judge
list_of_texts (array ss) = if are_texts ss then [] else wrong_form
list_of_texts s = wrong_form

abbrev pub any_object : Judge
any_object (object ms) = []
any_object s = wrong_form

-- The table: which members a schema may have, and what each must be. Every other member is ignored.
abbrev pub table : List (List ℕ × Judge)
table =
    (codes "pattern", nothing (codes "pattern")) ∷
    (codes "contentEncoding", nothing (codes "contentEncoding")) ∷
    (codes "contentMediaType", nothing (codes "contentMediaType")) ∷
    (codes "type", type_name) ∷
    (codes "const", any_value) ∷
    (codes "enum", list_with_element) ∷
    (codes "oneOf", list_with_element) ∷
    (codes "minimum", whole_number) ∷
    (codes "maximum", whole_number) ∷
    (codes "exclusiveMinimum", whole_number) ∷
    (codes "exclusiveMaximum", whole_number) ∷
    (codes "multipleOf", number_above_zero) ∷
    (codes "minLength", count) ∷
    (codes "maxLength", count) ∷
    (codes "items", object_or_list) ∷
    (codes "minItems", count) ∷
    (codes "maxItems", count) ∷
    (codes "properties", any_object) ∷
    (codes "required", list_of_texts) ∷
    []

-- the faults of one row of the table, where the schema has its member
abbrev pub row_faults : Members → List ℕ × Judge → List SchemaFault
row_faults ms row = faults_in_member row.0 (option_map_or row.1 (value_under row.0 ms) [])

-- the faults of all rows, in order
abbrev pub table_faults : Members → List SchemaFault
table_faults ms = flat_map (row_faults ms) table

abbrev mutual
  -- All faults of a schema, with their places from its root: those of the table, and then those
  -- of the schemas below it.
  pub schema_faults : Json → List SchemaFault
  schema_faults (object ms) = table_faults ms ++ (faults_within one_of ms ++ (faults_within items ms ++ faults_within properties ms))
  schema_faults s = wrong_form

  pub faults_within : Holder → Members → List SchemaFault
  faults_within holder no_members = []
  faults_within holder (member n s ms) =
      if bytes_eq (name_of holder) n then faults_in_member (name_of holder) (faults_below holder s) else faults_within holder ms

  -- the faults of the schemas that this member of a schema holds
  pub faults_below : Holder → Json → List SchemaFault
  faults_below one_of (array ss) = faults_of_list 0 ss
  faults_below items (array ss) = faults_of_list 0 ss
  faults_below items (object ms) = table_faults ms ++ (faults_within one_of ms ++ (faults_within items ms ++ faults_within properties ms))
  faults_below properties (object ps) = faults_of_members ps
  faults_below holder s = []

  pub faults_of_list : ℕ → Elements → List SchemaFault
  faults_of_list i no_elements = []
  faults_of_list i (element s ss) = faults_in_element i (schema_faults s) ++ faults_of_list (i + 1) ss

  pub faults_of_members : Members → List SchemaFault
  faults_of_members no_members = []
  faults_of_members (member name s ps) = faults_in_member name (schema_faults s) ++ faults_of_members ps

-- the fault is the first of these, or the call is out of memory
abbrev pub IsSchemaRefusal : List SchemaFault → SchemaFault → Type 0
IsSchemaRefusal faults fault = (fault ≡ NoMemory) ⊎ (slice_get faults 0 ≡ Some fault)

-- the member of a row of the table is as the row asks, where there is one
abbrev pub IsMet : Members → List ℕ × Judge → Type 0
IsMet ms row = IfSome (value_under row.0 ms) (λ s. row.1 s ≡ [])

-- the rows that a schema's rules are compiled from are met
pub record AreRowsMet (ms : Members) : Type 0 where
  pub type : IsMet ms (codes "type", type_name)
  pub choice : IsMet ms (codes "enum", list_with_element)
  pub minimum : IsMet ms (codes "minimum", whole_number)
  pub maximum : IsMet ms (codes "maximum", whole_number)
  pub exclusive_minimum : IsMet ms (codes "exclusiveMinimum", whole_number)
  pub exclusive_maximum : IsMet ms (codes "exclusiveMaximum", whole_number)
  pub multiple_of : IsMet ms (codes "multipleOf", number_above_zero)
  pub min_length : IsMet ms (codes "minLength", count)
  pub max_length : IsMet ms (codes "maxLength", count)
  pub min_items : IsMet ms (codes "minItems", count)
  pub max_items : IsMet ms (codes "maxItems", count)
  pub required : IsMet ms (codes "required", list_of_texts)
