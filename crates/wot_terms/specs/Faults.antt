-- The faults of a Thing Description (TD 1.1 section 5.3): a table of 18 conditions, and the list of all faults. A
-- condition on a part names the part (`/securityDefinitions/n/scheme`, `/security/1`); one on a list or an object as a
-- whole, as that it isn't empty, names it as a whole.
use Rattle.std.specs.Prelude.{◌≡◌, ◌≢◌, ℕ, ◌+◌, List, [], ◌∷◌, ◌++◌, Bool, true, false, Option, Some, None, is_some, slice_get, codes, map, if◌then◌else◌}
use Rattle.std.specs.List.{flat_map}
use Rattle.std.specs.Option.{option_map_or}
use Rattle.std.specs.Str.{bytes_eq}
use Rattle.wot_json.specs.Tree.{Json, boolean, string, array, object, Elements, no_elements, element, Members, no_members, member}
use Rattle.wot_json.specs.Places.{step_text, element_step_text}
use Rattle.wot_json.specs.Lookup.{value_under}
use Rattle.wot_json.specs.Texts.{has_text}
use Rattle.wot_schema.specs.declared.fault.SchemaFault.{SchemaFault}
use Rattle.wot_schema.specs.declared.fault.SchemaFault.TheVariants as schema_fault
use Rattle.wot_schema.specs.Faults.{schema_faults}
use Rattle.wot_terms.specs.declared.kind.Kind.{Kind}
use Rattle.wot_terms.specs.declared.kind.Kind.TheVariants as kind
use Rattle.wot_terms.specs.declared.fault.CheckFault.{CheckFault}
use Rattle.wot_terms.specs.declared.fault.CheckFault.TheVariants as check_fault
use Rattle.wot_terms.specs.Operations.{is_operation}

-- ## The words of the table

-- The places at which a value is not as it should be, in preorder, each as a JSON Pointer (RFC 6901) from that value.
abbrev pub Places : Type 0
Places = List (List ℕ)

-- a demand on a value, and one on the members of an object
abbrev pub Judge : Type 0
Judge = Json → Places

abbrev pub MembersJudge : Type 0
MembersJudge = Members → Places

-- the value itself is wrong
abbrev pub here : Places
here = [] ∷ []

-- places in a member and in an element, from the object or the list that holds it (RFC 6901 section 4)
abbrev pub in_member : List ℕ → Places → Places
in_member name places = map (λ p. step_text name ++ p) places

abbrev pub in_element : ℕ → Places → Places
in_element i places = map (λ p. element_step_text i ++ p) places

-- the value meets a test
abbrev pub is : (Json → Bool) → Judge
is test v = if test v then [] else here

-- each member of an object, in the byte order of the names, and each element of a list
abbrev pub each_member : Judge → MembersJudge
each_member judge no_members = []
each_member judge (member name v ms) = in_member name (judge v) ++ each_member judge ms

abbrev pub each_element : Judge → ℕ → Elements → Places
each_element judge i no_elements = []
each_element judge i (element v es) = in_element i (judge v) ++ each_element judge (i + 1) es

-- a member that has to be there, and one that may be absent
abbrev pub required_member : List ℕ → Judge → MembersJudge
required_member name judge ms = in_member name (option_map_or judge (value_under name ms) here)

abbrev pub optional_member : List ℕ → Judge → MembersJudge
optional_member name judge ms = in_member name (option_map_or judge (value_under name ms) [])

abbrev pub optional_members : List (List ℕ) → Judge → MembersJudge
optional_members names judge ms = flat_map (λ name. optional_member name judge ms) names

-- an object with such members, and an object, not empty, of such values
abbrev pub object_with : MembersJudge → Judge
object_with asked (object ms) = asked ms
object_with asked v = here

abbrev pub object_of_some : Judge → Judge
object_of_some judge (object (member name v ms)) = each_member judge (member name v ms)
object_of_some judge v = here

-- a list of such values, and a list of them that is not empty
abbrev pub list_of : Judge → Judge
list_of judge (array es) = each_element judge 0 es
list_of judge v = here

abbrev pub list_of_some : Judge → Judge
list_of_some judge (array (element v es)) = each_element judge 0 (element v es)
list_of_some judge v = here

-- The demands on the members and on the elements where an earlier row has asked for an object or a list. Another value
-- is passed over.
abbrev pub if_object : MembersJudge → Judge
if_object asked (object ms) = asked ms
if_object asked v = []

abbrev pub if_list : Judge → Judge
if_list judge (array es) = each_element judge 0 es
if_list judge v = []

abbrev pub is_text : Json → Bool
is_text (string t) = true
is_text v = false

abbrev pub is_text_with : (List ℕ → Bool) → Json → Bool
is_text_with test (string t) = test t
is_text_with test v = false

abbrev pub is_boolean : Json → Bool
is_boolean (boolean b) = true
is_boolean v = false

-- a text of which this holds, or a list, not empty, of such texts
abbrev pub texts : (List ℕ → Bool) → Judge
texts test (array es) = list_of_some (is (is_text_with test)) (array es)
texts test v = is (is_text_with test) v

abbrev pub anything : Judge
anything v = []

abbrev pub text : Judge
text v = is is_text v

abbrev pub truth_value : Judge
truth_value v = is is_boolean v

abbrev pub any_object : Judge
any_object v = object_with (λ ms. []) v

-- ## Affordances and forms

-- the member of a Thing that holds its properties, its actions, its events (section 5.3.1.1)
abbrev pub holder : Kind → List ℕ
holder kind.Property = codes "properties"
holder kind.Action = codes "actions"
holder kind.Event = codes "events"

-- the demands on each affordance of a kind, and on those of every kind, in preorder of the description
abbrev pub affordances_of : (Kind → MembersJudge) → Kind → MembersJudge
affordances_of asked k ms = optional_member (holder k) (λ v. if_object (λ named. each_member (λ w. if_object (asked k) w) named) v) ms

abbrev pub each_affordance : (Kind → MembersJudge) → MembersJudge
each_affordance asked ms = affordances_of asked kind.Action ms ++ (affordances_of asked kind.Event ms ++ affordances_of asked kind.Property ms)

-- The demands on each form of an affordance of a kind, or of the root, and on all forms, in preorder of the
-- description.
abbrev pub forms_of : (Option Kind → MembersJudge) → Option Kind → MembersJudge
forms_of asked place ms = optional_member (codes "forms") (λ v. if_list (λ w. if_object (asked place) w) v) ms

abbrev pub each_form : (Option Kind → MembersJudge) → MembersJudge
each_form asked ms =
    affordances_of (λ k. forms_of asked (Some k)) kind.Action ms ++
    (affordances_of (λ k. forms_of asked (Some k)) kind.Event ms ++
    (forms_of asked None ms ++
    affordances_of (λ k. forms_of asked (Some k)) kind.Property ms))

-- ## The rows

-- 2: `@context` (section 5.3.1.1)
abbrev pub td_context : List ℕ
td_context = codes "https://www.w3.org/2022/wot/td/v1.1"

abbrev pub context : MembersJudge
context ms = required_member (codes "@context") (is (has_text td_context)) ms

-- 3: `title` (section 5.3.1.1)
abbrev pub title : MembersJudge
title ms = required_member (codes "title") text ms

-- 4: `securityDefinitions` (sections 5.3.1.1 and 5.3.3.1): the one security scheme is that there is none
abbrev pub security_definitions : MembersJudge
security_definitions ms =
    required_member (codes "securityDefinitions") (object_of_some (object_with (required_member (codes "scheme") (is (is_text_with (bytes_eq (codes "nosec"))))))) ms

-- 5: `security` (section 5.3.1.1): names of security definitions, of any form, because condition 4 judges that
abbrev pub has_member : Option Json → List ℕ → Bool
has_member (Some (object ms)) name = is_some (value_under name ms)
has_member v name = false

abbrev pub is_defined : Members → List ℕ → Bool
is_defined ms name = has_member (value_under (codes "securityDefinitions") ms) name

abbrev pub security : MembersJudge
security ms = required_member (codes "security") (texts (is_defined ms)) ms

-- 6: `id` (section 5.3.1.1)
abbrev pub is_text_not_empty : Json → Bool
is_text_not_empty (string (b ∷ bs)) = true
is_text_not_empty v = false

abbrev pub id : MembersJudge
id ms = optional_member (codes "id") (is is_text_not_empty) ms

-- 7: `base` (section 5.3.1.1)
abbrev pub base : MembersJudge
base ms = optional_member (codes "base") text ms

-- 8: `@type` (section 5.3.1.1): a description is no Thing Model (section "Thing Model")
abbrev pub thing_model : List ℕ
thing_model = codes "tm:ThingModel"

abbrev pub text_or_texts : Judge
text_or_texts (string t) = []
text_or_texts (array es) = each_element text 0 es
text_or_texts v = here

abbrev pub type_of_thing : Judge
type_of_thing v = (if has_text thing_model v then here else []) ++ text_or_texts v

abbrev pub types : MembersJudge
types ms = optional_member (codes "@type") type_of_thing ms

-- 9: `properties`, `actions` and `events` (section 5.3.1.1)
abbrev pub affordances : Kind → MembersJudge
affordances k ms = optional_member (holder k) (object_with (each_member any_object)) ms

abbrev pub affordance_maps : MembersJudge
affordance_maps ms = affordances kind.Action ms ++ (affordances kind.Event ms ++ affordances kind.Property ms)

-- 10: `forms` of an affordance (section 5.3.1.2)
abbrev pub affordance_forms : Kind → MembersJudge
affordance_forms k ms = required_member (codes "forms") (list_of_some any_object) ms

-- 11: `forms` of the Thing (section 5.3.1.1): each has `op`
abbrev pub root_forms : MembersJudge
root_forms ms = optional_member (codes "forms") (list_of (object_with (required_member (codes "op") anything))) ms

-- 12: `href` of a form (section 5.3.4.2)
abbrev pub form_href : Option Kind → MembersJudge
form_href place ms = required_member (codes "href") text ms

-- 13: `op` of a form (section 5.3.4.2)
abbrev pub form_operations : Option Kind → MembersJudge
form_operations place ms = optional_member (codes "op") (texts (is_operation place)) ms

-- 14: further texts of a form (section 5.3.4.2, and the bindings to HTTP and CoAP)
abbrev pub form_text_names : List (List ℕ)
form_text_names = codes "contentType" ∷ codes "cov:method" ∷ codes "htv:methodName" ∷ codes "subprotocol" ∷ []

abbrev pub form_texts : Option Kind → MembersJudge
form_texts place ms = optional_members form_text_names text ms

-- 15: truth values of an affordance (sections 5.3.1.3, 5.3.1.4 and 5.3.2.1)
abbrev pub flag_names : List (List ℕ)
flag_names = codes "idempotent" ∷ codes "observable" ∷ codes "readOnly" ∷ codes "safe" ∷ codes "writeOnly" ∷ []

abbrev pub affordance_flags : Kind → MembersJudge
affordance_flags k ms = optional_members flag_names truth_value ms

-- 16: data schemas (section 5.3.2): a property is one (section 5.3.1.3), an action has its input and output
-- (section 5.3.1.4), an event what it carries (section 5.3.1.5)
abbrev pub pointer_of : SchemaFault → List ℕ
pointer_of (schema_fault.Unsupported p word) = p
pointer_of (schema_fault.Malformed p) = p
pointer_of schema_fault.NoMemory = []

abbrev pub schema : Judge
schema v = map pointer_of (schema_faults v)

abbrev pub schema_names : Kind → List (List ℕ)
schema_names kind.Property = []
schema_names kind.Action = codes "input" ∷ codes "output" ∷ []
schema_names kind.Event = codes "cancellation" ∷ codes "data" ∷ codes "subscription" ∷ []

abbrev pub affordance_schemas : Kind → MembersJudge
affordance_schemas kind.Property ms = schema (object ms)
affordance_schemas kind.Action ms = optional_members (schema_names kind.Action) schema ms
affordance_schemas kind.Event ms = optional_members (schema_names kind.Event) schema ms

-- 17: `links` (sections 5.3.1.1 and 5.3.4.1)
abbrev pub link : MembersJudge
link ms = required_member (codes "href") text ms ++ optional_member (codes "rel") text ms

abbrev pub links : MembersJudge
links ms = optional_member (codes "links") (list_of (object_with link)) ms

-- 18: `version` (sections 5.3.1.1 and 5.3.1.6)
abbrev pub version : MembersJudge
version ms = optional_member (codes "version") (object_with (required_member (codes "instance") text)) ms

-- ## The table

-- the rows, and where the members of a description do not meet them
abbrev pub table : Members → List (ℕ × Places)
table ms =
    (2, context ms) ∷
    (3, title ms) ∷
    (4, security_definitions ms) ∷
    (5, security ms) ∷
    (6, id ms) ∷
    (7, base ms) ∷
    (8, types ms) ∷
    (9, affordance_maps ms) ∷
    (10, each_affordance affordance_forms ms) ∷
    (11, root_forms ms) ∷
    (12, each_form form_href ms) ∷
    (13, each_form form_operations ms) ∷
    (14, each_form form_texts ms) ∷
    (15, each_affordance affordance_flags ms) ∷
    (16, each_affordance affordance_schemas ms) ∷
    (17, links ms) ∷
    (18, version ms) ∷
    []

-- the faults of a row: its number, with each place
abbrev pub row_faults : ℕ × Places → List (ℕ × List ℕ)
row_faults row = map (λ p. (row.0, p)) row.1

-- All faults of a description, row by row. The first row is that it is an object (section 5.3.1.1); where it fails
-- there are no others.
abbrev pub faults_of : Json → List (ℕ × List ℕ)
faults_of (object ms) = flat_map row_faults (table ms)
faults_of v = (1, []) ∷ []

-- the value is a valid description
abbrev pub IsValid : Json → Type 0
IsValid v = faults_of v ≡ []

-- the fault is the first of these, or the call is out of memory and there is one
abbrev pub IsCheckRefusal : List (ℕ × List ℕ) → CheckFault → Type 0
IsCheckRefusal faults check_fault.NoMemory = faults ≢ []
IsCheckRefusal faults (check_fault.Td fault) = slice_get faults 0 ≡ Some (fault.number, fault.pointer)
