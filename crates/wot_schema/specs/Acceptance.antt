-- The values that a data schema accepts (TD 1.1 section 5.3.2, whose words are those of JSON Schema).
--
-- It is said of the schema's tree, member by member, because code may then compile a schema and leave out what says
-- nothing. A member of the wrong form says nothing, and a schema that is no object accepts nothing; no schema that is
-- read has either.
use Rattle.std.specs.Prelude.{◌≡◌, ℕ, ℤ, pos, ◌≤ℤ◌, ◌<ℤ◌, ◌*ℤ◌, ◌⊎◌, List, IfSome, IsSome, MatchBool, ⊤, codes}
use Rattle.std.specs.Str.{bytes_eq}
use Rattle.wot_json.specs.Tree.{Json, null, boolean, integer, string, array, object, Elements, no_elements, element, Members, no_members, member}
use Rattle.wot_json.specs.Lookup.{value_under}
use Rattle.wot_schema.specs.Values.{IfInteger, IfString, IfArray, IfObject, EachElement, SomeElement, element_count, code_points}

-- the type of a value, as `type` names it
abbrev pub type_of : Json → List ℕ
type_of null = codes "null"
type_of (boolean b) = codes "boolean"
type_of (integer n) = codes "integer"
type_of (string t) = codes "string"
type_of (array es) = codes "array"
type_of (object ms) = codes "object"

-- the demand of the member of this name, where the schema has one that is an integer
abbrev pub IfIntegerNamed : List ℕ → Members → (ℤ → Type 0) → Type 0
IfIntegerNamed name ms P = IfSome (value_under name ms) (λ s. IfInteger s P)

-- the demand of the member of this name, where the schema has one that is a list
abbrev pub IfArrayNamed : List ℕ → Members → (Elements → Type 0) → Type 0
IfArrayNamed name ms P = IfSome (value_under name ms) (λ s. IfArray s P)

-- each text of a list names a member
abbrev pub AreNamesIn : Elements → Members → Type 0
AreNamesIn names members = EachElement (λ name. IfString name (λ n. IsSome (value_under n members))) names

-- The demands on a value of those members of a schema that hold no schemas, row by row (sections 5.3.2.1 to 5.3.2.8).
-- A value of another type than a row speaks of is not asked for anything.
pub record Rows (ms : Members) (v : Json) : Type 0 where
  pub type : IfSome (value_under (codes "type") ms) (λ s. s ≡ string (type_of v))
  pub constant : IfSome (value_under (codes "const") ms) (λ s. v ≡ s)
  pub choice : IfArrayNamed (codes "enum") ms (SomeElement (λ s. v ≡ s))
  pub minimum : IfIntegerNamed (codes "minimum") ms (λ least. IfInteger v (λ n. least ≤ℤ n))
  pub maximum : IfIntegerNamed (codes "maximum") ms (λ most. IfInteger v (λ n. n ≤ℤ most))
  pub exclusive_minimum : IfIntegerNamed (codes "exclusiveMinimum") ms (λ bound. IfInteger v (λ n. bound <ℤ n))
  pub exclusive_maximum : IfIntegerNamed (codes "exclusiveMaximum") ms (λ bound. IfInteger v (λ n. n <ℤ bound))
  pub multiple_of : IfIntegerNamed (codes "multipleOf") ms (λ unit. IfInteger v (λ n. (k : ℤ) × (n ≡ k *ℤ unit)))
  pub min_length : IfIntegerNamed (codes "minLength") ms (λ least. IfString v (λ t. least ≤ℤ pos (code_points t)))
  pub max_length : IfIntegerNamed (codes "maxLength") ms (λ most. IfString v (λ t. pos (code_points t) ≤ℤ most))
  pub min_items : IfIntegerNamed (codes "minItems") ms (λ least. IfArray v (λ es. least ≤ℤ pos (element_count es)))
  pub max_items : IfIntegerNamed (codes "maxItems") ms (λ most. IfArray v (λ es. pos (element_count es) ≤ℤ most))
  pub required : IfArrayNamed (codes "required") ms (λ names. IfObject v (AreNamesIn names))

-- the members of a schema that hold schemas
pub data Holder : Type 0 where
  one_of items properties : Holder

abbrev pub name_of : Holder → List ℕ
name_of one_of = codes "oneOf"
name_of items = codes "items"
name_of properties = codes "properties"

abbrev mutual
  -- the schema, a tree, accepts the value: each row of the table holds
  pub Accepts : Json → Json → Type 0
  Accepts (object ms) v = Rows ms v × ((holder : Holder) → Within holder ms v)
  Accepts _ v = ⊥

  -- the demands on the value of the schemas below a member of the schema, where it has that member
  pub Within : Holder → Members → Json → Type 0
  Within holder no_members v = ⊤
  Within holder (member n s ms) v = MatchBool (bytes_eq (name_of holder) n) (Asks holder s v) (Within holder ms v)

  -- `oneOf`: exactly one accepts the value (section 5.3.2.1). `items`: the one schema accepts each element, which
  -- is to say that each has the rows of that schema, or the i-th schema accepts the i-th (section 5.3.2.2).
  -- `properties`: those of the value's members that are named are accepted (section 5.3.2.6).
  pub Asks : Holder → Json → Json → Type 0
  Asks one_of (array ss) v = ExactlyOne ss v
  Asks items (object ms) v = IfArray v (EachElement (λ e. Rows ms e × ((holder : Holder) → Within holder ms e)))
  Asks items (array ss) v = IfArray v (InOrder ss)
  Asks properties (object ps) v = IfObject v (AcceptMembers ps)
  Asks holder s v = ⊤

  pub ExactlyOne : Elements → Json → Type 0
  ExactlyOne no_elements v = ⊥
  ExactlyOne (element s ss) v = (Accepts s v × AcceptNone ss v) ⊎ ((¬ Accepts s v) × ExactlyOne ss v)

  pub AcceptNone : Elements → Json → Type 0
  AcceptNone no_elements v = ⊤
  AcceptNone (element s ss) v = (¬ Accepts s v) × AcceptNone ss v

  -- the i-th schema accepts the i-th element, and further ones of either are free
  pub InOrder : Elements → Elements → Type 0
  InOrder no_elements es = ⊤
  InOrder (element s ss) no_elements = ⊤
  InOrder (element s ss) (element v es) = Accepts s v × InOrder ss es

  pub AcceptMembers : Members → Members → Type 0
  AcceptMembers no_members vs = ⊤
  AcceptMembers (member name s ps) vs = IfSome (value_under name vs) (λ v. Accepts s v) × AcceptMembers ps vs
