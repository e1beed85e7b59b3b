-- Whether a description takes the value that an operation hands in, and the one that comes back (TD 1.1, sections 5.3.1.3
-- and 5.3.1.4).
use Rattle.std.specs.Prelude.{ℕ, List, Option, Some, None, IfSome, IsSome, codes, option_and_then, ⊤}
use Rattle.wot_json.specs.Tree.{Json, null, boolean, integer, string, array, object, Members, no_members, member}
use Rattle.wot_schema.specs.Acceptance.{Accepts}
use Rattle.wot_terms.specs.declared.kind.Kind.{Kind}
use Rattle.wot_terms.specs.declared.kind.Kind.TheVariants as kind
use Rattle.wot_terms.specs.declared.op.Op.{Op}
use Rattle.wot_terms.specs.declared.op.Op.TheVariants as op
use Rattle.wot_terms.specs.Faults.{holder}
use Rattle.wot_terms.specs.Affordances.{part}
use Rattle.wot_consumer.specs.Operations.{kind_of}

-- ## Schemas

-- the property, and the action, of this name
abbrev pub affordance_named : Kind → List ℕ → Json → Option Json
affordance_named k name t = option_and_then (part name) (part (holder k) t)

-- the schema of a property, which is the property itself, and those of an action's input and of its output
abbrev pub property_schema : Json → List ℕ → Option Json
property_schema t name = affordance_named kind.Property name t

abbrev pub input_schema : Json → List ℕ → Option Json
input_schema t name = option_and_then (part (codes "input")) (affordance_named kind.Action name t)

abbrev pub output_schema : Json → List ℕ → Option Json
output_schema t name = option_and_then (part (codes "output")) (affordance_named kind.Action name t)

-- The description has the affordance of this name that an operation is done with; for reading all properties none is
-- asked for.
abbrev pub HasAffordance : Json → Op → List ℕ → Type 0
HasAffordance t o name = IfSome (kind_of o) (λ k. IsSome (affordance_named k name t))

-- ## The value that is handed in

-- the schema that stands for what an operation hands in
abbrev pub schema_in : Json → Op → List ℕ → Option Json
schema_in t op.WriteProperty name = property_schema t name
schema_in t op.InvokeAction name = input_schema t name
schema_in t o name = None

-- a value is taken where a schema stands for it and accepts it, and none is taken where no schema stands
abbrev pub IsInputOf : Option Json → Option Json → Type 0
IsInputOf (Some schema) (Some value) = Accepts schema value
IsInputOf (Some schema) None = ⊥
IsInputOf None (Some value) = ⊥
IsInputOf None None = ⊤

abbrev pub AcceptsInput : Json → Op → List ℕ → Option Json → Type 0
AcceptsInput t o name value = IsInputOf (schema_in t o name) value

-- ## The value that comes back

-- a schema accepts the value, where it stands
abbrev pub IsAcceptedBy : Option Json → Json → Type 0
IsAcceptedBy schema value = IfSome schema (λ s. Accepts s value)

-- each member that names a property is accepted by the schema of that
abbrev pub AreProperties : Json → Members → Type 0
AreProperties t no_members = ⊤
AreProperties t (member name value ms) = IsAcceptedBy (property_schema t name) value × AreProperties t ms

-- the value of all properties is an object
abbrev pub IsOfAllProperties : Json → Json → Type 0
IsOfAllProperties t (object ms) = AreProperties t ms
IsOfAllProperties t null = ⊥
IsOfAllProperties t (boolean b) = ⊥
IsOfAllProperties t (integer n) = ⊥
IsOfAllProperties t (string s) = ⊥
IsOfAllProperties t (array es) = ⊥

-- a value is there, and this holds of it
abbrev pub IsThere : (Json → Type 0) → Option Json → Type 0
IsThere P None = ⊥
IsThere P (Some value) = P value

-- The value that comes back of each operation. Where a property is read or observed it is accepted by the property's
-- schema, of an action by that of its output where there is one; only a read has to bring a value.
abbrev pub AcceptsOutput : Json → Op → List ℕ → Option Json → Type 0
AcceptsOutput t op.ReadProperty name value = IsThere (IsAcceptedBy (property_schema t name)) value
AcceptsOutput t op.ObserveProperty name value = IsThere (IsAcceptedBy (property_schema t name)) value
AcceptsOutput t op.ReadAllProperties name value = IsThere (IsOfAllProperties t) value
AcceptsOutput t op.InvokeAction name value = IfSome value (IsAcceptedBy (output_schema t name))
AcceptsOutput t o name value = ⊤
