-- The schemas of the affordances of a valid description.
use Rattle.std.specs.Prelude.{◌≡◌, [], IfSome, ⊤}
use Rattle.wot_json.specs.Tree.{Json, object, Members, no_members, member}
use Rattle.wot_json.specs.Lookup.{value_under}
use Rattle.wot_schema.specs.Faults.{schema_faults}
use Rattle.wot_terms.specs.declared.kind.Kind.{Kind}
use Rattle.wot_terms.specs.Faults.{holder}
use Rattle.wot_terms.specs.Affordances.{input_of, output_of}

abbrev pub IsSchema : Json → Type 0
IsSchema v = schema_faults v ≡ []

-- the input and the output of an affordance of this kind are schemas without a fault
abbrev pub HasSchemas : Kind → Json → Type 0
HasSchemas k v = IfSome (input_of k v) IsSchema × IfSome (output_of k v) IsSchema

-- so is it with each of these affordances
abbrev pub HaveSchemas : Kind → Members → Type 0
HaveSchemas k no_members = ⊤
HaveSchemas k (member name v ms) = HasSchemas k v × HaveSchemas k ms

abbrev pub HoldsSchemas : Kind → Json → Type 0
HoldsSchemas k (object ms) = HaveSchemas k ms
HoldsSchemas k v = ⊤

abbrev pub HoldSchemas : Kind → Members → Type 0
HoldSchemas k ms = IfSome (value_under (holder k) ms) (HoldsSchemas k)
