-- The schemas of the affordances of a valid description have no fault.
use Rattle.std.proofs.Common.{Bor, option_map, subst, sym}
use Rattle.wot_json.specs.declared.tree.Tree.{Tree}
use Rattle.wot_json.specs.Meaning.{json_of}
use Rattle.std.proofs.Common.{◌≡◌, ℕ, List, Option, Some, None, IfSome, codes, Bool, true, false, if◌then◌else◌}
use Rattle.std.specs.Prelude.{option_and_then}
use Rattle.std.specs.Str.{bytes_eq}
use Rattle.wot_json.specs.Tree.{Json, null, boolean, integer, string, array, object, Members, no_members, member}
use Rattle.wot_json.specs.Lookup.{value_under}
use Rattle.wot_terms.specs.declared.kind.Kind.{Kind}
use Rattle.wot_terms.specs.declared.kind.Kind.TheVariants as kind
use Rattle.wot_terms.specs.Faults.{IsValid, holder}
use Rattle.wot_terms.specs.Affordances.{part}
use Rattle.wot_terms.specs.Schemas.{IsSchema, HasSchemas, HaveSchemas, HoldsSchemas}
use Rattle.wot_terms.proofs.ValidParts.{valid_schemas}
use Rattle.wot_consumer.specs.Judgement.{affordance_named, property_schema, input_schema, output_schema}

among : (k : Kind) (name : List ℕ) (ms : Members) → HaveSchemas k ms → IfSome (value_under name ms) (HasSchemas k)
among k name no_members have = tt
among k name (member n v ms) have = either (bytes_eq name n) (Some v) (value_under name ms) have.0 (among k name ms have.1)
  where
    either : (b : Bool) (o u : Option Json) → IfSome o (HasSchemas k) → IfSome u (HasSchemas k) → IfSome (if b then o else u) (HasSchemas k)
    either true o u one other = one
    either false o u one other = other

within_held : (k : Kind) (name : List ℕ) (held : Json) → HoldsSchemas k held → IfSome (part name held) (HasSchemas k)
within_held k name null holds = tt
within_held k name (boolean b) holds = tt
within_held k name (integer n) holds = tt
within_held k name (string s) holds = tt
within_held k name (array es) holds = tt
within_held k name (object ms) holds = among k name ms holds

within_found : (k : Kind) (name : List ℕ) (o : Option Json) → IfSome o (HoldsSchemas k) → IfSome (option_and_then (part name) o) (HasSchemas k)
within_found k name None holds = tt
within_found k name (Some held) holds = within_held k name held holds

named : (k : Kind) (name : List ℕ) (t : Json) → IsValid t → IfSome (affordance_named k name t) (HasSchemas k)
named k name null valid = tt
named k name (boolean b) valid = tt
named k name (integer n) valid = tt
named k name (string s) valid = tt
named k name (array es) valid = tt
named k name (object ms) valid = within_found k name (value_under (holder k) ms) (valid_schemas ms k valid)

of_property : (o : Option Json) → IfSome o (HasSchemas kind.Property) → IfSome o IsSchema
of_property None has = tt
of_property (Some v) has = has.0

of_input : (o : Option Json) → IfSome o (HasSchemas kind.Action) → IfSome (option_and_then (part (codes "input")) o) IsSchema
of_input None has = tt
of_input (Some v) has = has.0

of_output : (o : Option Json) → IfSome o (HasSchemas kind.Action) → IfSome (option_and_then (part (codes "output")) o) IsSchema
of_output None has = tt
of_output (Some v) has = has.1

pub valid_property : (t : Json) (name : List ℕ) → IsValid t → IfSome (property_schema t name) IsSchema
valid_property t name valid = of_property (affordance_named kind.Property name t) (named kind.Property name t valid)

pub valid_input : (t : Json) (name : List ℕ) → IsValid t → IfSome (input_schema t name) IsSchema
valid_input t name valid = of_input (affordance_named kind.Action name t) (named kind.Action name t valid)

pub valid_output : (t : Json) (name : List ℕ) → IsValid t → IfSome (output_schema t name) IsSchema
valid_output t name valid = of_output (affordance_named kind.Action name t) (named kind.Action name t valid)

-- a property of a value is one of the tree that it is read from
pub seen_so : (P : Json → Type 0) (found : Option (Bor Tree)) (o : Option Json) → option_map (λ t. json_of t.now) found ≡ o → IfSome o P → IfSome found (λ t. P (json_of t.now))
seen_so P None o is holds = tt
seen_so P (Some t) o is holds = subst (λ u. IfSome u P) (sym is) holds
