-- The demands of compiled rules on a value, and the members of a schema that they were compiled from.
use Rattle.std.specs.Prelude.{◌≡◌, ℕ, pos, ◌⊎◌, List, [], ◌∷◌, IfSome, IsSome, ⊤, codes, map}
use Rattle.std.specs.Option.{option_map}
use Rattle.wot_json.specs.Tree.{Json, null, boolean, integer, string, array, object, Members, elements_of}
use Rattle.wot_json.specs.Meaning.{json_of, json_items}
use Rattle.wot_json.specs.declared.tree.Tree.{Tree}
use Rattle.wot_json.specs.Lookup.{value_under}
use Rattle.wot_schema.specs.Values.{element_count, code_points}
use Rattle.wot_schema.specs.Acceptance.{type_of}
use Rattle.wot_schema.specs.Kinds.{kind_name}
use Rattle.wot_schema.specs.Counts.{IsCountWithin}
use Rattle.wot_schema.specs.Numbers.{AreNumbersOf, IsNumberWithin}
use Rattle.wot_schema.specs.declared.rules.Rules.{Rules}

-- the value is one of these
abbrev pub IsAmong : Json → List Tree → Type 0
IsAmong v [] = ⊥
IsAmong v (t ∷ ts) = (v ≡ json_of t) ⊎ IsAmong v ts

-- each of these names is that of a member
abbrev pub HasAll : Members → List (List ℕ) → Type 0
HasAll ms [] = ⊤
HasAll ms (n ∷ ns) = IsSome (value_under n ms) × HasAll ms ns

-- the demands of the rules on a number, a text, a list and an object
abbrev pub AreContentsAllowed : Rules → Json → Type 0
AreContentsAllowed r (integer n) = IsNumberWithin r.numbers n
AreContentsAllowed r (string t) = IsCountWithin r.characters (code_points t)
AreContentsAllowed r (array es) = IsCountWithin r.items (element_count es)
AreContentsAllowed r (object ms) = IfSome r.required (λ names. HasAll ms names.items)
AreContentsAllowed r null = ⊤
AreContentsAllowed r (boolean b) = ⊤

-- the value meets the rules
pub record IsAllowed (r : Rules) (v : Json) : Type 0 where
  pub type : IfSome r.kind (λ k. kind_name k ≡ type_of v)
  pub constant : IfSome r.constant (λ t. v ≡ json_of t)
  pub choice : IfSome r.choices (λ ts. IsAmong v ts.items)
  pub contents : AreContentsAllowed r v

-- the rules are those that these members give
pub record AreRulesOf (ms : Members) (r : Rules) : Type 0 where
  pub type : value_under (codes "type") ms ≡ option_map (λ k. string (kind_name k)) r.kind
  pub constant : value_under (codes "const") ms ≡ option_map json_of r.constant
  pub choice : value_under (codes "enum") ms ≡ option_map (λ ts. array (elements_of (json_items ts.items))) r.choices
  pub numbers : AreNumbersOf ms r.numbers
  pub min_length : value_under (codes "minLength") ms ≡ option_map (λ n. integer (pos n)) r.characters.least
  pub max_length : value_under (codes "maxLength") ms ≡ option_map (λ n. integer (pos n)) r.characters.most
  pub min_items : value_under (codes "minItems") ms ≡ option_map (λ n. integer (pos n)) r.items.least
  pub max_items : value_under (codes "maxItems") ms ≡ option_map (λ n. integer (pos n)) r.items.most
  pub required : value_under (codes "required") ms ≡ option_map (λ names. array (elements_of (map string names.items))) r.required
