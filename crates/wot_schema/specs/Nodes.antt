-- The schema of a compiled node: the members that would give its rules.
use Rattle.std.specs.Prelude.{ℕ, pos, List, [], ◌∷◌, Option, Some, None, codes, map}
use Rattle.std.specs.Option.{option_map}
use Rattle.wot_json.specs.Tree.{Json, string, integer, array, object, elements_of, members_of}
use Rattle.wot_json.specs.Meaning.{json_of, json_items}
use Rattle.wot_schema.specs.Kinds.{kind_name}
use Rattle.wot_schema.specs.declared.rules.Rules.{Rules}
use Rattle.wot_schema.specs.declared.node.SchemaNode.TheInside.{Inside}
use Rattle.wot_schema.specs.declared.node.ItemRule.{ItemRule}
use Rattle.wot_schema.specs.declared.node.ItemRule.TheVariants as item

-- these members, and before them one of this name if there is a value
abbrev pub with_member : List ℕ → Option Json → List (List ℕ × Json) → List (List ℕ × Json)
with_member name None ms = ms
with_member name (Some v) ms = (name, v) ∷ ms

-- the members that are there
abbrev pub present_members : List (List ℕ × Option Json) → List (List ℕ × Json)
present_members [] = []
present_members (row ∷ rows) = with_member row.0 row.1 (present_members rows)

-- the schema of a node, of which clauses see the members
abbrev pub schema_of : List (List ℕ × Json) → Json
schema_of ms = object (members_of ms)

abbrev pub list_of : List (List (List ℕ × Json)) → Json
list_of nodes = array (elements_of (map schema_of nodes))

abbrev pub items_of : ItemRule → Json
items_of (item.Each node) = schema_of node.value
items_of (item.InOrder nodes) = list_of nodes.items

-- the schemas of named nodes
abbrev pub schemas_of : List (List ℕ × List (List ℕ × Json)) → List (List ℕ × Json)
schemas_of = map (λ p. (p.0, schema_of p.1))

abbrev pub properties_of : List (List ℕ × List (List ℕ × Json)) → Json
properties_of ps = object (members_of (schemas_of ps))

-- the members for the rows that hold no schemas
abbrev pub rule_rows : Rules → List (List ℕ × Option Json) → List (List ℕ × Option Json)
rule_rows r rows =
    (codes "type", option_map (λ k. string (kind_name k)) r.kind) ∷
    (codes "const", option_map json_of r.constant) ∷
    (codes "enum", option_map (λ ts. array (elements_of (json_items ts.items))) r.choices) ∷
    (codes "minimum", option_map integer r.numbers.minimum) ∷
    (codes "maximum", option_map integer r.numbers.maximum) ∷
    (codes "exclusiveMinimum", option_map integer r.numbers.exclusive_minimum) ∷
    (codes "exclusiveMaximum", option_map integer r.numbers.exclusive_maximum) ∷
    (codes "multipleOf", option_map (λ n. integer (pos n)) r.numbers.multiple_of) ∷
    (codes "minLength", option_map (λ n. integer (pos n)) r.characters.least) ∷
    (codes "maxLength", option_map (λ n. integer (pos n)) r.characters.most) ∷
    (codes "minItems", option_map (λ n. integer (pos n)) r.items.least) ∷
    (codes "maxItems", option_map (λ n. integer (pos n)) r.items.most) ∷
    (codes "required", option_map (λ names. array (elements_of (map string names.items))) r.required) ∷
    rows

-- the members for a node's rules and for the schemas below it
abbrev pub node_rows : Inside → List (List ℕ × Option Json)
node_rows a =
    rule_rows a.rules (
    (codes "oneOf", option_map (λ nodes. list_of nodes.items) a.alternatives) ∷
    (codes "items", Some (items_of a.items)) ∷
    (codes "properties", Some (properties_of a.properties.items)) ∷
    [])

abbrev pub node_members : Inside → List (List ℕ × Json)
node_members a = present_members (node_rows a)
