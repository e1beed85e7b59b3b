-- The nodes below a node nest less deep than it, as the kit asks in its `impl Model`. No contract names this.
use Rattle.std.specs.Prelude.{ℕ, ◌+◌, ◌≤◌, List, [], ◌∷◌, ◌++◌, map, Option, Some, None, Vec, codes}
use Rattle.std.specs.declared.alloc.Global.{Global}
use Rattle.std.proofs.Common.{arith}
use Rattle.std.specs.Option.{option_map}
use denote.Param.Weighed.{most}
use Rattle.wot_json.specs.Tree.{Json, most_member_nesting, nesting, elements_nesting, members_nesting, elements_of, members_of}
use Rattle.wot_schema.specs.Nodes.{present_members, node_members, rule_rows, schema_of, list_of, items_of, properties_of}
use Rattle.wot_schema.specs.declared.node.SchemaNode.{SchemaNode}
use Rattle.wot_schema.specs.declared.node.SchemaNode.TheInside.{Inside}
use Rattle.wot_schema.specs.declared.node.ItemRule.{ItemRule}
use Rattle.wot_schema.specs.declared.node.ItemRule.TheVariants as item
use Rattle.wot_schema.specs.declared.node.SchemaNode.TheDeep.{deep-SchemaNode, deep-ItemRule}
use Rattle.wot_schema.specs.declared.node.SchemaNode.TheShapes.{weighed-SchemaNode-alternatives, weighed-SchemaNode-properties, weighed-SchemaNode-properties-at-2}

abbrev value_nesting : Option Json → ℕ
value_nesting None = 0
value_nesting (Some v) = nesting v

row_nests : (name : List ℕ) (o : Option Json) (rows : List (List ℕ × Option Json)) → value_nesting o ≤ most_member_nesting (present_members ((name, o) ∷ rows))
row_nests name None rows = omega arith
row_nests name (Some v) rows = omega arith

further_row_nests : (name : List ℕ) (o : Option Json) (rows : List (List ℕ × Option Json)) → most_member_nesting (present_members rows) ≤ most_member_nesting (present_members ((name, o) ∷ rows))
further_row_nests name None rows = omega arith
further_row_nests name (Some v) rows = omega arith

further_rows_nest : (front rows : List (List ℕ × Option Json)) → most_member_nesting (present_members rows) ≤ most_member_nesting (present_members (front ++ rows))
further_rows_nest [] rows = omega arith
further_rows_nest (row ∷ front) rows = omega (arith, further_rows_nest front rows, further_row_nests row.0 row.1 (front ++ rows))

most_node_le : (nodes : List SchemaNode) → most (λ n. most_member_nesting n + 1) nodes ≤ elements_nesting (elements_of (map schema_of nodes))
most_node_le [] = omega arith
most_node_le (n ∷ nodes) = omega (arith, most_node_le nodes)

alternatives_le : (o : Option (Vec SchemaNode Global)) → weighed-SchemaNode-alternatives.weight SchemaNode (λ n. most_member_nesting n + 1) o ≤ value_nesting (option_map (λ nodes. list_of nodes.items) o)
alternatives_le None = omega arith
alternatives_le (Some nodes) = omega (arith, most_node_le nodes.items)

items_le : (i : ItemRule) → deep-ItemRule i ≤ nesting (items_of i)
items_le (item.Each node) = omega arith
items_le (item.InOrder nodes) = omega (arith, most_node_le nodes.items)

most_property_le : (ps : List (List ℕ × SchemaNode)) → most (λ p. weighed-SchemaNode-properties-at-2.weight SchemaNode (λ n. most_member_nesting n + 1) p) ps ≤ members_nesting (members_of (map (λ p. (p.0, schema_of p.1)) ps))
most_property_le [] = omega arith
most_property_le (p ∷ ps) = omega (arith, most_property_le ps)

properties_le : (ps : Vec (List ℕ × SchemaNode) Global) → weighed-SchemaNode-properties.weight SchemaNode (λ n. most_member_nesting n + 1) ps ≤ nesting (properties_of ps.items)
properties_le ps = omega (arith, most_property_le ps.items)

pub node_le : (a : Inside) → deep-SchemaNode a ≤ most_member_nesting (node_members a)
node_le a =
    let below : List (List ℕ × Option Json) =
    (codes "oneOf", option_map (λ nodes. list_of nodes.items) a.alternatives) ∷ (codes "items", Some (items_of a.items)) ∷ (codes "properties", Some (properties_of a.properties.items)) ∷ [] in
    omega (
      arith,
      alternatives_le a.alternatives,
      items_le a.items,
      properties_le a.properties,
      further_rows_nest (rule_rows a.rules []) below,
      row_nests (codes "oneOf") (option_map (λ nodes. list_of nodes.items) a.alternatives) ((codes "items", Some (items_of a.items)) ∷ (codes "properties", Some (properties_of a.properties.items)) ∷ []),
      further_row_nests (codes "oneOf") (option_map (λ nodes. list_of nodes.items) a.alternatives) ((codes "items", Some (items_of a.items)) ∷ (codes "properties", Some (properties_of a.properties.items)) ∷ []),
    )

pub items_nest : (a : Inside) → nesting (items_of a.items) ≤ most_member_nesting (node_members a)
items_nest a =
    let behind : List (List ℕ × Option Json) = (codes "properties", Some (properties_of a.properties.items)) ∷ [] in
    let below : List (List ℕ × Option Json) = (codes "oneOf", option_map (λ nodes. list_of nodes.items) a.alternatives) ∷ (codes "items", Some (items_of a.items)) ∷ behind in
    omega (
      arith,
      further_rows_nest (rule_rows a.rules []) below,
      further_row_nests (codes "oneOf") (option_map (λ nodes. list_of nodes.items) a.alternatives) ((codes "items", Some (items_of a.items)) ∷ behind),
      row_nests (codes "items") (Some (items_of a.items)) behind,
    )
