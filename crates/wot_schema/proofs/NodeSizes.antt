-- The sizes of nodes fall, by which the check sees that a recursion over them ends.
use Rattle.std.proofs.Common.{◌≡◌, ◌≤◌, ◌+◌, ◌*◌, List, [], ◌∷◌, map, ap, arith}
use Rattle.std.specs.Prelude.{Vec}
use Rattle.std.specs.declared.alloc.Global.{Global}
use denote.Param.Weighed.{most}
use Rattle.wot_json.specs.Tree.{nesting, elements_nesting, most_member_nesting, elements_of}
use Rattle.wot_schema.specs.Nodes.{node_members, schema_of, items_of}
use Rattle.wot_schema.specs.NodeFalls.{items_nest}
use Rattle.wot_schema.specs.declared.node.SchemaNode.{SchemaNode}
use Rattle.wot_schema.specs.declared.node.SchemaNode.TheInside.{Inside}
use Rattle.wot_schema.specs.declared.node.SchemaNode.TheDeep.{size-SchemaNode}
use Rattle.wot_schema.specs.declared.node.ItemRule.TheVariants as item

most_size_le : (nodes : List SchemaNode) → most (λ x. size-SchemaNode x) nodes ≤ 2 * elements_nesting (elements_of (map schema_of nodes))
most_size_le [] = omega arith
most_size_le (n ∷ nodes) = omega (arith, most_size_le nodes)

-- the schemas of a list are smaller than the node that they belong to
pub in_order_below : (a : Inside) (n : SchemaNode) (nodes : Vec SchemaNode Global) → node_members a ≡ n → a.items ≡ item.InOrder nodes → 3 * most (λ x. size-SchemaNode x) nodes.items + 6 ≤ 3 * size-SchemaNode n
in_order_below a n nodes is rule =
    omega (arith, most_size_le nodes.items, items_nest a, ap (λ i. nesting (items_of i)) rule, ap most_member_nesting is)
