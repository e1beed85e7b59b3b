use Rattle.std.proofs.Common.{◌↔◌, ℕ, List, IfSome, map, codes, sym, ap, subst, ◌∙◌, arith}
use Rattle.wot_json.specs.Tree.{object, nesting, members_of}
use Rattle.wot_json.specs.Meaning.{json_of}
use Rattle.wot_json.specs.declared.tree.Tree.{Tree}
use Rattle.wot_json.proofs.Nesting.{element_nests, member_nests}
use Rattle.wot_schema.specs.declared.node.SchemaNode.{SchemaNode}
use Rattle.wot_schema.specs.Acceptance.{one_of, items, properties, Asks, Within}
use Rattle.wot_schema.specs.Nodes.{schema_of, list_of, items_of, properties_of}
use Rattle.wot_schema.proofs.CompilingSteps.{found_nests, absent_asks, there_asks, there_none, faultless, one_alike, items_each_alike, items_list_alike, free_list_absent, free_named_absent, compiled_alike, named_ok, list_more, named_list_more, list_none, named_none}
use Rattle.wot_schema.proofs.compilation.+compilation.Goals as goal

pub compile_alternatives-alternatives_in-requires : goal.compile_alternatives-alternatives_in-requires
compile_alternatives-alternatives_in-requires t c =
    let there = rw c.in-Some.is at c.value_under.ensures in
    (omega (arith, found_nests (codes "oneOf") (members_of c.args.members.now) (json_of c.in-Some.tree.now) there), (there_none one_of (members_of c.args.members.now) (json_of c.in-Some.tree.now) there c.requires))

pub compile_alternatives-returns-in-None : goal.compile_alternatives-returns-in-None
compile_alternatives-returns-in-None t c = λ v. (λ h. absent_asks one_of (members_of c.args.members.now) (rw c.in-None.is at c.value_under.ensures) v, λ h. tt)

pub compile_alternatives-returns-in-Some : goal.compile_alternatives-returns-in-Some
compile_alternatives-returns-in-Some t c =
    there_asks c.alternatives_in.result (λ o v. IfSome o (λ nodes. Asks one_of (list_of nodes.items) v)) one_of (members_of c.args.members.now) (json_of c.in-Some.tree.now) (rw c.in-Some.is at c.value_under.ensures) c.alternatives_in.ensures

pub compile_items-item_rule_in-requires : goal.compile_items-item_rule_in-requires
compile_items-item_rule_in-requires t c =
    let there = rw c.in-Some.is at c.value_under.ensures in
    (omega (arith, found_nests (codes "items") (members_of c.args.members.now) (json_of c.in-Some.tree.now) there), (there_none items (members_of c.args.members.now) (json_of c.in-Some.tree.now) there c.requires))

pub compile_items-returns-in-None : goal.compile_items-returns-in-None
compile_items-returns-in-None t c = λ v. subst (λ (ns : List SchemaNode). Asks items (list_of ns) v ↔ Within items (members_of c.args.members.now) v) (sym c.new.ensures.items) (free_list_absent (members_of c.args.members.now) (rw c.in-None.is at c.value_under.ensures) v)

pub compile_items-returns-in-Some : goal.compile_items-returns-in-Some
compile_items-returns-in-Some t c =
    there_asks c.item_rule_in.result (λ rule v. Asks items (items_of rule) v) items (members_of c.args.members.now) (json_of c.in-Some.tree.now) (rw c.in-Some.is at c.value_under.ensures) c.item_rule_in.ensures

pub compile_properties-properties_in-requires : goal.compile_properties-properties_in-requires
compile_properties-properties_in-requires t c =
    let there = rw c.in-Some.is at c.value_under.ensures in
    (omega (arith, found_nests (codes "properties") (members_of c.args.members.now) (json_of c.in-Some.tree.now) there), (there_none properties (members_of c.args.members.now) (json_of c.in-Some.tree.now) there c.requires))

pub compile_properties-returns-in-None : goal.compile_properties-returns-in-None
compile_properties-returns-in-None t c = λ v. subst (λ (ns : List (List ℕ × SchemaNode)). Asks properties (properties_of ns) v ↔ Within properties (members_of c.args.members.now) v) (sym c.new.ensures.items) (free_named_absent (members_of c.args.members.now) (rw c.in-None.is at c.value_under.ensures) v)

pub compile_properties-returns-in-Some : goal.compile_properties-returns-in-Some
compile_properties-returns-in-Some t c =
    there_asks c.properties_in.result (λ named v. Asks properties (properties_of named.items) v) properties (members_of c.args.members.now) (json_of c.in-Some.tree.now) (rw c.in-Some.is at c.value_under.ensures) c.properties_in.ensures

pub alternatives_in-returns-in_ok-compile_list-in-List : goal.alternatives_in-returns-in_ok-compile_list-in-List
alternatives_in-returns-in_ok-compile_list-in-List t c =
    λ v. rw c.in-List.is (one_alike (map schema_of c.in_ok-compile_list-in-List.field-0.items) c.in-List.schemas v (rw c.as_slice.ensures at c.in_ok-compile_list-in-List.ensures))

pub item_rule_in-returns-in_ok-boxed-in-Obj : goal.item_rule_in-returns-in_ok-boxed-in-Obj
item_rule_in-returns-in_ok-boxed-in-Obj t c =
    λ v. rw c.in-Obj.is
    (subst (λ (n : SchemaNode). Asks items (schema_of n) v ↔ Asks items (object (members_of c.in-Obj.schema)) v) (sym c.in_ok-boxed-in-Obj.ensures)
    (items_each_alike c.in_ok-node-in-Obj.node (members_of c.in-Obj.schema) c.in_ok-node-in-Obj.ensures v))

pub item_rule_in-returns-in_ok-nodes-in-List : goal.item_rule_in-returns-in_ok-nodes-in-List
item_rule_in-returns-in_ok-nodes-in-List t c =
    λ v. rw c.in-List.is (items_list_alike (map schema_of c.in_ok-nodes-in-List.nodes.items) c.in-List.schemas (rw c.as_slice.ensures at c.in_ok-nodes-in-List.ensures) v)

pub properties_in-returns-in-Obj : goal.properties_in-returns-in-Obj
properties_in-returns-in-Obj t c =
    rw c.in-Obj.is (named_ok c.compile_named.result c.in-Obj.schemas (rw c.as_slice.ensures.members at c.compile_named.ensures))

pub compile_list-compile-requires : goal.compile_list-compile-requires
compile_list-compile-requires t c =
    let l = c.loop-schema in (
      omega (arith, element_nests c.args.schemas.now l.schema-index c.schema-item.result c.loop-schema-test.true, ap (λ (u : Tree). nesting (json_of u)) c.schema-item.is),
      (list_none c.args.schemas.now l.schema-index c.schema-item.result c.loop-schema-test.true c.schema-item.is l.invariant.none).0,
    )

pub compile_list-loop-schema-preserved : goal.compile_list-loop-schema-preserved
compile_list-loop-schema-preserved t c =
    let l = c.loop-schema in
    record {
      nodes = list_more l.nodes.items c.push_node.new.nodes.items c.in_ok-node.node c.args.schemas.now l.schema-index c.schema-item.result
          c.loop-schema-test.true c.schema-item.is l.invariant.nodes c.in_ok-node.ensures c.in_ok-push_node.ensures;
      none = (list_none c.args.schemas.now l.schema-index c.schema-item.result c.loop-schema-test.true c.schema-item.is l.invariant.none).1;
    }

pub compile_named-compile-requires : goal.compile_named-compile-requires
compile_named-compile-requires t c =
    let l = c.loop-name in (
      omega (arith, member_nests c.args.schemas.now l.name-index c.loop-name-item.result c.loop-name-test.true, ap (λ (u : List ℕ × Tree). nesting (json_of u.1)) c.loop-name-item.is),
      (named_none c.args.schemas.now l.name-index c.loop-name-item.result c.loop-name-test.true c.loop-name-item.is l.invariant.none).0,
    )

pub compile_named-loop-name-preserved : goal.compile_named-loop-name-preserved
compile_named-loop-name-preserved t c =
    let l = c.loop-name in
    record {
      nodes = named_list_more l.named.items c.push_named.new.nodes.items (c.in_ok-name.name, c.in_ok-node.node) c.args.schemas.now l.name-index c.loop-name-item.result
          c.loop-name-test.true c.loop-name-item.is l.invariant.nodes (c.in_ok-name.ensures ∙ c.as_str.ensures) c.in_ok-node.ensures c.in_ok-push_named.ensures;
      none = (named_none c.args.schemas.now l.name-index c.loop-name-item.result c.loop-name-test.true c.loop-name-item.is l.invariant.none).1;
    }

pub compile_members-read-requires : goal.compile_members-read-requires
compile_members-read-requires t c = (faultless (members_of c.args.members.now) c.requires).rows

pub compile_members-compile_alternatives-requires : goal.compile_members-compile_alternatives-requires
compile_members-compile_alternatives-requires t c = (omega arith, (faultless (members_of c.args.members.now) c.requires).alternatives)

pub compile_members-compile_items-requires : goal.compile_members-compile_items-requires
compile_members-compile_items-requires t c = (omega arith, (faultless (members_of c.args.members.now) c.requires).elements)

pub compile_members-compile_properties-requires : goal.compile_members-compile_properties-requires
compile_members-compile_properties-requires t c = (omega arith, (faultless (members_of c.args.members.now) c.requires).members)

pub compile_members-returns : goal.compile_members-returns
compile_members-returns t c =
    compiled_alike
    (record { rules = c.in_ok-rules.rules; alternatives = c.in_ok-alternatives.alternatives; items = c.in_ok-items.items; properties = c.in_ok-properties.properties })
    (members_of c.args.members.now) c.in_ok-rules.ensures c.in_ok-alternatives.ensures c.in_ok-items.ensures c.in_ok-properties.ensures
