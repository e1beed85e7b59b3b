use Rattle.std.proofs.Common.{◌↔◌, MatchBool, map, drop}
use Rattle.wot_json.specs.Tree.{elements_of, members_of}
use Rattle.wot_json.specs.Meaning.{json_of, json_items}
use Rattle.wot_schema.specs.Values.{EachElement}
use Rattle.wot_schema.specs.Acceptance.{Accepts, ExactlyOne, AcceptNone, InOrder, AcceptMembers}
use Rattle.wot_schema.specs.Nodes.{schema_of, schemas_of}
use Rattle.wot_schema.proofs.acceptance.+acceptance.Given as goal

abbrev pub invariant-accept_in_order-loop-place : goal.invariant-accept_in_order-loop-place
invariant-accept_in_order-loop-place l =
    InOrder (elements_of (map schema_of l.nodes)) (elements_of (json_items l.items))
    ↔ InOrder (elements_of (map schema_of (drop l.place l.nodes))) (elements_of (json_items (drop l.place l.items)))

abbrev pub invariant-accepts_each-loop-item : goal.invariant-accepts_each-loop-item
invariant-accepts_each-loop-item l =
    EachElement (Accepts (schema_of l.node)) (elements_of (json_items l.items))
    ↔ EachElement (Accepts (schema_of l.node)) (elements_of (json_items (drop l.item-index l.items)))

abbrev pub invariant-exactly_one_accepts-loop-node : goal.invariant-exactly_one_accepts-loop-node
invariant-exactly_one_accepts-loop-node l =
    ExactlyOne (elements_of (map schema_of l.nodes)) (json_of l.value)
    ↔ MatchBool l.accepted
    (AcceptNone (elements_of (map schema_of (drop l.node-index l.nodes))) (json_of l.value))
    (ExactlyOne (elements_of (map schema_of (drop l.node-index l.nodes))) (json_of l.value))

abbrev pub invariant-members_are_accepted-loop-name : goal.invariant-members_are_accepted-loop-name
invariant-members_are_accepted-loop-name l =
    AcceptMembers (members_of (schemas_of l.properties)) (members_of l.members)
    ↔ AcceptMembers (members_of (schemas_of (drop l.name-index l.properties))) (members_of l.members)
