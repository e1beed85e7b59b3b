use Rattle.std.proofs.Common.{ap, arith}
use Rattle.wot_json.specs.Tree.{elements_of, members_of}
use Rattle.wot_json.specs.Meaning.{json_of}
use Rattle.wot_schema.specs.Acceptance.{Accepts}
use Rattle.wot_schema.specs.Nodes.{schema_of, items_of}
use Rattle.wot_schema.proofs.NodeSizes.{in_order_below}
use Rattle.wot_schema.proofs.Steps.{one_found, one_passed, each_passed}
use Rattle.wot_schema.proofs.AcceptingSteps.{not_both, refused_by_rules, without_alternatives, refused_by_alternatives, with_alternatives, no_array, no_object, no_contents, contents_each, contents_in_order, contents_members}
use Rattle.wot_schema.proofs.acceptance.+acceptance.Goals as goal
use Rattle.wot_schema.proofs.acceptance.+acceptance.Goals.{exactly_one_accepts-then-accepts+else-accepted, exactly_one_accepts-else-accepts}

pub accepts-returns-then-not-accept : goal.accepts-returns-then-not-accept
accepts-returns-then-not-accept t c =
    refused_by_rules c.node.inside c.args.node.now (json_of c.args.value.now) c.accept.result c.node.view_is c.accept.ensures c.if-not-accept.true

pub accepts-returns-in-None : goal.accepts-returns-in-None
accepts-returns-in-None t c =
    without_alternatives c.node.inside c.args.node.now (json_of c.args.value.now) c.accept.result c.contents_are_accepted.result
    c.node.view_is c.accept.ensures c.if-not-accept.false c.in-None.is c.contents_are_accepted.ensures

pub accepts-returns-then-exactly_one_accepts : goal.accepts-returns-then-exactly_one_accepts
accepts-returns-then-exactly_one_accepts t c =
    with_alternatives c.node.inside c.args.node.now (json_of c.args.value.now) c.in-Some.nodes c.accept.result c.exactly_one_accepts.result c.contents_are_accepted-then-exactly_one_accepts.result
    c.node.view_is c.accept.ensures c.if-not-accept.false c.in-Some.is (rw c.deref.ensures.value at c.exactly_one_accepts.ensures) c.if-exactly_one_accepts.true c.contents_are_accepted-then-exactly_one_accepts.ensures

pub accepts-returns-else-exactly_one_accepts : goal.accepts-returns-else-exactly_one_accepts
accepts-returns-else-exactly_one_accepts t c =
    refused_by_alternatives c.node.inside c.args.node.now (json_of c.args.value.now) c.in-Some.nodes c.exactly_one_accepts.result
    c.node.view_is c.in-Some.is (rw c.deref.ensures.value at c.exactly_one_accepts.ensures) c.if-exactly_one_accepts.false

pub contents_are_accepted-accept_in_order-requires : goal.contents_are_accepted-accept_in_order-requires
contents_are_accepted-accept_in_order-requires t c =
    (rw c.deref-in-InOrder.ensures.value (omega (arith, in_order_below c.node.inside c.args.node.now c.in-InOrder.nodes c.node.view_is c.in-InOrder.is, c.decreases)), tt)

pub contents_are_accepted-returns-in-Each : goal.contents_are_accepted-returns-in-Each
contents_are_accepted-returns-in-Each t c =
    rw c.in-List.is
    (contents_each c.node.inside c.args.node.now c.in-Each.each.value (elements_of c.in-List.items) c.accepts_each.result c.node.view_is (ap items_of c.in-Each.is)
    (rw (c.deref.ensures, c.as_slice.ensures) at c.accepts_each.ensures))

pub contents_are_accepted-returns-in-InOrder : goal.contents_are_accepted-returns-in-InOrder
contents_are_accepted-returns-in-InOrder t c =
    rw c.in-List.is
    (contents_in_order c.node.inside c.args.node.now c.in-InOrder.nodes.items (elements_of c.in-List.items) c.accept_in_order.result c.node.view_is (ap items_of c.in-InOrder.is)
    (rw (c.deref-in-InOrder.ensures.value, c.as_slice-in-InOrder.ensures) at c.accept_in_order.ensures))

pub contents_are_accepted-returns-in-Obj : goal.contents_are_accepted-returns-in-Obj
contents_are_accepted-returns-in-Obj t c =
    rw c.in-Obj.is
    (contents_members c.node.inside c.args.node.now (members_of c.in-Obj.members) c.members_are_accepted.result c.node.view_is (rw c.deref-in-Obj.ensures.value at c.members_are_accepted.ensures))

pub contents_are_accepted-returns-in_default : goal.contents_are_accepted-returns-in_default
contents_are_accepted-returns-in_default t c =
    no_contents c.node.inside c.args.node.now (json_of c.args.value.now) c.node.view_is (no_array c.args.value.now c.in_default.not-List) (no_object c.args.value.now c.in_default.not-Obj)

pub exactly_one_accepts-loop-node-preserved : goal.exactly_one_accepts-loop-node-preserved
exactly_one_accepts-loop-node-preserved t c =
    elim c.if-accepts.branch [
      | exactly_one_accepts-then-accepts+else-accepted w ↦
          rw w.accepted-is (one_found c.args.nodes.now c.loop-node.node-index c.node-item.result (json_of c.args.value.now) c.loop-node.accepted c.loop-node-test.true c.node-item.is w.if-accepted.false (c.accepts.ensures.0 w.if-accepts.true) c.loop-node.invariant)
      | exactly_one_accepts-else-accepts w ↦
          rw w.accepted-is (one_passed c.args.nodes.now c.loop-node.node-index c.node-item.result (json_of c.args.value.now) c.loop-node.accepted c.loop-node-test.true c.node-item.is (λ accepted. not_both c.accepts.result w.if-accepts.false (c.accepts.ensures.1 accepted)) c.loop-node.invariant)
    ]

pub accepts_each-loop-item-preserved : goal.accepts_each-loop-item-preserved
accepts_each-loop-item-preserved t c =
    each_passed (Accepts (schema_of c.args.node.now)) c.args.items.now c.loop-item.item-index c.item-item.result c.loop-item-test.true c.item-item.is
    (c.accepts.ensures.0 c.if-not-accepts.false) c.loop-item.invariant
