use Rattle.std.proofs.Common.{arith, ◌∙◌}
use Rattle.wot_json.specs.Meaning.{json_of}
use Rattle.tm_parts.proofs.Walks.{element_met, member_met, elements_done, members_done, next_in_order}
use Rattle.tm_parts.proofs.building.+built.Goals as goal

pub built_items-built-requires : goal.built_items-built-requires
built_items-built-requires t c =
    (omega (arith, c.decreases, element_met c.as_slice-list.result.now c.args.items.now c.loop-item.item-index c.item-item.result c.as_slice-list.ensures c.loop-item-test.true c.item-item.is), tt)

pub built_items-returns : goal.built_items-returns
built_items-returns t c =
    elements_done c.loop-item.built_list c.as_slice-list.result.now c.args.items.now c.loop-item.item-index c.args.values.now c.as_slice-list.ensures c.loop-item-test.false c.loop-item.invariant

pub built_members-built-requires : goal.built_members-built-requires
built_members-built-requires t c =
    (omega (arith, c.decreases, member_met c.as_slice-list.result.now c.args.members.now c.loop-name.name-index c.loop-name-item.result c.as_slice-list.ensures.members c.loop-name-test.true c.loop-name-item.is), tt)

pub built_members-push-requires : goal.built_members-push-requires
built_members-push-requires t c =
    next_in_order c.loop-name.built_list c.as_slice-list.result.now c.args.members.now c.loop-name.name-index c.loop-name-item.result c.in_ok-copy_of.field-0 (json_of c.in_ok-value.value) c.args.values.now
    c.as_slice-list.ensures.members c.as_slice-list.ensures.ordered c.loop-name-test.true c.loop-name-item.is (c.in_ok-copy_of.ensures ∙ c.as_str.ensures) c.in_ok-value.ensures c.loop-name.invariant

pub built_members-returns : goal.built_members-returns
built_members-returns t c =
    members_done c.loop-name.built_list c.as_slice-list.result.now c.args.members.now c.loop-name.name-index c.args.values.now c.as_slice-list.ensures.members c.loop-name-test.false c.loop-name.invariant
