use Rattle.std.proofs.Common.{arith}
use Rattle.tm_parts.proofs.Walks.{element_met, member_met, no_faults_in_elements, no_faults_in_members}
use Rattle.tm_parts.proofs.judging.+judge.Goals as goal

pub judge_items-judge-requires : goal.judge_items-judge-requires
judge_items-judge-requires t c =
    (omega (arith, c.decreases, element_met c.as_slice-list.result.now c.args.items.now c.loop-place.place c.index-list-place.result c.as_slice-list.ensures c.loop-place-test.true c.index-list-place.is), tt)

pub judge_items-returns-clause-ok : goal.judge_items-returns-clause-ok
judge_items-returns-clause-ok t c =
    no_faults_in_elements c.as_slice-list.result.now c.args.items.now c.loop-place.place c.args.values.now c.as_slice-list.ensures c.loop-place-test.false c.loop-place.invariant

pub judge_members-judge-requires : goal.judge_members-judge-requires
judge_members-judge-requires t c =
    (omega (arith, c.decreases, member_met c.as_slice-list.result.now c.args.members.now c.loop-name.name-index c.loop-name-item.result c.as_slice-list.ensures.members c.loop-name-test.true c.loop-name-item.is), tt)

pub judge_members-returns-clause-ok : goal.judge_members-returns-clause-ok
judge_members-returns-clause-ok t c =
    no_faults_in_members c.as_slice-list.result.now c.args.members.now c.loop-name.name-index c.args.values.now c.as_slice-list.ensures.members c.loop-name-test.false c.loop-name.invariant
