use Rattle.std.proofs.Common.{arith}
use Rattle.tm_parts.proofs.Walks.{element_met, member_met}
use Rattle.tm_parts.proofs.holes.+first_hole.Goals as goal

pub first_hole_of_items-first_hole-requires : goal.first_hole_of_items-first_hole-requires
first_hole_of_items-first_hole-requires t c =
    (omega (arith, c.decreases, element_met c.as_slice-list.result.now c.args.items.now c.loop-place.place c.index-list-place.result c.as_slice-list.ensures c.loop-place-test.true c.index-list-place.is), tt)

pub first_hole_of_members-first_hole-requires : goal.first_hole_of_members-first_hole-requires
first_hole_of_members-first_hole-requires t c =
    (omega (arith, c.decreases, member_met c.as_slice-list.result.now c.args.members.now c.loop-name.name-index c.loop-name-item.result c.as_slice-list.ensures.members c.loop-name-test.true c.loop-name-item.is), tt)
