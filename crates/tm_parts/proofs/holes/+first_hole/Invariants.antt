use Rattle.std.proofs.Common.{◌≡◌, ◌+◌, ◌*◌, drop}
use Rattle.wot_json.specs.Tree.{nesting, most_nesting, most_member_nesting, elements_of, members_of}
use Rattle.wot_json.specs.Meaning.{json_of, json_items, json_members}
use Rattle.tm_parts.specs.Holes.{element_holes, member_holes}
use Rattle.tm_parts.proofs.holes.+first_hole.Given as goal

-- an element nests no deeper than its list, and a list that is handed on as a whole less than the value that it is
abbrev pub decreases-first_hole : goal.decreases-first_hole
decreases-first_hole l = 2 * nesting (json_of l.tree.now)

abbrev pub decreases-first_hole_of_items : goal.decreases-first_hole_of_items
decreases-first_hole_of_items l = 2 * most_nesting l.items.now + 1

abbrev pub decreases-first_hole_of_members : goal.decreases-first_hole_of_members
decreases-first_hole_of_members l = 2 * most_member_nesting l.members.now + 1

abbrev pub invariant-first_hole_of_items-loop-place : goal.invariant-first_hole_of_items-loop-place
invariant-first_hole_of_items-loop-place l =
    element_holes l.place (elements_of (json_items (drop l.place l.list))) ≡ element_holes 0 (elements_of (json_items l.list))

abbrev pub invariant-first_hole_of_members-loop-name : goal.invariant-first_hole_of_members-loop-name
invariant-first_hole_of_members-loop-name l =
    member_holes (members_of (json_members (drop l.name-index l.list))) ≡ member_holes (members_of (json_members l.list))
