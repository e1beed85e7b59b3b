use Rattle.std.proofs.Common.{◌≡◌, ◌+◌, ◌*◌, drop}
use Rattle.wot_json.specs.Tree.{nesting, most_nesting, most_member_nesting, elements_of, members_of}
use Rattle.wot_json.specs.Meaning.{json_of, json_items, json_members}
use Rattle.tm_parts.specs.Substitution.{element_faults, member_faults}
use Rattle.tm_parts.proofs.judging.+judge.Given as goal

-- an element nests no deeper than its list, and a list that is handed on as a whole less than the value that it is
abbrev pub decreases-judge : goal.decreases-judge
decreases-judge l = 2 * nesting (json_of l.tree.now)

abbrev pub decreases-judge_items : goal.decreases-judge_items
decreases-judge_items l = 2 * most_nesting l.items.now + 1

abbrev pub decreases-judge_members : goal.decreases-judge_members
decreases-judge_members l = 2 * most_member_nesting l.members.now + 1

abbrev pub invariant-judge_items-loop-place : goal.invariant-judge_items-loop-place
invariant-judge_items-loop-place l =
    element_faults l.place (elements_of (json_items (drop l.place l.list))) l.values ≡ element_faults 0 (elements_of (json_items l.list)) l.values

abbrev pub invariant-judge_members-loop-name : goal.invariant-judge_members-loop-name
invariant-judge_members-loop-name l =
    member_faults (members_of (json_members (drop l.name-index l.list))) l.values ≡ member_faults (members_of (json_members l.list)) l.values
