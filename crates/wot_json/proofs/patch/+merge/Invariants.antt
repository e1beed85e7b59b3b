use Rattle.std.proofs.Common.{◌≡◌, ◌++◌, ◌+◌, ◌*◌, drop}
use Rattle.wot_json.specs.Tree.{nesting, most_member_nesting, members_of, AreOrdered}
use Rattle.wot_json.specs.Meaning.{json_of, json_members}
use Rattle.wot_json.specs.Merge.{merged_members}
use Rattle.wot_json.proofs.patch.+merge.Given as goal

abbrev pub decreases-merge_patch : goal.decreases-merge_patch
decreases-merge_patch l = 3 * nesting (json_of l.patch.now)

abbrev pub decreases-merge_members : goal.decreases-merge_members
decreases-merge_members l = 3 * most_member_nesting l.changes.now + 2

abbrev pub decreases-push_change : goal.decreases-push_change
decreases-push_change l = 3 * nesting (json_of l.change.now) + 1

-- the members that are done, and the outcome of the changes left on the members left, are the whole
abbrev pub invariant-merge_members-loop-member : goal.invariant-merge_members-loop-member
invariant-merge_members-loop-member l = record {
  whole : json_members l.merged.items ++ merged_members (json_members l.rest) (members_of (json_members (drop l.member-index l.member-items))) ≡ merged_members (json_members l.members) (members_of (json_members l.member-items));
  order : AreOrdered (json_members l.rest);
}
