use Rattle.std.proofs.Common.{◌≡◌, ◌≤◌, ◌++◌, ◌+◌, ◌*◌, length}
use Rattle.std.specs.Vec.Iter.{into_iter_items, into_iter_len}
use Rattle.wot_json.specs.Tree.{nesting, most_member_nesting, members_of, AreOrdered}
use Rattle.wot_json.specs.Meaning.{json_of, json_members}
use Rattle.wot_json.specs.Merge.{merged_members}
use Rattle.tm_resolve.proofs.merging.+merging.Given as goal

abbrev pub decreases-merged : goal.decreases-merged
decreases-merged l = 3 * nesting (json_of l.patch)

abbrev pub decreases-merge_members : goal.decreases-merge_members
decreases-merge_members l = 3 * most_member_nesting l.changes + 2

abbrev pub decreases-push_change : goal.decreases-push_change
decreases-push_change l = 3 * nesting (json_of l.change) + 1

-- the members that are done, and the outcome of the changes left on the members left, are the whole
abbrev pub invariant-merge_members-loop-name : goal.invariant-merge_members-loop-name
invariant-merge_members-loop-name l = record {
  whole : json_members l.done.items ++ merged_members (json_members l.rest.items) (members_of (json_members (into_iter_items l.name-iterator))) ≡ merged_members l.fn.members (members_of l.fn.changes);
  order : AreOrdered (json_members l.rest.items);
  changes : AreOrdered (json_members (into_iter_items l.name-iterator));
  nests : most_member_nesting (json_members (into_iter_items l.name-iterator)) ≤ most_member_nesting l.fn.changes;
  count : into_iter_len l.name-iterator ≡ length (into_iter_items l.name-iterator);
}
