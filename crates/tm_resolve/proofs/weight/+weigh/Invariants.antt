use Rattle.std.proofs.Common.{◌≡◌, ◌+◌, ◌*◌, drop}
use Rattle.wot_json.specs.Tree.{nesting, elements_nesting, members_nesting}
use Rattle.tm_parts.specs.Views.{values_in, seen, seen_elements, seen_members}
use Rattle.tm_resolve.specs.Seen.{with_values}
use Rattle.tm_resolve.proofs.Falls.{budget}
use Rattle.tm_resolve.proofs.Visits.{CountsOn, submodels_list, elements_list, members_list}
use Rattle.tm_resolve.proofs.weight.+weigh.Given as goal

abbrev pub decreases-weigh_step : goal.decreases-weigh_step
decreases-weigh_step l = budget l.chain.now.items l.sources.now.models + 1

abbrev pub decreases-weigh_target : goal.decreases-weigh_target
decreases-weigh_target l = budget l.chain.now.items l.sources.now.models + (8 * nesting (seen l.part.view) + 8)

abbrev pub decreases-weigh_links : goal.decreases-weigh_links
decreases-weigh_links l = budget l.chain.now.items l.sources.now.models + 5

abbrev pub decreases-weigh_extension : goal.decreases-weigh_extension
decreases-weigh_extension l = budget l.chain.now.items l.sources.now.models + 3

abbrev pub decreases-weigh_submodels : goal.decreases-weigh_submodels
decreases-weigh_submodels l = budget l.chain.now.items l.sources.now.models + 4

abbrev pub decreases-weigh_submodel : goal.decreases-weigh_submodel
decreases-weigh_submodel l = budget l.chain.now.items l.sources.now.models + 3

abbrev pub decreases-weigh_link : goal.decreases-weigh_link
decreases-weigh_link l = budget l.chain.now.items l.sources.now.models + 2

abbrev pub decreases-weigh_part : goal.decreases-weigh_part
decreases-weigh_part l = budget l.chain.now.items l.sources.now.models + (8 * nesting (seen l.part) + 4)

abbrev pub decreases-weigh_object : goal.decreases-weigh_object
decreases-weigh_object l = budget l.chain.now.items l.sources.now.models + (8 * members_nesting (seen_members l.members) + 7)

abbrev pub decreases-weigh_reference : goal.decreases-weigh_reference
decreases-weigh_reference l = budget l.chain.now.items l.sources.now.models + 2

abbrev pub decreases-weigh_elements : goal.decreases-weigh_elements
decreases-weigh_elements l = budget l.chain.now.items l.sources.now.models + (8 * elements_nesting (seen_elements l.list) + 5)

abbrev pub decreases-weigh_members : goal.decreases-weigh_members
decreases-weigh_members l = budget l.chain.now.items l.sources.now.models + (8 * members_nesting (seen_members l.members) + 5)

abbrev pub invariant-weigh_submodels-loop-tree : goal.invariant-weigh_submodels-loop-tree
invariant-weigh_submodels-loop-tree l = record {
  chain : l.chain.items ≡ l.initial.chain.items;
  counts : CountsOn (submodels_list (with_values (values_in l.links.values)) l.sources.models l.from l.initial.chain.items l.items) l.fn.left (submodels_list (with_values (values_in l.links.values)) l.sources.models l.from l.initial.chain.items (drop l.tree-index l.items)) l.left;
}

abbrev pub invariant-weigh_elements-loop-tree : goal.invariant-weigh_elements-loop-tree
invariant-weigh_elements-loop-tree l = record {
  chain : l.chain.items ≡ l.initial.chain.items;
  counts : CountsOn (elements_list (with_values (values_in l.list.values)) l.sources.models l.from l.depth l.initial.chain.items l.items) l.fn.left (elements_list (with_values (values_in l.list.values)) l.sources.models l.from l.depth l.initial.chain.items (drop l.tree-index l.items)) l.left;
}

abbrev pub invariant-weigh_members-loop-tree : goal.invariant-weigh_members-loop-tree
invariant-weigh_members-loop-tree l = record {
  chain : l.chain.items ≡ l.initial.chain.items;
  counts : CountsOn (members_list (with_values (values_in l.members.values)) l.sources.models l.from l.depth l.initial.chain.items l.list) l.fn.left (members_list (with_values (values_in l.members.values)) l.sources.models l.from l.depth l.initial.chain.items (drop l.tree-index l.list)) l.left;
}
