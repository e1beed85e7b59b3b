use Rattle.std.proofs.Common.{◌≡◌, ◌++◌, ◌+◌, ◌*◌, drop}
use Rattle.wot_json.specs.Tree.{nesting, elements_nesting, members_nesting, AreOrdered}
use Rattle.wot_json.specs.Meaning.{json_members}
use Rattle.tm_parts.specs.References.{reference}
use Rattle.tm_parts.specs.Views.{values_in, seen, seen_elements, seen_members}
use Rattle.tm_resolve.specs.Chain.{pointer_of}
use Rattle.tm_resolve.specs.Seen.{with_values}
use Rattle.tm_resolve.specs.Walking.{steps_from}
use Rattle.tm_resolve.proofs.Falls.{budget}
use Rattle.tm_resolve.proofs.Loops.{ElementsGoOn, MembersGoOn}
use Rattle.tm_resolve.proofs.walk.+walk.Given as goal

abbrev pub decreases-target_value : goal.decreases-target_value
decreases-target_value l = budget l.chain.now.items l.sources.now.models + 1

abbrev pub decreases-stepped_value : goal.decreases-stepped_value
decreases-stepped_value l = budget l.chain.now.items l.sources.now.models + (8 * nesting (seen l.part.view) + 8)

abbrev pub decreases-model_value : goal.decreases-model_value
decreases-model_value l = budget l.chain.now.items l.sources.now.models + (8 * nesting (seen l.whole) + 7)

abbrev pub decreases-base_value : goal.decreases-base_value
decreases-base_value l = budget l.chain.now.items l.sources.now.models + 2

abbrev pub decreases-root_value : goal.decreases-root_value
decreases-root_value l = budget l.chain.now.items l.sources.now.models + (8 * nesting (seen l.whole) + 6)

abbrev pub decreases-part_value : goal.decreases-part_value
decreases-part_value l = budget l.chain.now.items l.sources.now.models + (8 * nesting (seen l.part) + 5)

abbrev pub decreases-items_value : goal.decreases-items_value
decreases-items_value l = budget l.chain.now.items l.sources.now.models + (8 * elements_nesting (seen_elements l.list) + 6)

abbrev pub decreases-object_value : goal.decreases-object_value
decreases-object_value l = budget l.chain.now.items l.sources.now.models + (8 * members_nesting (seen_members l.members) + 8)

abbrev pub decreases-imported_value : goal.decreases-imported_value
decreases-imported_value l = budget l.chain.now.items l.sources.now.models + 2

abbrev pub decreases-members_value : goal.decreases-members_value
decreases-members_value l = budget l.chain.now.items l.sources.now.models + (8 * members_nesting (seen_members l.members) + 6)

abbrev pub invariant-items_value-loop-index : goal.invariant-items_value-loop-index
invariant-items_value-loop-index l = record {
  chain : l.chain.items ≡ l.initial.chain.items;
  place : l.place.items ≡ l.initial.place.items;
  done : ElementsGoOn (steps_from l.sources.models l.initial.chain.items) l.initial.chain.items (reference l.from (pointer_of l.initial.place.items)) (with_values (values_in l.list.values)) l.items l.values l.index;
}

abbrev pub invariant-members_value-loop-name : goal.invariant-members_value-loop-name
invariant-members_value-loop-name l = record {
  chain : l.chain.items ≡ l.initial.chain.items;
  place : l.place.items ≡ l.initial.place.items;
  done : MembersGoOn (steps_from l.sources.models l.initial.chain.items) l.initial.chain.items (reference l.from (pointer_of l.initial.place.items)) (with_values (values_in l.members.values)) l.list l.values l.name-index;
  order : AreOrdered (l.values ++ json_members (drop l.name-index l.list));
}
