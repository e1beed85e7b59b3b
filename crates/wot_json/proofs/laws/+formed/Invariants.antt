use Rattle.std.proofs.Common.{drop}
use Rattle.wot_json.specs.Meaning.{json_items, json_members}
use Rattle.wot_json.specs.Tree.{elements_of, members_of}
use Rattle.wot_json.specs.WellFormed.{ElementsAreWellFormed, MembersAreWellFormed}
use Rattle.wot_json.proofs.laws.+formed.Given as goal

abbrev pub invariant-items_are_well_formed-loop-item : goal.invariant-items_are_well_formed-loop-item
invariant-items_are_well_formed-loop-item l =
    ElementsAreWellFormed (elements_of (json_items (drop l.item-index l.item-items))) → ElementsAreWellFormed (elements_of (json_items l.item-items))

abbrev pub invariant-members_are_well_formed-loop-name : goal.invariant-members_are_well_formed-loop-name
invariant-members_are_well_formed-loop-name l =
    MembersAreWellFormed (members_of (json_members (drop l.name-index l.name-items))) → MembersAreWellFormed (members_of (json_members l.name-items))
