use Rattle.std.proofs.Common.{◌≡◌, ◌+◌, ◌*◌, drop}
use Rattle.wot_json.specs.Tree.{nesting, most_nesting, most_member_nesting, elements_of, members_of}
use Rattle.wot_json.specs.Meaning.{json_of, json_items, json_members}
use Rattle.wot_schema.specs.Faults.{faults_of_list, faults_of_members}
use Rattle.wot_schema.proofs.validity.+checking.Given as goal

abbrev pub decreases-check_schema : goal.decreases-check_schema
decreases-check_schema l = 4 * nesting (json_of l.tree.now)

abbrev pub decreases-check_members : goal.decreases-check_members
decreases-check_members l = 4 * most_member_nesting l.members.now + 3

abbrev pub decreases-check_alternatives : goal.decreases-check_alternatives
decreases-check_alternatives l = 4 * most_member_nesting l.members.now + 2

abbrev pub decreases-check_items : goal.decreases-check_items
decreases-check_items l = 4 * most_member_nesting l.members.now + 2

abbrev pub decreases-check_properties : goal.decreases-check_properties
decreases-check_properties l = 4 * most_member_nesting l.members.now + 2

abbrev pub decreases-alternatives_found : goal.decreases-alternatives_found
decreases-alternatives_found l = 4 * nesting (json_of l.tree.now) + 1

abbrev pub decreases-items_found : goal.decreases-items_found
decreases-items_found l = 4 * nesting (json_of l.tree.now) + 1

abbrev pub decreases-properties_found : goal.decreases-properties_found
decreases-properties_found l = 4 * nesting (json_of l.tree.now) + 1

abbrev pub decreases-check_list : goal.decreases-check_list
decreases-check_list l = 4 * most_nesting (json_items l.schemas.now) + 1

abbrev pub decreases-check_named : goal.decreases-check_named
decreases-check_named l = 4 * most_member_nesting (json_members l.schemas.now) + 1

abbrev pub invariant-check_list-loop-index : goal.invariant-check_list-loop-index
invariant-check_list-loop-index l = faults_of_list 0 (elements_of (json_items l.schemas)) ≡ faults_of_list l.index (elements_of (json_items (drop l.index l.schemas)))

abbrev pub invariant-check_named-loop-name : goal.invariant-check_named-loop-name
invariant-check_named-loop-name l = faults_of_members (members_of (json_members l.schemas)) ≡ faults_of_members (members_of (json_members (drop l.name-index l.schemas)))
