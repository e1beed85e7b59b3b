use Rattle.std.proofs.Common.{◌≡◌, ◌+◌, ◌*◌, [], map, take, drop}
use Rattle.wot_json.specs.Tree.{nesting, most_nesting, most_member_nesting, elements_of, members_of}
use Rattle.wot_json.specs.Meaning.{json_of, json_items, json_members}
use Rattle.wot_schema.specs.Faults.{faults_of_list, faults_of_members}
use Rattle.wot_schema.specs.Alike.{AllAlike, NamedAlike}
use Rattle.wot_schema.specs.Nodes.{schema_of, schemas_of}
use Rattle.wot_schema.proofs.compilation.+compilation.Given as goal

abbrev pub decreases-compile : goal.decreases-compile
decreases-compile l = 4 * nesting (json_of l.tree.now)

abbrev pub decreases-compile_members : goal.decreases-compile_members
decreases-compile_members l = 4 * most_member_nesting l.members.now + 3

abbrev pub decreases-compile_alternatives : goal.decreases-compile_alternatives
decreases-compile_alternatives l = 4 * most_member_nesting l.members.now + 2

abbrev pub decreases-compile_items : goal.decreases-compile_items
decreases-compile_items l = 4 * most_member_nesting l.members.now + 2

abbrev pub decreases-compile_properties : goal.decreases-compile_properties
decreases-compile_properties l = 4 * most_member_nesting l.members.now + 2

abbrev pub decreases-alternatives_in : goal.decreases-alternatives_in
decreases-alternatives_in l = 4 * nesting (json_of l.tree.now) + 1

abbrev pub decreases-item_rule_in : goal.decreases-item_rule_in
decreases-item_rule_in l = 4 * nesting (json_of l.tree.now) + 1

abbrev pub decreases-properties_in : goal.decreases-properties_in
decreases-properties_in l = 4 * nesting (json_of l.tree.now) + 1

abbrev pub decreases-compile_list : goal.decreases-compile_list
decreases-compile_list l = 4 * most_nesting (json_items l.schemas.now) + 1

abbrev pub decreases-compile_named : goal.decreases-compile_named
decreases-compile_named l = 4 * most_member_nesting (json_members l.schemas.now) + 1

abbrev pub invariant-compile_list-loop-schema : goal.invariant-compile_list-loop-schema
invariant-compile_list-loop-schema l = record {
  nodes : AllAlike (map schema_of l.nodes.items) (json_items (take l.schema-index l.schemas));
  none : faults_of_list l.schema-index (elements_of (json_items (drop l.schema-index l.schemas))) ≡ [];
}

abbrev pub invariant-compile_named-loop-name : goal.invariant-compile_named-loop-name
invariant-compile_named-loop-name l = record {
  nodes : NamedAlike (schemas_of l.named.items) (json_members (take l.name-index l.schemas));
  none : faults_of_members (members_of (json_members (drop l.name-index l.schemas))) ≡ [];
}
