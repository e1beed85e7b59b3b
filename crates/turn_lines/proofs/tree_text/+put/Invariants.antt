use Rattle.std.proofs.Common.{◌+◌, ◌*◌, take}
use Rattle.std.specs.List.{flat_map}
use Rattle.wot_json.specs.Tree.{nesting, most_nesting, most_member_nesting}
use Rattle.wot_json.specs.Meaning.{json_of, json_items, json_members}
use Rattle.wot_json.specs.Json.{further_element, further_field}
use Rattle.turn_lines.specs.Buffer.{buffered_of, HasPut}
use Rattle.turn_lines.proofs.tree_text.+put.Given as goal

abbrev pub decreases-put_tree : goal.decreases-put_tree
decreases-put_tree g l = 4 * nesting (json_of l.tree.now)

abbrev pub decreases-put_items : goal.decreases-put_items
decreases-put_items g l = 4 * most_nesting (json_items l.items.now) + 3

abbrev pub decreases-put_further_elements : goal.decreases-put_further_elements
decreases-put_further_elements g l = 4 * most_nesting (json_items l.items.now) + 2

abbrev pub decreases-put_members : goal.decreases-put_members
decreases-put_members g l = 4 * most_member_nesting (json_members l.members.now) + 3

abbrev pub decreases-put_further_fields : goal.decreases-put_further_fields
decreases-put_further_fields g l = 4 * most_member_nesting (json_members l.fields.now) + 2

abbrev pub decreases-put_field : goal.decreases-put_field
decreases-put_field g l = 4 * nesting (json_of l.value.now) + 1

abbrev pub invariant-put_further_elements-loop-item : goal.invariant-put_further_elements-loop-item
invariant-put_further_elements-loop-item g l = HasPut (flat_map further_element (take l.item-index l.items)) (buffered_of l.initial.lines) (buffered_of l.lines) (g.O.Out.seen l.initial.out) (g.O.Out.seen l.out)

abbrev pub invariant-put_further_fields-loop-name : goal.invariant-put_further_fields-loop-name
invariant-put_further_fields-loop-name g l = HasPut (flat_map further_field (take l.name-index l.fields)) (buffered_of l.initial.lines) (buffered_of l.lines) (g.O.Out.seen l.initial.out) (g.O.Out.seen l.out)
