use Rattle.std.proofs.Common.{◌≡◌, take}
use Rattle.wot_json.specs.Meaning.{json_items, json_members}
use Rattle.wot_json.proofs.equality.+equality.Given as goal

abbrev pub invariant-are_equal_items-loop-place : goal.invariant-are_equal_items-loop-place
invariant-are_equal_items-loop-place l = json_items (take l.place l.item-items) ≡ json_items (take l.place l.right-inside.list.items)

abbrev pub invariant-are_equal_members-loop-place : goal.invariant-are_equal_members-loop-place
invariant-are_equal_members-loop-place l = json_members (take l.place l.member-items) ≡ json_members (take l.place l.right-inside.list.items)
