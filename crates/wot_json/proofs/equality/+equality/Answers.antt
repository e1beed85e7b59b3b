use Rattle.std.proofs.Common.{arith}
use Rattle.wot_json.specs.Meaning.{json_of, json_member}
use Rattle.wot_json.proofs.EqualTrees.{arrays_equal, objects_equal, differ_at}
use Rattle.wot_json.proofs.equality.+equality.Goals as goal

pub is_equal-returns-in-List-List : goal.is_equal-returns-in-List-List
is_equal-returns-in-List-List t c =
    rw (c.in-List-List.is-0, c.in-List-List.is-1) (arrays_equal c.in-List-List.items c.in-List-List.others c.are_equal_items.result c.are_equal_items.ensures)

pub is_equal-returns-in-Obj-Obj : goal.is_equal-returns-in-Obj-Obj
is_equal-returns-in-Obj-Obj t c =
    rw (c.in-Obj-Obj.is-0, c.in-Obj-Obj.is-1) (objects_equal c.in-Obj-Obj.members c.in-Obj-Obj.others c.are_equal_members.result c.are_equal_members.ensures)

pub are_equal_items-returns-then-not-is_equal : goal.are_equal_items-returns-then-not-is_equal
are_equal_items-returns-then-not-is_equal t c =
    differ_at json_of c.left.inside.list.items c.right.inside.list.items c.loop-place.place c.item-item.result c.index.result.now c.args.left.now c.args.right.now c.is_equal.result
    (rw c.deref-item-items.ensures.value at c.loop-place-test.true) (omega arith) (rw c.deref-item-items.ensures.value at c.item-item.is) c.index.ensures c.left.view_is c.right.view_is c.if-not-is_equal.true c.is_equal.ensures.1

pub are_equal_members-returns-then-not-is_equal_member : goal.are_equal_members-returns-then-not-is_equal_member
are_equal_members-returns-then-not-is_equal_member t c =
    differ_at json_member c.left.inside.list.items c.right.inside.list.items c.loop-place.place c.member-item.result c.index.result.now c.args.left.now c.args.right.now c.is_equal_member.result
    (rw c.deref-member-items.ensures.value at c.loop-place-test.true) (omega arith) (rw c.deref-member-items.ensures.value at c.member-item.is) c.index.ensures c.left.view_is c.right.view_is c.if-not-is_equal_member.true c.is_equal_member.ensures.1
