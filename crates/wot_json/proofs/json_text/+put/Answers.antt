use Rattle.std.proofs.Common.{ℕ, List, [], ◌∷◌, ◌++◌, ◌≡◌, ◌<◌, ◌+◌, ◌∙◌, length, sym, subst}
use Rattle.std.specs.Prelude.{Option, None}
use Rattle.std.specs.List.{flat_map}
use Rattle.wot_json.specs.Json.{text_of, json_text, json_string, field_text, further_element, further_field}
use Rattle.servient_base.specs.Writing.{PutsIfRoom}
use Rattle.wot_json.specs.Tree.{array, elements_of, object, members_of}
use Rattle.servient_base.proofs.Pieces.{puts_then, puts_then_if_room, puts_more, no_room_more, puts_fourth_if_room, no_room_for_third}
use Rattle.wot_json.proofs.TreeTexts.{list_text_is, object_text_is}
use Rattle.wot_json.proofs.json_text.+put.Goals as goal

pub put_further_element-returns : goal.put_further_element-returns
put_further_element-returns t c =
    puts_then_if_room (44 ∷ []) (json_text c.args.item.now) c.args.at c.in_ok-at.at c.args.out.now c.put_piece.new.out c.put_tree.new.out c.put_tree.result
    c.put_piece.auto.out c.in_ok-at.ensures c.put_tree.ensures

pub put_further_field-returns : goal.put_further_field-returns
put_further_field-returns t c =
    puts_then_if_room (44 ∷ []) (field_text (c.args.name.now, c.args.value.now)) c.args.at c.in_ok-at.at c.args.out.now c.put_piece.new.out c.put_field.new.out c.put_field.result
    c.put_piece.auto.out c.in_ok-at.ensures c.put_field.ensures

pub put_field-returns : goal.put_field-returns
put_field-returns t c =
    puts_then_if_room (json_string c.args.name.now ++ 58 ∷ []) (json_text c.args.value.now) c.args.at c.in_ok-at-2.at c.args.out.now c.put_piece.new.out c.put_tree.new.out c.put_tree.result
    (c.put_piece.auto.out ∙ c.put_string.auto.out)
    (puts_then (json_string c.args.name.now) (58 ∷ []) c.args.at c.in_ok-at.at c.in_ok-at-2.at c.args.out.now c.put_string.new.out c.put_piece.new.out c.in_ok-at.ensures c.in_ok-at-2.ensures)
    c.put_tree.ensures

pub put_further_elements-returns-in-None : goal.put_further_elements-returns-in-None
put_further_elements-returns-in-None t c =
    no_room_more further_element c.args.items.now c.loop-item.item-index c.item-item.result c.item-item.result c.args.at c.loop-item.end c.args.out.now c.loop-item.out c.loop-item-test.true c.item-item.is c.loop-item.auto.out c.loop-item.invariant c.in-None.ensures

pub put_further_elements-loop-item-preserved : goal.put_further_elements-loop-item-preserved
put_further_elements-loop-item-preserved t c =
    puts_more further_element c.args.items.now c.loop-item.item-index c.item-item.result c.item-item.result c.args.at c.loop-item.end c.in-Some.next c.args.out.now c.loop-item.out c.put_further_element.new.out c.loop-item-test.true c.item-item.is c.loop-item.invariant c.in-Some.ensures

pub put_further_fields-returns-in-None : goal.put_further_fields-returns-in-None
put_further_fields-returns-in-None t c =
    no_room_more further_field c.args.fields.now c.loop-name.name-index c.loop-name-item.result c.loop-name-item.result c.args.at c.loop-name.end c.args.out.now c.loop-name.out c.loop-name-test.true c.loop-name-item.is c.loop-name.auto.out c.loop-name.invariant c.in-None.ensures

pub put_further_fields-loop-name-preserved : goal.put_further_fields-loop-name-preserved
put_further_fields-loop-name-preserved t c =
    puts_more further_field c.args.fields.now c.loop-name.name-index c.loop-name-item.result c.loop-name-item.result c.args.at c.loop-name.end c.in-Some.next c.args.out.now c.loop-name.out c.put_further_field.new.out c.loop-name-test.true c.loop-name-item.is c.loop-name.invariant c.in-Some.ensures

pub put_items-returns-in_err-at-in-Some-3 : goal.put_items-returns-in_err-at-in-Some-3
put_items-returns-in_err-at-in-Some-3 t c =
    let text = list_text_is c.args.items.now c.items.inside.list.items c.in-Some.first.now c.in-Some.others.now (sym c.items.view_is) (sym c.deref.ensures.value ∙ c.in-Some.ensures.cases.0) in
    let none : c.from_residual-in_err-at-in-Some-3.result ≡ None = c.from_residual-in_err-at-in-Some-3.ensures in
    subst (λ (r : Option ℕ). PutsIfRoom (text_of (array (elements_of c.args.items.now))) c.args.at c.args.out.now c.put_further_elements.new.out r) (sym none)
    (subst (λ (text : List ℕ). length c.args.out.now < c.args.at + length text) (sym text)
    (no_room_for_third (91 ∷ []) (json_text c.in-Some.first.now) (flat_map further_element c.in-Some.others.now) (93 ∷ []) c.args.at c.in_ok-at-in-Some.at c.in_ok-at-in-Some-2.at
    c.args.out.now c.put_piece-in-Some.new.out c.put_tree.new.out c.put_piece-in-Some.auto.out c.put_tree.auto.out c.in_ok-at-in-Some.ensures c.in_ok-at-in-Some-2.ensures c.in_err-at-in-Some-3.ensures))

pub put_items-returns-in_ok-at-in-Some-3 : goal.put_items-returns-in_ok-at-in-Some-3
put_items-returns-in_ok-at-in-Some-3 t c =
    let text = list_text_is c.args.items.now c.items.inside.list.items c.in-Some.first.now c.in-Some.others.now (sym c.items.view_is) (sym c.deref.ensures.value ∙ c.in-Some.ensures.cases.0) in
    subst (λ (text : List ℕ). PutsIfRoom text c.args.at c.args.out.now c.put_piece-in-Some-2.new.out c.put_piece-in-Some-2.result) (sym text)
    (puts_fourth_if_room (91 ∷ []) (json_text c.in-Some.first.now) (flat_map further_element c.in-Some.others.now) (93 ∷ []) c.args.at c.in_ok-at-in-Some.at c.in_ok-at-in-Some-2.at c.in_ok-at-in-Some-3.at
    c.args.out.now c.put_piece-in-Some.new.out c.put_tree.new.out c.put_further_elements.new.out c.put_piece-in-Some-2.new.out c.put_piece-in-Some-2.result
    c.put_piece-in-Some.auto.out c.put_tree.auto.out c.put_further_elements.auto.out c.in_ok-at-in-Some.ensures c.in_ok-at-in-Some-2.ensures c.in_ok-at-in-Some-3.ensures c.put_piece-in-Some-2.ensures)

pub put_members-returns-in_err-at-in-Some-3 : goal.put_members-returns-in_err-at-in-Some-3
put_members-returns-in_err-at-in-Some-3 t c =
    let text = object_text_is c.args.members.now c.members.inside.list.items c.in-Some.field-0-0.now c.in-Some.others.now (sym c.members.view_is) (sym c.deref.ensures.value ∙ c.in-Some.ensures.cases.0) in
    let none : c.from_residual-in_err-at-in-Some-3.result ≡ None = c.from_residual-in_err-at-in-Some-3.ensures in
    subst (λ (r : Option ℕ). PutsIfRoom (text_of (object (members_of c.args.members.now))) c.args.at c.args.out.now c.put_further_fields.new.out r) (sym none)
    (subst (λ (text : List ℕ). length c.args.out.now < c.args.at + length text) (sym text)
    (no_room_for_third (123 ∷ []) (field_text c.in-Some.field-0-0.now) (flat_map further_field c.in-Some.others.now) (125 ∷ []) c.args.at c.in_ok-at-in-Some.at c.in_ok-at-in-Some-2.at
    c.args.out.now c.put_piece-in-Some.new.out c.put_field.new.out c.put_piece-in-Some.auto.out c.put_field.auto.out c.in_ok-at-in-Some.ensures c.in_ok-at-in-Some-2.ensures c.in_err-at-in-Some-3.ensures))

pub put_members-returns-in_ok-at-in-Some-3 : goal.put_members-returns-in_ok-at-in-Some-3
put_members-returns-in_ok-at-in-Some-3 t c =
    let text = object_text_is c.args.members.now c.members.inside.list.items c.in-Some.field-0-0.now c.in-Some.others.now (sym c.members.view_is) (sym c.deref.ensures.value ∙ c.in-Some.ensures.cases.0) in
    subst (λ (text : List ℕ). PutsIfRoom text c.args.at c.args.out.now c.put_piece-in-Some-2.new.out c.put_piece-in-Some-2.result) (sym text)
    (puts_fourth_if_room (123 ∷ []) (field_text c.in-Some.field-0-0.now) (flat_map further_field c.in-Some.others.now) (125 ∷ []) c.args.at c.in_ok-at-in-Some.at c.in_ok-at-in-Some-2.at c.in_ok-at-in-Some-3.at
    c.args.out.now c.put_piece-in-Some.new.out c.put_field.new.out c.put_further_fields.new.out c.put_piece-in-Some-2.new.out c.put_piece-in-Some-2.result
    c.put_piece-in-Some.auto.out c.put_field.auto.out c.put_further_fields.auto.out c.in_ok-at-in-Some.ensures c.in_ok-at-in-Some-2.ensures c.in_ok-at-in-Some-3.ensures c.put_piece-in-Some-2.ensures)
