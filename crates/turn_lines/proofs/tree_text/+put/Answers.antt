use Rattle.std.proofs.Common.{rules, Bool, ◌∙◌, ℕ, List, [], ◌∷◌, refl, sym, ap, arith}
use Rattle.std.specs.List.{flat_map}
use Rattle.std.proofs.lemmas.List.{take_all, nil_from_length}
use Rattle.wot_json.specs.declared.tree.Tree.{Tree}
use Rattle.wot_json.specs.Tree.{Json, array, object, elements_of, members_of, nesting}
use Rattle.wot_json.specs.Meaning.{json_of, json_items, json_members}
use Rattle.wot_json.specs.Json.{json_text, json_string, text_of, field_text, further_element, further_field}
use Rattle.wot_json.proofs.Nesting.{element_nests, member_nests}
use Rattle.wot_json.proofs.TreeTexts.{list_text_is, object_text_is}
use Rattle.turn_lines.specs.Buffer.{buffered_of}
use Rattle.turn_lines.proofs.Putting.{put_none, put_then, put_more, put_same, put_four}
use Rattle.turn_lines.proofs.tree_text.+put.Goals as goal

pub put_field-returns : goal.put_field-returns
put_field-returns t g c =
    put_then (put_then (put_same _ _ (ap json_string (sym (c.as_bytes.ensures.value ∙ c.as_str.ensures))) c.put_string.ensures) c.push.ensures) c.put_tree.ensures

pub put_tree-returns-in-Null : goal.put_tree-returns-in-Null
put_tree-returns-in-Null t g c = put_same _ _ (ap json_text c.in-Null.is) c.push.ensures

pub put_tree-returns-in-Bool-true : goal.put_tree-returns-in-Bool-true
put_tree-returns-in-Bool-true t g c = put_same _ _ (ap json_text c.in-Bool-true.is ∙ search rules) c.push-in-Bool-true.ensures

pub put_tree-returns-in-Bool-false : goal.put_tree-returns-in-Bool-false
put_tree-returns-in-Bool-false t g c = put_same _ _ (ap json_text c.in-Bool-false.is ∙ search rules) c.push-in-Bool-false.ensures

pub put_tree-returns-in-Int : goal.put_tree-returns-in-Int
put_tree-returns-in-Int t g c = put_same _ _ (search rules) c.push_number.ensures

pub put_tree-returns-in-Text : goal.put_tree-returns-in-Text
put_tree-returns-in-Text t g c = put_same _ _ (ap json_text c.in-Text.is ∙ ap json_string (sym (c.as_bytes.ensures.value ∙ c.as_str.ensures))) c.put_string.ensures

pub put_tree-returns-in-List : goal.put_tree-returns-in-List
put_tree-returns-in-List t g c = put_same _ _ (ap json_text c.in-List.is ∙ ap (λ (vs : List Json). text_of (array (elements_of vs))) (sym c.as_slice.ensures)) c.put_items.ensures

pub put_tree-returns-in-Obj : goal.put_tree-returns-in-Obj
put_tree-returns-in-Obj t g c = put_same _ _ (ap json_text c.in-Obj.is ∙ ap (λ (ms : List (List ℕ × Json)). text_of (object (members_of ms))) (sym c.as_slice-in-Obj.ensures.members)) c.put_members.ensures

pub put_items-returns-in-None : goal.put_items-returns-in-None
put_items-returns-in-None t g c = put_same _ _ (ap (λ (ts : List Tree). text_of (array (elements_of (json_items ts)))) (nil_from_length c.args.items.now c.in-None.ensures.cases)) c.push.ensures

pub put_items-returns-in-Some : goal.put_items-returns-in-Some
put_items-returns-in-Some t g c =
    put_same _ _ (list_text_is (json_items c.args.items.now) c.args.items.now c.in-Some.first.now c.in-Some.others.now refl c.in-Some.ensures.cases.0)
    (put_four _ _ _ _ c.push-in-Some.ensures c.put_tree.ensures c.put_further_elements.ensures c.push-in-Some-2.ensures)

pub put_members-returns-in-None : goal.put_members-returns-in-None
put_members-returns-in-None t g c = put_same _ _ (ap (λ (ms : List (List ℕ × Tree)). text_of (object (members_of (json_members ms)))) (nil_from_length c.args.members.now c.in-None.ensures.cases)) c.push.ensures

pub put_members-returns-in-Some : goal.put_members-returns-in-Some
put_members-returns-in-Some t g c =
    put_same _ _ (object_text_is (json_members c.args.members.now) c.args.members.now c.in-Some.field-0-0.now c.in-Some.others.now refl c.in-Some.ensures.cases.0)
    (put_four _ _ _ _ c.push-in-Some.ensures c.put_field.ensures c.put_further_fields.ensures c.push-in-Some-2.ensures)

pub put_further_elements-loop-item-init : goal.put_further_elements-loop-item-init
put_further_elements-loop-item-init t g c = put_none (buffered_of c.args.lines.now) (t.O.Out.seen c.args.out.now)

pub put_further_elements-loop-item-preserved : goal.put_further_elements-loop-item-preserved
put_further_elements-loop-item-preserved t g c =
    put_more further_element c.args.items.now c.loop-item.item-index c.item-item.result c.item-item.result c.loop-item-test.true c.item-item.is c.loop-item.invariant (put_then c.push.ensures c.put_tree.ensures)

pub put_further_elements-returns : goal.put_further_elements-returns
put_further_elements-returns t g c = put_same _ _ (ap (flat_map further_element) (sym (take_all c.loop-item.item-index c.args.items.now (omega (arith, c.loop-item-test.false))))) c.loop-item.invariant

pub put_further_fields-loop-name-init : goal.put_further_fields-loop-name-init
put_further_fields-loop-name-init t g c = put_none (buffered_of c.args.lines.now) (t.O.Out.seen c.args.out.now)

pub put_further_fields-loop-name-preserved : goal.put_further_fields-loop-name-preserved
put_further_fields-loop-name-preserved t g c =
    put_more further_field c.args.fields.now c.loop-name.name-index c.loop-name-item.result c.loop-name-item.result c.loop-name-test.true c.loop-name-item.is c.loop-name.invariant (put_then c.push.ensures c.put_field.ensures)

pub put_further_fields-returns : goal.put_further_fields-returns
put_further_fields-returns t g c = put_same _ _ (ap (flat_map further_field) (sym (take_all c.loop-name.name-index c.args.fields.now (omega (arith, c.loop-name-test.false))))) c.loop-name.invariant

pub put_further_elements-put_tree-requires : goal.put_further_elements-put_tree-requires
put_further_elements-put_tree-requires t g c =
    let nests = element_nests c.args.items.now c.loop-item.item-index c.item-item.result c.loop-item-test.true in
    λ κs lives. (omega (arith, nests, ap (λ (x : Tree). nesting (json_of x)) c.item-item.is), lives)

pub put_further_fields-put_field-requires : goal.put_further_fields-put_field-requires
put_further_fields-put_field-requires t g c =
    let nests = member_nests c.args.fields.now c.loop-name.name-index c.loop-name-item.result c.loop-name-test.true in
    λ κs lives. (omega (arith, nests, ap (λ (x : List ℕ × Tree). nesting (json_of x.1)) c.loop-name-item.is), lives)
