use Rattle.std.proofs.Common.{◌≡◌, ◌++◌, ◌∷◌, length, List, ℕ, arith, ap, subst, []}
use Rattle.std.specs.Vec.Iter.{into_iter_items}
use Rattle.std.proofs.lemmas.Grind.{common_steps}
use Rattle.std.proofs.lemmas.List.{length_push}
use Rattle.wot_json.specs.Reading.{places_below}
use Rattle.wot_json.specs.Faults.{NamesFirst}
use Rattle.wot_json.proofs.Converting.{items_more, items_all, items_places_more, item_fault, members_more, members_all, members_places_more, member_fault, names_more, ordered_as_entries, none_left}
use Rattle.wot_json.proofs.reading.+convert.Goals as goal

pub convert_items-returns-in-Err-clause-fault : goal.convert_items-returns-in-Err-clause-fault
convert_items-returns-in-Err-clause-fault t c =
    let l = c.loop-item in
    item_fault _ (length l.elements) c.len-in-Err.result c.in-Some.item (into_iter_items c.next.new.self) c.in-Err.fault c.below_element.result
    (omega arith) (rw c.in-Some.ensures.steps.0 at l.invariant.places) c.in-Err.ensures.fault c.below_element.ensures

pub convert_items-loop-item-preserved : goal.convert_items-loop-item-preserved
convert_items-loop-item-preserved t c =
    let l = c.loop-item in
    let steps = c.in-Some.ensures.steps in
    let grown = c.in_ok-push-in-Ok.ensures.ok in
    let count = ap length grown in record {
      tree = items_more _ l.elements _ c.in-Some.item (into_iter_items c.next.new.self) _ (rw steps.0 at l.invariant.tree) c.in-Ok.ensures.ok grown;
      count = omega (arith, ap length steps.0, l.invariant.count, steps.1);
      places = items_places_more _ (length l.elements) _ c.in-Some.item (into_iter_items c.next.new.self) _ (omega (arith, count, length_push l.elements)) (rw steps.0 at l.invariant.places) c.in-Ok.ensures.ok;
    }

pub convert_items-returns-clause-ok : goal.convert_items-returns-clause-ok
convert_items-returns-clause-ok t c =
    let l = c.loop-item in
    items_all _ l.elements (into_iter_items l.item-iterator) (none_left _ (omega (arith, l.invariant.count, c.in-None.ensures.steps.0))) l.invariant.tree

pub convert_members-loop-name-preserved : goal.convert_members-loop-name-preserved
convert_members-loop-name-preserved t c =
    let l = c.loop-name in
    let steps = c.in-Some.ensures.steps in
    let grown : c.push.new.self.items ≡ l.list.items ++ (c.from_string.result, c.in-Ok.tree) ∷ [] = grind (arith, common_steps) in record {
      names = names_more _ l.list.items _ (c.in-Some.name, c.in-Some.member) c.next.new.self c.from_string.result c.in-Ok.tree (rw steps at l.invariant.names) c.from_string.ensures grown;
      tree = members_more _ l.list.items _ (c.in-Some.name, c.in-Some.member) c.next.new.self c.from_string.result c.in-Ok.tree (rw steps at l.invariant.tree) c.in-Ok.ensures.ok c.from_string.ensures grown;
      places = members_places_more _ (c.in-Some.name, c.in-Some.member) c.next.new.self _ (rw steps at l.invariant.places) c.in-Ok.ensures.ok;
    }

pub convert_members-returns-in-Err-clause-fault : goal.convert_members-returns-in-Err-clause-fault
convert_members-returns-in-Err-clause-fault t c =
    let l = c.loop-name in
    let steps = c.in-Some.ensures.steps in
    member_fault _ (c.in-Some.name, c.in-Some.member) c.next.new.self c.in-Err.fault c.below_member.result (rw steps at l.invariant.places) c.in-Err.ensures.fault
    (λ places h. subst (λ (token : List ℕ). NamesFirst (places_below token places) c.below_member.result) c.as_str.ensures.value (c.below_member.ensures places h))

pub convert_members-invariant_of-result : goal.convert_members-invariant_of-result
convert_members-invariant_of-result t c =
    let l = c.loop-name in
    ordered_as_entries l.list.items c.args.members.entries l.name-iterator c.in-None.ensures.steps.0 l.invariant.names c.len.ensures.ordered

pub convert_members-returns-clause-ok : goal.convert_members-returns-clause-ok
convert_members-returns-clause-ok t c =
    let l = c.loop-name in
    members_all _ l.list.items l.name-iterator c.in-None.ensures.steps.0 l.invariant.tree
