use Rattle.std.proofs.Common.{◌∙◌, [], map, sym, ap, arith}
use Rattle.std.proofs.lemmas.List.{get_or-map, length-map, map-set, nil_from_length}
use Rattle.servient_script.specs.Merging.{begins_with as begins}
use Rattle.servient_script.proofs.MergeLaws.{put_all, put_next, has_turn, position_in_map, no_place}
use Rattle.servient_script.proofs.turns.put_turns.Goals as goal

pub returns-in_default : goal.returns-in_default
returns-in_default c = λ turns merged.
    let put = c.loop-number.invariant turns merged in
    let none = sym c.slot_of.ensures ∙ no_place c.slot_of.result c.in_default.not-Some in
    put_all c.loop-number.number (map (λ left. left.now) c.loop-number.by_slot) c.args.out.now c.loop-number.out turns put (position_in_map (begins c.loop-number.number) (λ left. left.now) c.loop-number.by_slot ∙ none)

pub returns-in_default-split_first : goal.returns-in_default-split_first
returns-in_default-split_first c = λ turns merged.
    let found = position_in_map (begins c.loop-number.number) (λ left. left.now) c.loop-number.by_slot ∙ sym c.slot_of.ensures ∙ c.in-Some.is in
    let has = has_turn c.loop-number.number c.in-Some.slot (map (λ left. left.now) c.loop-number.by_slot) found in
    let at = get_or-map (λ left. left.now) c.loop-number.by_slot c.in-Some.slot c.index-by_slot-slot.result [] (omega (arith, has.0, length-map c.loop-number.by_slot (λ left. left.now))) in
    absurd (has.1 [] (at ∙ ap (λ left. left.now) (sym c.index-by_slot-slot.is) ∙ nil_from_length c.index-by_slot-slot.result.now c.in_default-split_first.ensures.cases))

pub loop-number-preserved : goal.loop-number-preserved
loop-number-preserved c = λ turns merged.
    let found = position_in_map (begins c.loop-number.number) (λ left. left.now) c.loop-number.by_slot ∙ sym c.slot_of.ensures ∙ c.in-Some.is in
    let has = has_turn c.loop-number.number c.in-Some.slot (map (λ left. left.now) c.loop-number.by_slot) found in
    let at = get_or-map (λ left. left.now) c.loop-number.by_slot c.in-Some.slot c.index-by_slot-slot.result [] (omega (arith, has.0, length-map c.loop-number.by_slot (λ left. left.now))) in
    put_next c.loop-number.number c.in-Some.slot (map (λ left. left.now) c.loop-number.by_slot) _ c.args.out.now c.loop-number.out c.put_turn.new.out turns [] c.in-Some-split_first.turn.now c.in-Some-split_first.left.now
    (c.loop-number.invariant turns merged) found (at ∙ ap (λ left. left.now) (sym c.index-by_slot-slot.is) ∙ c.in-Some-split_first.ensures.cases.0)
    (map-set (λ left. left.now) c.loop-number.by_slot c.in-Some.slot c.in-Some-split_first.left) c.in_ok-put_turn.ensures
