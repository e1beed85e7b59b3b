use Rattle.std.proofs.Common.{◌∙◌, ◌++◌, ◌∷◌, [], List, ℕ, take, sym, ap, arith, add-one, length, refl}
use Rattle.servient_script.specs.Merging.{counts_of}
use Rattle.servient_script.proofs.MergeLaws.{counted_more}
use Rattle.servient_script.proofs.turns.turn_counts.Goals as goal

pub loop-slot-preserved : goal.loop-slot-preserved
loop-slot-preserved g c =
    let slots = g.R.Handlers.slots c.args.rack.now in
    let more = counted_more slots c.loop-slot.slot (length c.turns.result.now) c.turns.result.now (omega (arith, c.loop-slot-test.true, c.len-slot-end.ensures.count)) c.turns.ensures refl in
    c.in_ok-push.ensures.items ∙ ap (λ (ns : List ℕ). ns ++ length c.turns.result.now ∷ []) c.loop-slot.invariant ∙ sym more
    ∙ ap (λ (n : ℕ). counts_of (take n slots)) (sym (add-one c.loop-slot.slot))
