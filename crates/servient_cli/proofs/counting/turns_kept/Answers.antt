use Rattle.std.proofs.Common.{◌∙◌, ◌+◌, ℕ, length, take, arith, ap, sym, add-one}
use Rattle.servient_cli.specs.Counting.{turns_kept}
use Rattle.servient_cli.proofs.CountLaws.{kept_more}
use Rattle.servient_cli.proofs.counting.turns_kept.Goals as goal

pub loop-slot-preserved : goal.loop-slot-preserved
loop-slot-preserved g c =
    let slots = g.R.Handlers.slots c.args.rack.now in
    let slot = c.loop-slot.slot in
    let kept = c.turns.result.now in
    let more = kept_more slots slot kept (omega (arith, c.loop-slot-test.true, c.len-slot-end.ensures.count)) c.turns.ensures in
    record {
      counted = ap (λ (n : ℕ). n + length kept) c.loop-slot.invariant.counted ∙ sym more ∙ ap (λ (n : ℕ). turns_kept (take n slots)) (sym (add-one slot));
      few = omega (arith, c.loop-slot.invariant.few, c.turns.type_inv.0);
    }
