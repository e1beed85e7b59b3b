use Rattle.std.proofs.Common.{ℕ, ◌+◌, Bool, drop, refl, sym, ap, ◌∙◌, arith}
use Rattle.std.specs.Prelude.{◌&&◌}
use Rattle.coap_blocks.specs.Paths.{is_same_path}
use Rattle.coap_blocks.proofs.Paths.{same_past, turn}
use Rattle.coap_blocks.proofs.kept_path.KeptPath.has_segments_of.Goals as goal

pub loop-index-preserved : goal.loop-index-preserved
loop-index-preserved c =
    let next : ℕ = c.loop-index.index + 1 in
    c.loop-index.invariant
    ∙ turn c.args.self.now c.args.path.now c.loop-index.index next c.at.result.now c.is_segment.result refl (omega (arith, c.requires, c.loop-index-test.true, c.len-index-end.ensures)) c.at.ensures c.is_segment.ensures
    ∙ ap (λ (b : Bool). b && is_same_path (drop next c.args.self.now) (drop next c.args.path.now)) c.if-not-is_segment.false

pub returns-then-not-is_segment : goal.returns-then-not-is_segment
returns-then-not-is_segment c =
    let next : ℕ = c.loop-index.index + 1 in
    sym (c.loop-index.invariant
    ∙ turn c.args.self.now c.args.path.now c.loop-index.index next c.at.result.now c.is_segment.result refl (omega (arith, c.requires, c.loop-index-test.true, c.len-index-end.ensures)) c.at.ensures c.is_segment.ensures
    ∙ ap (λ (b : Bool). b && is_same_path (drop next c.args.self.now) (drop next c.args.path.now)) c.if-not-is_segment.true)

pub returns : goal.returns
returns c =
    sym (c.loop-index.invariant
    ∙ same_past c.args.self.now c.args.path.now c.loop-index.index (omega (arith, c.loop-index-test.false, c.len-index-end.ensures)) (omega (arith, c.requires, c.loop-index-test.false, c.len-index-end.ensures)))
