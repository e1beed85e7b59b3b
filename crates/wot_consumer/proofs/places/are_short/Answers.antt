use Rattle.std.proofs.Common.{◌∙◌, sym, refl}
use Rattle.wot_consumer.proofs.SegmentLists.{short_more, short_all}
use Rattle.wot_consumer.proofs.places.are_short.Goals as goal

pub loop-index-preserved : goal.loop-index-preserved
loop-index-preserved c =
    short_more c.args.segments.now c.loop-index.index (rw c.len-index-end.ensures at c.loop-index-test.true) (sym c.is_long.ensures ∙ c.if-is_long.false) c.loop-index.invariant

pub returns : goal.returns
returns c = (λ _. short_all c.args.segments.now c.loop-index.index (rw c.len-index-end.ensures at c.loop-index-test.false) c.loop-index.invariant, λ _. refl)
