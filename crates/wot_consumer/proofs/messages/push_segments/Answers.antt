use Rattle.std.proofs.Common.{◌∙◌}
use Rattle.wot_consumer.proofs.SegmentLists.{segments_more}
use Rattle.wot_consumer.proofs.messages.push_segments.Goals as goal

pub loop-index-preserved : goal.loop-index-preserved
loop-index-preserved c = c.in_ok-push_segment.ensures ∙ (rw c.loop-index.invariant (segments_more _ c.args.path.now c.loop-index.index (rw c.len-index-end.ensures at c.loop-index-test.true)))
