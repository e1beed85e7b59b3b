use Rattle.std.proofs.Common.{rules}
use Rattle.servient_edge.proofs.SendingLaws.{sent_on_flushed}
use Rattle.servient_edge.proofs.sending.flush.Goals as goal

-- what wasn't taken is kept
pub returns : goal.returns
returns g c = record { sent = sent_on_flushed _ _ c.in_ok-count.count c.as_slice.result.now c.args.kept.now c.take_front.new.self c.as_slice.ensures (search rules) c.in_ok-count.ensures.bytes }
