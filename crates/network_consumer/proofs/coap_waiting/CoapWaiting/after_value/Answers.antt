use Rattle.std.proofs.Common.{rules}
use Rattle.network_consumer.proofs.HearingLaws.{value_is_last}
use Rattle.network_consumer.proofs.coap_waiting.CoapWaiting.after_value.Goals as goal

pub returns-clause-ends : goal.returns-clause-ends
returns-clause-ends g c = value_is_last _ _ _ _ (g.N.Net.seen c.args.net.now) (g.N.Net.seen c.cancel.new.net) (search rules) c.cancel.ensures.cancels
