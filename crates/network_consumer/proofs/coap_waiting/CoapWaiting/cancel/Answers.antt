use Rattle.std.proofs.Common.{refl}
use Rattle.network_consumer.proofs.ChoiceLaws.{cancelling_may_be_asked}
use Rattle.network_consumer.proofs.HearingLaws.{cancel_said, cancel_left_out}
use Rattle.network_consumer.proofs.coap_waiting.CoapWaiting.cancel.Goals as goal

pub request-requires-clause-ask : goal.request-requires-clause-ask
request-requires-clause-ask g c = cancelling_may_be_asked c.args.chosen.now _ refl c.requires.askable.path

pub returns-in-Ok-clause-cancels : goal.returns-in-Ok-clause-cancels
returns-in-Ok-clause-cancels g c = cancel_said _ _ _ _ _ _ _ (g.N.Net.seen c.args.net.now) (g.N.Net.seen c.datagram.new.self) c.in-Ok.ensures.ok refl c.datagram.ensures

pub returns-in-Err-clause-cancels : goal.returns-in-Err-clause-cancels
returns-in-Err-clause-cancels g c = cancel_left_out _ _ _ (g.N.Net.seen c.args.net.now) c.in-Err.ensures.fault
