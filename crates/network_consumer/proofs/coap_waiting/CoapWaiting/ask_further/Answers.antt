use Rattle.network_consumer.proofs.HearingLaws.{asked_further, asked_no_further}
use Rattle.network_consumer.proofs.coap_waiting.CoapWaiting.ask_further.Goals as goal

pub returns-in-Ok-clause-asks : goal.returns-in-Ok-clause-asks
returns-in-Ok-clause-asks g c = asked_further _ _ _ _ (g.N.Net.seen c.args.net.now) (g.N.Net.seen c.send.new.net) c.in-Ok.ensures.sends

pub returns-in-Err-clause-asks : goal.returns-in-Err-clause-asks
returns-in-Err-clause-asks g c = asked_no_further _ _ _ _ _ (g.N.Net.seen c.args.net.now) (g.N.Net.seen c.send.new.net) c.in-Err.ensures.fault c.in-Err.ensures.sends
