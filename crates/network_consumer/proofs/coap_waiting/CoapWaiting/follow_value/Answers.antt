use Rattle.network_consumer.specs.Deeds.{sight}
use Rattle.network_consumer.proofs.HearingLaws.{value_follows}
use Rattle.network_consumer.proofs.coap_waiting.CoapWaiting.follow_value.Goals as goal

pub returns-clause-follows : goal.returns-clause-follows
returns-clause-follows g c =
    value_follows _ _ _ _ _ _ _ _ (sight (g.N.Net.seen c.args.net.now) (g.O.Out.seen c.args.out.now)) (g.N.Net.seen c.args.net.now) (g.N.Net.seen c.after_value.new.net) (g.O.Out.seen c.close-consumed.new.out) c.answer_message.ensures
    (c.close-consumed.ensures (g.N.Net.seen c.args.net.now)) c.after_value.ensures.ends
