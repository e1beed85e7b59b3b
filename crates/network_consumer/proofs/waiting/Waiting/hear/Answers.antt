use Rattle.std.proofs.Common.{refl}
use Rattle.network_consumer.specs.Deeds.{sight}
use Rattle.network_consumer.proofs.HearingLaws.{http_hears, coap_hears}
use Rattle.network_consumer.proofs.waiting.Waiting.hear.Goals as goal

pub returns-in-Http-clause-hears : goal.returns-in-Http-clause-hears
returns-in-Http-clause-hears g c =
    http_hears _ _ _ _ _ _ _ _ (sight (g.N.Net.seen c.args.net.now) (g.O.Out.seen c.args.out.now)) (sight (g.N.Net.seen c.args.net.now) (g.O.Out.seen c.hear.new.out)) c.in-Http.is refl (c.hear.ensures.hears (g.N.Net.seen c.args.net.now)) c.hear.ensures.waits

pub returns-in-Coap-clause-hears : goal.returns-in-Coap-clause-hears
returns-in-Coap-clause-hears g c =
    coap_hears _ _ _ _ _ _ _ _ (sight (g.N.Net.seen c.args.net.now) (g.O.Out.seen c.args.out.now)) (sight (g.N.Net.seen c.hear-in-Coap.new.net) (g.O.Out.seen c.hear-in-Coap.new.out)) c.in-Coap.is refl c.hear-in-Coap.ensures.hears
