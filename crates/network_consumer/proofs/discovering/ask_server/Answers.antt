use Rattle.network_consumer.specs.Deeds.{sight}
use Rattle.network_consumer.proofs.AskingLaws.{discovered}
use Rattle.network_consumer.proofs.discovering.ask_server.Goals as goal

pub returns : goal.returns
returns g c =
    discovered c.args.request.now _ _ (sight (g.N.Net.seen c.args.net.now) (g.O.Out.seen c.args.out.now)) (sight (g.N.Net.seen c.ask_by_coap.new.net) (g.O.Out.seen c.ask_by_coap.new.out)) _ c.requires.server c.ask_by_coap.ensures
