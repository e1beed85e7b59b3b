use Rattle.network_consumer.specs.Deeds.{sight}
use Rattle.network_consumer.proofs.AskingLaws.{coap_same, joined_nothing}
use Rattle.network_consumer.proofs.coap_asking.ask_by_coap.Goals as goal

pub make_client-requires-clause-transfer : goal.make_client-requires-clause-transfer
make_client-requires-clause-transfer g c = joined_nothing _ _ c.new-in-Ok.ensures

pub returns-in-Ok : goal.returns-in-Ok
returns-in-Ok g c =
    coap_same _ _ _ _ _ (sight (g.N.Net.seen c.args.net.now) (g.O.Out.seen c.args.out.now)) (sight (g.N.Net.seen c.make_client.new.net) (g.O.Out.seen c.make_client.new.out)) _ c.new-in-Ok.ensures c.make_client.ensures
