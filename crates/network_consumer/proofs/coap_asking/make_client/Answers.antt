use Rattle.network_consumer.specs.Deeds.{sight}
use Rattle.network_consumer.proofs.AskingLaws.{client_memory}
use Rattle.network_consumer.proofs.coap_asking.make_client.Goals as goal

pub returns-in-Err : goal.returns-in-Err
returns-in-Err g c = client_memory _ _ _ (sight (g.N.Net.seen c.args.net.now) (g.O.Out.seen c.args.out.now))
