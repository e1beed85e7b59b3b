use Rattle.std.proofs.Common.{refl}
use Rattle.network_consumer.specs.Deeds.{sight}
use Rattle.network_consumer.proofs.AskingLaws.{coap_found, not_found, find_memory}
use Rattle.network_consumer.proofs.coap_asking.find.Goals as goal

pub returns-in-At : goal.returns-in-At
returns-in-At g c =
    coap_found _ _ _ _ _ _ _ (g.N.Net.seen c.args.net.now) (g.N.Net.seen c.find.new.self) (g.O.Out.seen c.args.out.now) (sight (g.N.Net.seen c.ask_peer.new.net) (g.O.Out.seen c.ask_peer.new.out)) c.as_str.ensures
    (record { new = c.requires.client; moment = refl; peer_is = refl; left = c.count.ensures; transfer = c.requires.transfer }) c.in-At.ensures c.ask_peer.ensures

pub returns-in-Failed : goal.returns-in-Failed
returns-in-Failed g c = not_found _ _ _ _ (g.N.Net.seen c.args.net.now) (g.N.Net.seen c.find.new.self) (g.O.Out.seen c.args.out.now) c.as_str.ensures c.in-Failed.ensures

pub returns-in-NoMemory : goal.returns-in-NoMemory
returns-in-NoMemory g c = find_memory _ _ _ _ (g.N.Net.seen c.args.net.now) (g.N.Net.seen c.find.new.self) (g.O.Out.seen c.args.out.now) c.as_str.ensures c.in-NoMemory.ensures
