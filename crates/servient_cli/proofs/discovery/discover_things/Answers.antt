use Rattle.wot_consumer.specs.Discovery.{links_of}
use Rattle.network_consumer.specs.Consuming.{Discovers}
use Rattle.servient_cli.proofs.ConsumingStages.{asked_others}
use Rattle.servient_cli.proofs.discovery.discover_things.Goals as goal

pub returns : goal.returns
returns g c = λ files slots.
    asked_others files (g.N.Net.seen c.args.net.now) (g.N.Net.seen c.discover.new.net) slots (g.O.Out.seen c.args.out.now) (g.O.Out.seen c.discover.new.out) (Discovers (links_of c.args.host.now c.args.port)) c.discover.result c.end_of.result c.discover.ensures
    c.end_of.ensures
