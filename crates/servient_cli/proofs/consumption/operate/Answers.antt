use Rattle.servient_cli.proofs.ConsumingStages.{operated}
use Rattle.servient_cli.proofs.consumption.operate.Goals as goal

pub returns : goal.returns
returns g c = λ files slots k tree input asked.
    operated files (g.N.Net.seen c.args.net.now) (g.N.Net.seen c.consume.new.net) slots (g.O.Out.seen c.args.out.now) (g.O.Out.seen c.consume.new.out) k tree input _ _ c.consume.result c.end_of.result asked c.consume.ensures c.end_of.ensures
