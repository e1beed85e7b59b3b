use Rattle.std.proofs.Common.{rules, refl}
use Rattle.network_consumer.proofs.DeedLaws.{prints_part, prints_whole}
use Rattle.network_consumer.proofs.printing.print.Goals as goal

pub returns-in-Failed-clause-prints : goal.returns-in-Failed-clause-prints
returns-in-Failed-clause-prints g c = prints_part (g.O.Out.seen c.args.out.now) (g.O.Out.seen c.put.new.self) _ (search rules) c.in-Failed.ensures

pub returns-in-Done-clause-prints : goal.returns-in-Done-clause-prints
returns-in-Done-clause-prints g c =
    prints_whole (g.O.Out.seen c.args.out.now) (g.O.Out.seen c.put.new.self) (g.O.Out.seen c.put-in-Done.new.self) c.put-in-Done.result _ _ (search rules) refl c.in-Done.ensures c.put-in-Done.ensures
