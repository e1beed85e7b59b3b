use Rattle.std.proofs.Common.{rules}
use Rattle.servient_core.proofs.DeliverLaws.{delivers_one}
use Rattle.servient_core.proofs.layers.Layers.deliver_one.Goals as goal

-- The last argument is left to the search, so that the goal judges the code's effect on the observers.
pub returns-clause-delivered : goal.returns-clause-delivered
returns-clause-delivered g c =
    delivers_one c.args.target c.args.self.now c.answer_waits.new.self _ (g.N.Net.seen c.args.net.now) (g.N.Net.seen c.answer_waits.new.net)
    c.answer_waits.ensures.answered (search rules)
