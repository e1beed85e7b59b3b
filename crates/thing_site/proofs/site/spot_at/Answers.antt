use Rattle.std.proofs.Common.{arith}
use Rattle.thing_site.proofs.Halving.{no_spot, spot_here}
use Rattle.thing_site.proofs.site.spot_at.Goals as goal

pub returns-then-index-count : goal.returns-then-index-count
returns-then-index-count c =
    spot_here c.args.affordances.now c.args.slots.now c.args.index c.index-affordances-index.result (omega (arith, c.min-count.ensures)) (omega (arith, c.min-count.ensures)) c.index-affordances-index.is

pub returns-else-index-count : goal.returns-else-index-count
returns-else-index-count c = no_spot c.args.affordances.now c.args.slots.now c.args.index (omega (arith, c.min-count.ensures))
