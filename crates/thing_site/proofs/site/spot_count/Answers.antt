use Rattle.std.proofs.Common.{arith}
use Rattle.thing_site.proofs.Halving.{as_many_affordances, as_many_slots}
use Rattle.thing_site.proofs.site.spot_count.Goals as goal

pub returns-then-slots-affordances : goal.returns-then-slots-affordances
returns-then-slots-affordances c = as_many_slots c.args.affordances.now c.args.slots.now (omega (arith, c.if-slots-affordances.true))

pub returns-else-slots-affordances : goal.returns-else-slots-affordances
returns-else-slots-affordances c = as_many_affordances c.args.affordances.now c.args.slots.now (omega (arith, c.if-slots-affordances.false))
