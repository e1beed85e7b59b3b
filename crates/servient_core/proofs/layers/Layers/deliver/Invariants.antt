use Rattle.std.proofs.Common.{length}
use Rattle.servient_core.proofs.DeliverLaws.{Delivering}
use Rattle.servient_core.proofs.layers.Layers.deliver.Given as goal

abbrev pub invariant-loop-target : goal.invariant-loop-target
invariant-loop-target g l = Delivering l.initial.self l.self (g.N.Net.seen l.initial.net) (g.N.Net.seen l.net)

abbrev pub decreases-loop-target : goal.decreases-loop-target
decreases-loop-target g l = length l.self.exposed.pending
