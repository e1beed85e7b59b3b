use Rattle.std.proofs.Common.{length}
use Rattle.thing_core.specs.Rounds.{events_left}
use Rattle.servient_trace.specs.Trace.{outside}
use Rattle.servient_core.proofs.DeliverLaws.{Polling}
use Rattle.servient_core.proofs.layers.Layers.poll_all.Given as goal

abbrev pub invariant-loop-round : goal.invariant-loop-round
invariant-loop-round g l =
    Polling l.initial.self l.self l.round
    (outside (g.N.Net.seen l.initial.net) (g.R.Handlers.slots l.initial.rack)) (outside (g.N.Net.seen l.net) (g.R.Handlers.slots l.rack))

abbrev pub decreases-loop-round : goal.decreases-loop-round
decreases-loop-round g l = length (events_left l.round l.self.exposed.site.things)
