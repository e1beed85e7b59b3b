use Rattle.http_bind.specs.Slots.{left_at}
use Rattle.servient_trace.specs.Trace.{outside}
use Rattle.servient_core.proofs.ConnectionLaws.{Taking}
use Rattle.servient_core.proofs.layers.Layers.take_all.Given as goal

abbrev pub invariant-loop : goal.invariant-loop
invariant-loop g l =
    Taking l.fn.c l.initial.self l.self
    (outside (g.N.Net.seen l.initial.net) (g.R.Handlers.slots l.initial.rack)) (outside (g.N.Net.seen l.net) (g.R.Handlers.slots l.rack))

abbrev pub decreases-loop : goal.decreases-loop
decreases-loop g l = left_at l.fn.c l.self.http
