use Rattle.servient_trace.specs.Trace.{outside}
use Rattle.servient_core.proofs.ServingLaws.{Progress}
use Rattle.servient_core.proofs.serving.serve.Given as goal

abbrev pub invariant-loop-count : goal.invariant-loop-count
invariant-loop-count g l =
    Progress l.initial.servient l.servient
    (outside (g.N.Net.seen l.initial.net) (g.R.Handlers.slots l.initial.rack)) (outside (g.N.Net.seen l.net) (g.R.Handlers.slots l.rack)) l.count
