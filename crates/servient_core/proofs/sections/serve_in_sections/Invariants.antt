use Rattle.servient_trace.specs.Trace.{outside}
use Rattle.servient_core.proofs.SectionsServed.{Endures}
use Rattle.servient_core.proofs.sections.serve_in_sections.Given as goal

abbrev pub invariant-loop-count : goal.invariant-loop-count
invariant-loop-count g l =
    Endures l.fn.bounds.turns l.initial.servient l.servient
    (outside (g.N.Net.seen l.initial.net) (g.R.Handlers.slots l.initial.rack)) (outside (g.N.Net.seen l.net) (g.R.Handlers.slots l.rack)) l.count l.due
