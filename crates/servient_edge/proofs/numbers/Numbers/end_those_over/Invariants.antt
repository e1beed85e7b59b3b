use Rattle.servient_edge.specs.Numbers.{Settles}
use Rattle.servient_edge.proofs.numbers.Numbers.end_those_over.Given as goal

-- so far nothing changed but that closed connections are over
abbrev pub invariant-loop-c : goal.invariant-loop-c
invariant-loop-c g l = Settles l.fn.self l.self
