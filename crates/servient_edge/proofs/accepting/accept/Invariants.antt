use Rattle.std.proofs.Common.{◌≤◌}
use Rattle.servient_edge.proofs.accepting.accept.Given as goal

abbrev pub invariant-loop : goal.invariant-loop
invariant-loop g l = l.fn.faults ≤ l.faults
