use Rattle.std.proofs.Common.{◌≤◌}
use Rattle.servient_edge.specs.Numbers.{Settles}
use Rattle.servient_edge.proofs.sockets.Sockets.take.Given as goal

-- no turn gave anything so far
abbrev pub invariant-loop : goal.invariant-loop
invariant-loop g l = Settles l.fn.self.numbers l.self.numbers × (l.fn.faults ≤ l.faults)
