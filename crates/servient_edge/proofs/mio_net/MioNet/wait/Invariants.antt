use Rattle.std.proofs.Common.{◌≤◌}
use Rattle.servient_edge.specs.Naming.{MaySettle, numbers_of}
use Rattle.servient_edge.proofs.mio_net.MioNet.wait.Given as goal

-- nothing came so far
abbrev pub invariant-loop-asked : goal.invariant-loop-asked
invariant-loop-asked g l =
    (l.fn.self.faults ≤ l.self.faults)
    × (l.fn.self.moments.last ≤ l.self.moments.last)
    × MaySettle (numbers_of l.fn.self.sockets) (numbers_of l.self.sockets)
