-- the server's moment is not past the moment so far
use Rattle.std.proofs.Common.{◌≤◌}
use Rattle.cases_bindings.proofs.datagrams.put.Given as goal

abbrev pub invariant-loop-line : goal.invariant-loop-line
invariant-loop-line l = l.server.exchanges.moment ≤ l.now
