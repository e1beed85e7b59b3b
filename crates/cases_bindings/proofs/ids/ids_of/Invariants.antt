-- the server's moment is not past the moment so far
use Rattle.std.proofs.Common.{◌≤◌}
use Rattle.cases_bindings.proofs.ids.ids_of.Given as goal

abbrev pub invariant-loop-time : goal.invariant-loop-time
invariant-loop-time l = l.server.exchanges.moment ≤ l.now
