-- the server's moment is not past this one
use Rattle.std.proofs.Common.{◌≤◌}
use Rattle.cases_bindings.proofs.crowds.count_registered.Given as goal

abbrev pub invariant-loop-host : goal.invariant-loop-host
invariant-loop-host l = l.server.exchanges.moment ≤ l.fn.now
