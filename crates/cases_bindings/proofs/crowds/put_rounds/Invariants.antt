-- the server's moment is not past this one
use Rattle.std.proofs.Common.{◌≤◌}
use Rattle.cases_bindings.proofs.crowds.put_rounds.Given as goal

abbrev pub invariant-loop-time : goal.invariant-loop-time
invariant-loop-time l = l.server.exchanges.moment ≤ l.fn.now
