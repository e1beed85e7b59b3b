-- the server's moment is not past this one
use Rattle.std.proofs.Common.{◌≤◌}
use Rattle.cases_bindings.proofs.transfers.each_is_given.Given as goal

abbrev pub invariant-loop-number : goal.invariant-loop-number
invariant-loop-number l = l.server.exchanges.moment ≤ l.fn.origin.now
