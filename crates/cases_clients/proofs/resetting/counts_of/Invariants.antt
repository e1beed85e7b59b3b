-- the client's moment isn't past this one
use Rattle.std.proofs.Common.{◌≤◌}
use Rattle.cases_clients.proofs.resetting.counts_of.Given as goal

abbrev pub invariant-loop-time : goal.invariant-loop-time
invariant-loop-time l = l.client.moment ≤ l.now
