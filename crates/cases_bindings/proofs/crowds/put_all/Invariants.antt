-- the exchanges are as they were
use Rattle.std.proofs.Common.{◌≡◌}
use Rattle.cases_bindings.proofs.crowds.put_all.Given as goal

abbrev pub invariant-loop-turn : goal.invariant-loop-turn
invariant-loop-turn l = l.server.exchanges ≡ l.fn.server.exchanges
