-- the table's moment stays 0
use Rattle.std.proofs.Common.{◌≤◌}
use Rattle.cases_full_table.proofs.storm.send_all.Given as goal

abbrev pub invariant-loop-id : goal.invariant-loop-id
invariant-loop-id l = l.exchanges.moment ≤ 0
