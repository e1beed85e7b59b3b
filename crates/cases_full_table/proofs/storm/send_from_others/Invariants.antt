-- the table's moment stays 0
use Rattle.std.proofs.Common.{◌≤◌}
use Rattle.cases_full_table.proofs.storm.send_from_others.Given as goal

abbrev pub invariant-loop-host : goal.invariant-loop-host
invariant-loop-host l = l.exchanges.moment ≤ 0
