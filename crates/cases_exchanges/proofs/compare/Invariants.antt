-- the moments of both tables are not past the moment so far
use Rattle.std.proofs.Common.{◌≤◌}
use Rattle.cases_exchanges.proofs.compare.Given as goal

abbrev pub invariant-loop-number : goal.invariant-loop-number
invariant-loop-number l = record {
  linked : l.linked_table.moment ≤ l.now;
  plain : l.plain_table.moment ≤ l.now;
}
