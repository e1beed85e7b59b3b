use Rattle.std.proofs.Common.{◌≡◌, drop}
use Rattle.std.specs.List.{list_any}
use Rattle.plan_table.specs.Table.{is_for}
use Rattle.plan_table.proofs.unused.has_affordance.Given as goal

-- it is for none so far
abbrev pub invariant-loop-row : goal.invariant-loop-row
invariant-loop-row l = list_any (is_for l.entry) (drop l.row-index l.rows) ≡ list_any (is_for l.entry) l.rows
