use Rattle.std.proofs.Common.{◌≡◌, ◌++◌, drop}
use Rattle.std.specs.List.{flat_map}
use Rattle.plan_table.specs.Table.{row_text}
use Rattle.plan_table.proofs.text.put_rows.Given as goal

abbrev pub invariant-loop-row : goal.invariant-loop-row
invariant-loop-row l = l.text ++ flat_map row_text (drop l.row-index l.rows) ≡ l.initial.text ++ flat_map row_text l.rows
