use Rattle.std.proofs.Common.{◌≡◌, ◌++◌, [], take, drop}
use Rattle.plan_table.specs.Table.{unused_text}
use Rattle.plan_table.proofs.unused.put_unused.Given as goal

abbrev pub invariant-loop-index : goal.invariant-loop-index
invariant-loop-index l = l.text ++ unused_text l.rows (take l.index l.entries) (drop l.index l.entries) ≡ l.initial.text ++ unused_text l.rows [] l.entries
