use Rattle.std.proofs.Common.{◌≡◌, ◌++◌, drop}
use Rattle.std.specs.List.{flat_map}
use Rattle.plan_table.specs.Table.{unknown_line}
use Rattle.plan_table.proofs.text.put_unknown.Given as goal

abbrev pub invariant-loop-name : goal.invariant-loop-name
invariant-loop-name l = l.text ++ flat_map unknown_line (drop l.name-index l.names) ≡ l.initial.text ++ flat_map unknown_line l.names
