use Rattle.std.proofs.Common.{◌≡◌, drop}
use Rattle.std.specs.List.{list_any}
use Rattle.plan_table.specs.Table.{is_for_the_same}
use Rattle.plan_table.proofs.unused.is_repeated.Given as goal

-- none so far is for the same
abbrev pub invariant-loop-other : goal.invariant-loop-other
invariant-loop-other l = list_any (is_for_the_same l.entry) (drop l.other-index l.earlier) ≡ list_any (is_for_the_same l.entry) l.earlier
