use Rattle.std.proofs.Common.{◌≡◌, ◌++◌, drop, replicate}
use Rattle.logged_serving.proofs.run_log.count_none.Given as goal

abbrev pub invariant-loop-index : goal.invariant-loop-index
invariant-loop-index l = l.counts ≡ replicate l.index 0 ++ drop l.index l.initial.counts
