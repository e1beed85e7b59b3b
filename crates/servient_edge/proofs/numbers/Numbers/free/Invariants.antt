use Rattle.std.proofs.Common.{◌≢◌, ◌<◌, ℕ}
use Rattle.servient_edge.specs.Numbers.{vacant, standing_at}
use Rattle.servient_edge.proofs.numbers.Numbers.free.Given as goal

-- none before is vacant
abbrev pub invariant-loop-c : goal.invariant-loop-c
invariant-loop-c l = (other : ℕ) → other < l.c → standing_at other l.fn.self ≢ vacant
