use Rattle.std.proofs.Common.{◌≡◌, vec_len}
use Rattle.servient_edge.proofs.numbers.Numbers.new.Given as goal

abbrev pub invariant-loop-count : goal.invariant-loop-count
invariant-loop-count l = vec_len l.list ≡ l.count
