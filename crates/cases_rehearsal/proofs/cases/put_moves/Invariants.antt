-- one device for each slot so far
use Rattle.std.proofs.Common.{◌≡◌, vec_len}
use Rattle.cases_rehearsal.proofs.cases.put_moves.Given as goal

abbrev pub invariant-loop-slot : goal.invariant-loop-slot
invariant-loop-slot l = vec_len l.list ≡ l.slot
