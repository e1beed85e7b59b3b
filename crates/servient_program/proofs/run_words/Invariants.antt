use Rattle.std.proofs.Common.{◌≡◌, vec_len}
use Rattle.servient_program.proofs.run_words.Given as goal

abbrev pub invariant-loop-slot : goal.invariant-loop-slot
invariant-loop-slot l = vec_len l.list ≡ l.slot
