use Rattle.std.proofs.Common.{◌≡◌, ◌==◌, ℕ, ◌<◌, false, get_or}
use Rattle.tm_parts.proofs.placeholder.length_before.Given as goal

abbrev pub invariant-loop-place : goal.invariant-loop-place
invariant-loop-place l = (k : ℕ) → k < l.place → (get_or l.text k 0 == l.stop) ≡ false
