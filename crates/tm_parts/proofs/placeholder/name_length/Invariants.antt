use Rattle.std.proofs.Common.{◌≡◌, ℕ, ◌<◌, true, get_or}
use Rattle.tm_parts.specs.Placeholders.{is_name_byte}
use Rattle.tm_parts.proofs.placeholder.name_length.Given as goal

abbrev pub invariant-loop-place : goal.invariant-loop-place
invariant-loop-place l = (k : ℕ) → k < l.place → is_name_byte (get_or l.text k 0) ≡ true
