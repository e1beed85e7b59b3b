use Rattle.std.proofs.Common.{◌≡◌, ℕ, List, drop}
use Rattle.std.specs.Cmp.Lexicographic.{slice_cmp}
use Rattle.std.specs.Ordering.{nat_cmp}
use Rattle.wot_json.specs.Places.{token_text}
use Rattle.wot_json.proofs.lookup.compare.Given as goal

-- the bytes so far are the same, and what is left decides
abbrev pub invariant-loop-byte : goal.invariant-loop-byte
invariant-loop-byte l = (other : List ℕ) → l.token ≡ token_text other
    → (left : List ℕ) × (l.rest ≡ token_text left) × (slice_cmp nat_cmp l.name other ≡ slice_cmp nat_cmp (drop l.byte-index l.name) left)
