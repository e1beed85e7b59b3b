use Rattle.std.proofs.Common.{◌≡◌, ◌≤◌, ◌-◌, ℕ, List, length, take}
use Rattle.http_fields.specs.Bodies.{longest_reply}
use Rattle.http_fields.proofs.ChunkRows.{IsRead}
use Rattle.http_fields.proofs.chunks.copy_chunks.Given as goal

abbrev pub invariant-loop-after : goal.invariant-loop-after
invariant-loop-after l =
    (done : List ℕ) × IsRead longest_reply l.coded done l.place l.sum × (take l.sum l.out ≡ done) × (length l.out ≡ length l.initial.out)
    × (l.place ≤ length l.coded) × (l.sum ≤ longest_reply)

abbrev pub decreases-loop-after : goal.decreases-loop-after
decreases-loop-after l = length l.coded - l.place
