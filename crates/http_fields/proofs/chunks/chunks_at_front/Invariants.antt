use Rattle.std.proofs.Common.{◌≤◌, ◌-◌, ℕ, List, length}
use Rattle.http_fields.proofs.ChunkRows.{IsRead}
use Rattle.http_fields.proofs.chunks.chunks_at_front.Given as goal

abbrev pub invariant-loop-status : goal.invariant-loop-status
invariant-loop-status l =
    (done : List ℕ) × IsRead l.most l.bytes done l.place l.sum × (l.place ≤ length l.bytes) × (l.sum ≤ l.most)

abbrev pub decreases-loop-status : goal.decreases-loop-status
decreases-loop-status l = length l.bytes - l.place
