-- The code's findings at the front of the bytes after a head, apart from their place in memory.
use Rattle.std.specs.Prelude.{◌≤◌, ℕ, ◌+◌, length}
use Rattle.http_fields.specs.declared.chunks.BodyScan.{BodyScan}
use Rattle.http_fields.specs.declared.chunks.BodyScan.TheVariants as scan
use Rattle.http_fields.specs.declared.chunks.Chunk.{Chunk}
use Rattle.http_fields.specs.declared.chunks.Chunk.TheVariants as chunk
use Rattle.http_fields.specs.Chunks.{BodyFront, unfinished, faulty, whole}

-- the finding
abbrev pub body_seen : BodyScan → BodyFront
body_seen scan.Unfinished = unfinished
body_seen (scan.Faulty status) = faulty status
body_seen (scan.Whole body used) = whole body used

-- a whole body takes no more bytes than there are, and has at most so many when it is decoded
abbrev pub IsWithin : ℕ → BodyScan → ℕ → Type 0
IsWithin most scan.Unfinished n = Unit {0}
IsWithin most (scan.Faulty status) n = Unit {0}
IsWithin most (scan.Whole body used) n = (used ≤ n) × (length body ≤ most)

-- a whole body takes no more bytes than there are
abbrev pub TakesAtMost : BodyScan → ℕ → Type 0
TakesAtMost scan.Unfinished n = Unit {0}
TakesAtMost (scan.Faulty status) n = Unit {0}
TakesAtMost (scan.Whole body used) n = used ≤ n

-- a whole chunk takes no more bytes than there are, and with it there are at most so many bytes of data
abbrev pub IsChunkWithin : ℕ → ℕ → ℕ → Chunk → Type 0
IsChunkWithin most sum n chunk.Cut = Unit {0}
IsChunkWithin most sum n (chunk.Wrong status) = Unit {0}
IsChunkWithin most sum n (chunk.Last used) = used ≤ n
IsChunkWithin most sum n (chunk.More place size) = (place + size + 2 ≤ n) × (sum + size ≤ most)
