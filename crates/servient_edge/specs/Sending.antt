-- Sending in order on a connection, which takes bytes only as far as it has room.
use Rattle.std.specs.Prelude.{◌≡◌, ℕ, List, [], ◌∷◌, ◌++◌, Option, Result, Ok, Err, take, nat_eq, option_map, if◌then◌else◌}
use Rattle.servient_outside.specs.Told.{Continues}
use Rattle.servient_system.specs.declared.asked.Asked.{Asked}
use Rattle.servient_system.specs.declared.asked.Asked.TheVariants as asked
use Rattle.servient_system.specs.declared.refusal.Refusal.{Refusal}

-- the bytes that a write took of these
abbrev pub taken_of : List ℕ → Result ℕ Refusal → List ℕ
taken_of bytes (Ok count) = take count bytes
taken_of bytes (Err refusal) = []

-- the bytes that a call of the system wrote on the connection of this number
abbrev pub written_by : ℕ → Asked → List ℕ
written_by c (asked.Prepared answer) = []
written_by c (asked.Clock answer) = []
written_by c (asked.Polled wait answer ready) = []
written_by c (asked.Paused wait answer) = []
written_by c (asked.Resolved host port answer) = []
written_by c (asked.Listened place answer) = []
written_by c (asked.Bound place answer) = []
written_by c (asked.Accepted number answer) = []
written_by c (asked.Dialled number to answer) = []
written_by c (asked.Awaited wait answer) = []
written_by c (asked.Connected number answer) = []
written_by c (asked.Attached number answer) = []
written_by c (asked.Read number answer) = []
written_by c (asked.Wrote number bytes answer) = if nat_eq number c then taken_of bytes answer else []
written_by c (asked.ShutDown number answer) = []
written_by c (asked.GivenUp number) = []
written_by c (asked.Received answer) = []
written_by c (asked.SentTo to bytes answer) = []

-- all bytes that were written on that number, in order
abbrev pub written_on : ℕ → List Asked → List ℕ
written_on c [] = []
written_on c (call ∷ calls) = written_by c call ++ written_on c calls

-- the same, where it is recorded
abbrev pub taken_on : ℕ → Option (List Asked) → Option (List ℕ)
taken_on c told = option_map (written_on c) told

-- A write took a front of these bytes, or nothing where it was refused.
abbrev pub Takes : {E : Type 0} → Option (List ℕ) → Option (List ℕ) → Result ℕ E → List ℕ → Type 0
Takes taken taken_after (Ok count) bytes = Continues taken taken_after (take count bytes)
Takes taken taken_after (Err refusal) bytes = Continues taken taken_after []

-- A message comes behind what was kept: a front of both together was taken, each byte once and in order, and what
-- comes after that front is kept.
abbrev pub SentOn : Option (List ℕ) → List ℕ → List ℕ → Option (List ℕ) → List ℕ → Type 0
SentOn taken kept message taken_after kept_after =
    (front : List ℕ) × (kept ++ message ≡ front ++ kept_after) × Continues taken taken_after front
