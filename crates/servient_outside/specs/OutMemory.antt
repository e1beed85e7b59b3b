-- The view of an output in memory, whose room is fixed.
use Rattle.std.specs.Prelude.{ℕ, ◌+◌, ◌-◌, ◌≤◌, List, Option, Some, length}
use Rattle.servient_outside.specs.declared.calls.CallCount.{CallCount}
use Rattle.servient_outside.specs.declared.out_memory.OutMemory.{OutMemory}
use Rattle.servient_outside.specs.CallCount.{FailsNext, where_none_fails}
use Rattle.servient_outside.specs.Out.{OutSeen}

-- its calls of `put`
abbrev pub calls_of : OutMemory → CallCount
calls_of o = o.calls

-- the bytes written
abbrev pub written_bytes : OutMemory → List ℕ
written_bytes o = o.bytes.items

-- the number of bytes for which it has room, those that are written among them
abbrev pub room_of : OutMemory → ℕ
room_of o = o.room

-- the number of writes that failed
abbrev pub fault_count : OutMemory → ℕ
fault_count o = o.faults

-- The next call takes this piece: it isn't one of those that fail, and the piece fits into what is left.
abbrev pub Takes : OutMemory → List ℕ → Type 0
Takes o piece = ¬ FailsNext (calls_of o) × (length (written_bytes o) + length piece ≤ room_of o)

-- for how many bytes more it has room, where no write fails that fits
abbrev pub room_left : OutMemory → Option ℕ
room_left o = where_none_fails (calls_of o).fails (Some (room_of o - length (written_bytes o)))

-- all that is seen of it
abbrev pub seen_of : OutMemory → OutSeen
seen_of o = record { written = Some (written_bytes o); faults = fault_count o; room = room_left o }
