use Rattle.std.proofs.Common.{◌≤◌, ◌+◌, drop, length, vec_len, vec_capacity}
use Rattle.thing_core.specs.Performing.{AllStand, room_of_all}
use Rattle.thing_core.proofs.ReadLoop.{ReadSoFar}
use Rattle.thing_core.proofs.reading.read_fields.Given as goal

abbrev pub invariant-loop-field : goal.invariant-loop-field
invariant-loop-field g l =
    ReadSoFar l.fields (drop l.field-index l.fields) l.text.items l.initial.machine l.machine (g.R.Handlers.slots l.initial.rack) (g.R.Handlers.slots l.rack)
    × AllStand (length (g.R.Handlers.slots l.rack)) (drop l.field-index l.fields)
    × (vec_len l.text + room_of_all (drop l.field-index l.fields) ≤ vec_capacity l.text + 1)
