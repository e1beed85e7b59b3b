use Rattle.std.proofs.Common.{◌≡◌, ◌+◌, drop}
use Rattle.thing_core.specs.Performing.{room_of_all}
use Rattle.thing_core.proofs.reading.size_of_all.Given as goal

abbrev pub invariant-loop-field : goal.invariant-loop-field
invariant-loop-field l = l.size + room_of_all (drop l.field-index l.fields) ≡ room_of_all l.fields + 2
