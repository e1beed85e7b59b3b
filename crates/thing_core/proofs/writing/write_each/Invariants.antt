use Rattle.std.proofs.Common.{◌≡◌, ◌≤◌, length}
use Rattle.std.specs.Vec.Iter.{into_iter_items, into_iter_len}
use Rattle.thing_core.specs.Performing.{InputsFit}
use Rattle.thing_core.proofs.WriteLoop.{WrittenSoFar}
use Rattle.thing_core.proofs.writing.write_each.Given as goal

abbrev pub invariant-loop-input : goal.invariant-loop-input
invariant-loop-input g l =
    WrittenSoFar l.fn.inputs.items (into_iter_items l.input-iterator) l.initial.machine l.machine (g.R.Handlers.slots l.initial.rack) (g.R.Handlers.slots l.rack)
    × InputsFit (length (g.R.Handlers.slots l.rack)) (into_iter_items l.input-iterator)
    × (length (into_iter_items l.input-iterator) ≤ l.machine.room)
    × (into_iter_len l.input-iterator ≡ length (into_iter_items l.input-iterator))
