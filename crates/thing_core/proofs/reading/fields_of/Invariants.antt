use Rattle.std.proofs.Common.{◌≡◌, ◌++◌, drop}
use Rattle.thing_core.proofs.PlacedLists.{readable_of}
use Rattle.thing_core.proofs.reading.fields_of.Given as goal

abbrev pub invariant-loop-index : goal.invariant-loop-index
invariant-loop-index l = l.fields.items ++ readable_of (drop l.index l.thing.affordances) ≡ readable_of l.thing.affordances
