use Rattle.std.proofs.Common.{◌≡◌, take}
use Rattle.servient_script.specs.Merging.{counts_of}
use Rattle.servient_script.proofs.turns.turn_counts.Given as goal

abbrev pub invariant-loop-slot : goal.invariant-loop-slot
invariant-loop-slot g l = l.counts.items ≡ counts_of (take l.slot (g.R.Handlers.slots l.rack))
