use Rattle.std.proofs.Common.{◌≡◌, take, map}
use Rattle.servient_script.specs.Merging.{turns_after}
use Rattle.servient_script.proofs.turns.turns_since.Given as goal

abbrev pub invariant-loop-slot : goal.invariant-loop-slot
invariant-loop-slot g l = map (λ turns. turns.now) l.since.items ≡ take l.slot (turns_after l.counts (g.R.Handlers.slots l.rack))
