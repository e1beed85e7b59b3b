-- The moves before `index` were played, and the others may be.
use Rattle.std.proofs.Common.{take}
use Rattle.servient_rehearsal.specs.Playing.{kept}
use Rattle.servient_rehearsal.proofs.LoopLaws.{PlaysOn}
use Rattle.servient_rehearsal.proofs.rehearsal.play_all.Given as goal

abbrev pub invariant-loop-index : goal.invariant-loop-index
invariant-loop-index g l =
    PlaysOn l.initial.servient.exposed.site l.moves.items l.index (kept l.initial.servient l.initial.client l.initial.notes) (kept l.servient l.client l.notes)
    (g.R.Handlers.slots l.initial.rack) (g.R.Handlers.slots l.rack)
