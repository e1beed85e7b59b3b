-- the time of the moves before `index` is within bounds
use Rattle.std.proofs.Common.{◌≡◌, ◌≤◌, ◌^◌, take}
use Rattle.servient_rehearsal.specs.Moves.{total_passed}
use Rattle.servient_rehearsal.proofs.moves.are_short.Given as goal

abbrev pub invariant-loop-index : goal.invariant-loop-index
invariant-loop-index l = (l.total ≡ total_passed (take l.index l.moves.items)) × (l.total ≤ 10 ^ 15)
