use Rattle.std.proofs.Common.{◌≡◌, ◌≤◌, ◌*◌, ◌^◌, ℕ, List, take}
use Rattle.thing_handler.specs.Handler.{Seen}
use Rattle.servient_cli.specs.Counting.{turns_kept}
use Rattle.servient_cli.proofs.counting.turns_kept.Given as goal

-- the turns of the slots so far; each slot has fewer than 2 ^ 64
pub record IsCounted (i total : ℕ) (slots : List Seen) : Type 0 where
  pub counted : total ≡ turns_kept (take i slots)
  pub few : total ≤ i * 2 ^ 64

abbrev pub invariant-loop-slot : goal.invariant-loop-slot
invariant-loop-slot g l = IsCounted l.slot l.total (g.R.Handlers.slots l.rack)
