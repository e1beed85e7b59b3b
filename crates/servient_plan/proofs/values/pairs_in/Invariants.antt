use Rattle.std.proofs.Common.{◌≡◌, drop}
use Rattle.servient_plan.specs.Plan.{two_texts}
use Rattle.servient_plan.proofs.PlanLists.{after, read_as}
use Rattle.servient_plan.proofs.values.pairs_in.Given as goal

abbrev pub invariant-loop-entry : goal.invariant-loop-entry
invariant-loop-entry l =
    read_as (two_texts l.fn.first l.fn.second) l.entries ≡ after l.pairs.items (read_as (two_texts l.fn.first l.fn.second) (drop l.entry-index l.entries))
