use Rattle.std.proofs.Common.{◌≡◌, drop}
use Rattle.servient_plan.specs.Plan.{slot_entry}
use Rattle.servient_plan.proofs.PlanLists.{after, read_as}
use Rattle.servient_plan.proofs.values.slots_among.Given as goal

abbrev pub invariant-loop-entry : goal.invariant-loop-entry
invariant-loop-entry l = read_as slot_entry l.entry-items ≡ after l.slots (read_as slot_entry (drop l.entry-index l.entry-items))
