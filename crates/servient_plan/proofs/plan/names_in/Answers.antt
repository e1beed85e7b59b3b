-- The segment is one that its row takes.
use Rattle.servient_plan.proofs.PlanNames.{root_is_plain}
use Rattle.servient_plan.proofs.plan.names_in.Goals as goal

pub returns-clause-segment : goal.returns-clause-segment
returns-clause-segment c = root_is_plain c.in_ok-segment.segment c.in_ok-segment.ensures.taken
