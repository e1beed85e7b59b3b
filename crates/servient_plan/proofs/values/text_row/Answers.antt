-- It is one that the row takes.
use Rattle.servient_plan.proofs.PlanNames.{is_taken}
use Rattle.servient_plan.proofs.values.text_row.Goals as goal

pub returns-clause-taken : goal.returns-clause-taken
returns-clause-taken c = is_taken c.args.member _ _ c.in_ok-text.text c.row.result c.in_ok-text.ensures c.row.ensures
