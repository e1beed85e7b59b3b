use Rattle.servient_core.proofs.RunHistories.{each_run_has_a_history, serving_has_a_history}
use Rattle.servient_core.proofs.laws.each_run_has_a_history.Goals as goal

pub returns-clause-runs : goal.returns-clause-runs
returns-clause-runs c = each_run_has_a_history

pub returns-clause-serving : goal.returns-clause-serving
returns-clause-serving c = serving_has_a_history
