use Rattle.servient_core.proofs.PromiseLaws.{duplicates_act_on_nothing}
use Rattle.servient_core.proofs.laws.duplicates_act_on_nothing.Goals as goal

pub returns : goal.returns
returns c = duplicates_act_on_nothing
