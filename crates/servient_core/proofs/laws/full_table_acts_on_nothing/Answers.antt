use Rattle.servient_core.proofs.PromiseLaws.{full_table_acts_on_nothing}
use Rattle.servient_core.proofs.laws.full_table_acts_on_nothing.Goals as goal

pub returns : goal.returns
returns c = full_table_acts_on_nothing
