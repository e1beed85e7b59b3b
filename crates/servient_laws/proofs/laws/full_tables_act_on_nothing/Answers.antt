use Rattle.servient_laws.proofs.RequestLaws.{full_tables_act_on_nothing}
use Rattle.servient_laws.proofs.laws.full_tables_act_on_nothing.Goals as goal

pub returns : goal.returns
returns c = full_tables_act_on_nothing
