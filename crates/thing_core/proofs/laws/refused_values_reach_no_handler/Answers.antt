use Rattle.thing_core.proofs.ThingLaws.{schema_first}
use Rattle.thing_core.proofs.laws.refused_values_reach_no_handler.Goals as goal

pub returns : goal.returns
returns c = schema_first
