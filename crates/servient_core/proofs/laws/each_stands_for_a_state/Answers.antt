use Rattle.servient_core.proofs.PartLaws.{stands_for_some}
use Rattle.servient_core.proofs.laws.each_stands_for_a_state.Goals as goal

pub returns : goal.returns
returns c = stands_for_some
