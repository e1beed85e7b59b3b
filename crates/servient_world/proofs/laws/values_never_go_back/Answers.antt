-- The law is a lemma.
use Rattle.servient_world.proofs.TakenLaws.{values_never_go_back}
use Rattle.servient_world.proofs.laws.values_never_go_back.Goals as goal

pub returns : goal.returns
returns c = values_never_go_back
