-- The law is a lemma.
use Rattle.servient_world.proofs.WriteRows.{writes_are_one_act}
use Rattle.servient_world.proofs.laws.writes_are_one_act.Goals as goal

pub returns : goal.returns
returns c = writes_are_one_act
