-- The law is a lemma.
use Rattle.servient_world.proofs.ReadRows.{reads_are_of_one_act}
use Rattle.servient_world.proofs.laws.reads_are_of_one_act.Goals as goal

pub returns : goal.returns
returns c = reads_are_of_one_act
