-- The law is a lemma.
use Rattle.servient_world.proofs.ExampleLaws.{someone_acts}
use Rattle.servient_world.proofs.laws.someone_acts.Goals as goal

pub returns : goal.returns
returns c = someone_acts
