-- The law is a lemma.
use Rattle.servient_world.proofs.ExampleLaws.{someone_takes_a_value}
use Rattle.servient_world.proofs.laws.someone_takes_a_value.Goals as goal

pub returns : goal.returns
returns c = someone_takes_a_value
