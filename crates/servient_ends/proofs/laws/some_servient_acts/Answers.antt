-- The law is a lemma.
use Rattle.servient_ends.proofs.ExampleLaws.{some_servient_acts}
use Rattle.servient_ends.proofs.laws.some_servient_acts.Goals as goal

pub returns : goal.returns
returns c = some_servient_acts
