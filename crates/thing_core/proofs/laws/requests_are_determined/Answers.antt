use Rattle.thing_core.proofs.DeterminedLaws.{determined}
use Rattle.thing_core.proofs.laws.requests_are_determined.Goals as goal

pub returns : goal.returns
returns c = determined
