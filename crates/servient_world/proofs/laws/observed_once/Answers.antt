-- The law is a lemma.
use Rattle.servient_world.proofs.EndLaws.{observed_once}
use Rattle.servient_world.proofs.laws.observed_once.Goals as goal

pub returns : goal.returns
returns c = observed_once
