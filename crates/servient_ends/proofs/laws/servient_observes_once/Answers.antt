-- The law is a lemma.
use Rattle.servient_ends.proofs.EndsLaws.{servient_observes_once}
use Rattle.servient_ends.proofs.laws.servient_observes_once.Goals as goal

pub returns : goal.returns
returns c = servient_observes_once
