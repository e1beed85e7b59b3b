-- The law is a lemma.
use Rattle.servient_ends.proofs.EndsLaws.{servient_acts_once}
use Rattle.servient_ends.proofs.laws.servient_acts_once.Goals as goal

pub returns : goal.returns
returns c = servient_acts_once
