-- The law is a lemma.
use Rattle.servient_ends.proofs.EndsLaws.{servient_answers_once}
use Rattle.servient_ends.proofs.laws.servient_answers_once.Goals as goal

pub returns : goal.returns
returns c = servient_answers_once
