-- The law is a lemma.
use Rattle.servient_ends.proofs.EndsLaws.{servient_values_never_go_back}
use Rattle.servient_ends.proofs.laws.servient_values_never_go_back.Goals as goal

pub returns : goal.returns
returns c = servient_values_never_go_back
