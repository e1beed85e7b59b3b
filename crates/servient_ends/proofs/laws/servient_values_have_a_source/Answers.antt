-- The law is a lemma.
use Rattle.servient_ends.proofs.EndsLaws.{servient_values_have_a_source}
use Rattle.servient_ends.proofs.laws.servient_values_have_a_source.Goals as goal

pub returns : goal.returns
returns c = servient_values_have_a_source
