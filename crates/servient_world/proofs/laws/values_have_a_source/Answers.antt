-- The law is a lemma.
use Rattle.servient_world.proofs.SourceLaws.{values_have_a_source}
use Rattle.servient_world.proofs.laws.values_have_a_source.Goals as goal

pub returns : goal.returns
returns c = values_have_a_source
