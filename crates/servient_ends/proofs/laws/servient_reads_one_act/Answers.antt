-- The law is a lemma.
use Rattle.servient_ends.proofs.EndsLaws.{servient_reads_one_act}
use Rattle.servient_ends.proofs.laws.servient_reads_one_act.Goals as goal

pub returns : goal.returns
returns c = servient_reads_one_act
