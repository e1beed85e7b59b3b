-- The law is a lemma.
use Rattle.servient_ends.proofs.ReadExample.{some_reads_end}
use Rattle.servient_ends.proofs.laws.some_reads_end.Goals as goal

pub returns : goal.returns
returns c = some_reads_end
