-- The law is a lemma.
use Rattle.servient_ends.proofs.RunLaws.{servient_runs}
use Rattle.servient_ends.proofs.laws.servient_runs.Goals as goal

pub returns : goal.returns
returns c = servient_runs
