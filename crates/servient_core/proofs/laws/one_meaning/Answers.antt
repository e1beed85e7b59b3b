use Rattle.servient_core.proofs.MeaningLaws.{is_written, one_meaning}
use Rattle.servient_core.proofs.laws.one_meaning.Goals as goal

pub returns-clause-written : goal.returns-clause-written
returns-clause-written c = is_written

pub returns-clause-same : goal.returns-clause-same
returns-clause-same c = one_meaning
