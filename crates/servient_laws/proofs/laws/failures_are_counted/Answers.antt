-- The law is a lemma.
use Rattle.servient_laws.proofs.FailureLaws.{failures_are_counted}
use Rattle.servient_laws.proofs.laws.failures_are_counted.Goals as goal

pub returns : goal.returns
returns c = failures_are_counted
