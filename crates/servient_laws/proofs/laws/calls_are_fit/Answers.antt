use Rattle.servient_laws.proofs.RunCalls.{calls_are_fit}
use Rattle.servient_laws.proofs.laws.calls_are_fit.Goals as goal

pub returns : goal.returns
returns c = calls_are_fit
