use Rattle.servient_laws.proofs.UntouchedLaws.{handlers_stay}
use Rattle.servient_laws.proofs.laws.handlers_stay.Goals as goal

pub returns : goal.returns
returns c = handlers_stay
