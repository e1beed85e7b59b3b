use Rattle.servient_laws.proofs.PayloadLaws.{payloads_are_of_outcomes}
use Rattle.servient_laws.proofs.laws.payloads_are_of_outcomes.Goals as goal

pub returns : goal.returns
returns c = payloads_are_of_outcomes
