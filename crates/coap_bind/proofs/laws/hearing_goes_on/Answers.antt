-- The law is a lemma.
use Rattle.coap_bind.proofs.ArrivalLaws.{hearing_goes_on}
use Rattle.coap_bind.proofs.laws.hearing_goes_on.Goals as goal

pub returns : goal.returns
returns c = hearing_goes_on
