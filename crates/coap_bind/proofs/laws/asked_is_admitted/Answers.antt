-- The law is a lemma.
use Rattle.coap_bind.proofs.ArrivalLaws.{asked_is_admitted}
use Rattle.coap_bind.proofs.laws.asked_is_admitted.Goals as goal

pub returns : goal.returns
returns c = asked_is_admitted
