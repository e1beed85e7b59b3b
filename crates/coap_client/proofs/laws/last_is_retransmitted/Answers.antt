-- The law is a lemma.
use Rattle.coap_client.proofs.RequestLaws.{last_is_retransmitted}
use Rattle.coap_client.proofs.laws.last_is_retransmitted.Goals as goal

pub returns : goal.returns
returns c = last_is_retransmitted
