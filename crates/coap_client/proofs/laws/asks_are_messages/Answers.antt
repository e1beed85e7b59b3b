-- The law is a lemma.
use Rattle.coap_client.proofs.RequestLaws.{asks_are_messages}
use Rattle.coap_client.proofs.laws.asks_are_messages.Goals as goal

pub returns : goal.returns
returns c = asks_are_messages
