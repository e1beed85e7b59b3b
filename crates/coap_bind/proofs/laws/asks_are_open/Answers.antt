-- The law is a lemma.
use Rattle.coap_bind.proofs.OpenLaws.{asks_are_open}
use Rattle.coap_bind.proofs.laws.asks_are_open.Goals as goal

pub returns : goal.returns
returns c = asks_are_open
