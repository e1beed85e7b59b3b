-- The law is a lemma.
use Rattle.coap_client.proofs.RequestLaws.{ids_differ}
use Rattle.coap_client.proofs.laws.ids_differ.Goals as goal

pub returns : goal.returns
returns c = ids_differ
