-- The law is a lemma.
use Rattle.coap_client.proofs.HistoryLaws.{ids_rest}
use Rattle.coap_client.proofs.laws.ids_rest.Goals as goal

pub returns : goal.returns
returns c = ids_rest
