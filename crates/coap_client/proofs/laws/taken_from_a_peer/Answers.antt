-- The law is a lemma.
use Rattle.coap_client.proofs.HistoryLaws.{taken_from_a_peer}
use Rattle.coap_client.proofs.laws.taken_from_a_peer.Goals as goal

pub returns : goal.returns
returns c = taken_from_a_peer
