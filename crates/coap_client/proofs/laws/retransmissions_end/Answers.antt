-- The law is a lemma.
use Rattle.coap_client.proofs.HistoryLaws.{retransmissions_end}
use Rattle.coap_client.proofs.laws.retransmissions_end.Goals as goal

pub returns : goal.returns
returns c = retransmissions_end
