-- The law is a lemma.
use Rattle.coap_client.proofs.HistoryLaws.{taken_from_the_asked}
use Rattle.coap_client.proofs.laws.taken_from_the_asked.Goals as goal

pub returns : goal.returns
returns c = taken_from_the_asked
