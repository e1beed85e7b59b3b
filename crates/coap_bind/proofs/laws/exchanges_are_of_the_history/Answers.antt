-- The law is a lemma.
use Rattle.coap_bind.proofs.HistoryLaws.{exchanges_are_of_the_history}
use Rattle.coap_bind.proofs.laws.exchanges_are_of_the_history.Goals as goal

pub returns : goal.returns
returns c = exchanges_are_of_the_history
