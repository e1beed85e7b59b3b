-- The law is a lemma.
use Rattle.coap_exchange.proofs.HistoryLaws.{tables_follow_the_history}
use Rattle.coap_exchange.proofs.laws.tables_follow_the_history.Goals as goal

pub returns : goal.returns
returns c = tables_follow_the_history
