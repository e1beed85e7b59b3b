-- The law is a lemma.
use Rattle.coap_exchange.proofs.HistoryLaws.{living_exchanges_differ}
use Rattle.coap_exchange.proofs.laws.living_exchanges_differ.Goals as goal

pub returns : goal.returns
returns c = living_exchanges_differ
