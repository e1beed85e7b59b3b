-- The law is a lemma.
use Rattle.coap_exchange.proofs.HistoryLaws.{admitted_once}
use Rattle.coap_exchange.proofs.laws.admitted_once.Goals as goal

pub returns : goal.returns
returns c = admitted_once
