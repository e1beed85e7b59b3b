-- The law is a lemma.
use Rattle.coap_bind.proofs.HistoryLaws.{duplicates_ask_nothing}
use Rattle.coap_bind.proofs.laws.duplicates_ask_nothing.Goals as goal

pub returns : goal.returns
returns c = duplicates_ask_nothing
