-- The law is a lemma.
use Rattle.coap_bind.proofs.DuplicateLaws.{duplicates_change_nothing}
use Rattle.coap_bind.proofs.laws.duplicates_change_nothing.Goals as goal

pub returns : goal.returns
returns c = duplicates_change_nothing
