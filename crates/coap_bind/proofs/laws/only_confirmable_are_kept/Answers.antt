-- The law is a lemma.
use Rattle.coap_bind.proofs.DuplicateLaws.{only_confirmable_are_kept}
use Rattle.coap_bind.proofs.laws.only_confirmable_are_kept.Goals as goal

pub returns : goal.returns
returns c = only_confirmable_are_kept
