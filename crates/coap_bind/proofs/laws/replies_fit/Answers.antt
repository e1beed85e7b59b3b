-- The law is a lemma.
use Rattle.coap_bind.proofs.LengthLaws.{replies_fit}
use Rattle.coap_bind.proofs.laws.replies_fit.Goals as goal

pub returns : goal.returns
returns c = replies_fit
