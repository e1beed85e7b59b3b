-- The law is a lemma.
use Rattle.coap_bind.proofs.TreatingLaws.{all_are_treated}
use Rattle.coap_bind.proofs.laws.all_are_treated.Goals as goal

pub returns : goal.returns
returns c = all_are_treated
