-- The law is a lemma.
use Rattle.coap_bind.proofs.SpendLaws.{requests_without_blocks_act}
use Rattle.coap_bind.proofs.laws.requests_without_blocks_act.Goals as goal

pub returns : goal.returns
returns c = requests_without_blocks_act
