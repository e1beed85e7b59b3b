-- The law is a lemma.
use Rattle.coap_bind.proofs.RepeatedLaws.{only_the_first_reply_is_repeated}
use Rattle.coap_bind.proofs.laws.only_the_first_reply_is_repeated.Goals as goal

pub returns : goal.returns
returns c = only_the_first_reply_is_repeated
