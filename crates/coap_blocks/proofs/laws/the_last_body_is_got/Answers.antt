-- The law is a lemma.
use Rattle.coap_blocks.proofs.BodyLaws.{the_last_body_is_got}
use Rattle.coap_blocks.proofs.laws.the_last_body_is_got.Goals as goal

pub returns : goal.returns
returns c = the_last_body_is_got
