-- The law is a lemma.
use Rattle.coap_blocks.proofs.BodyLaws.{bodies_follow_the_puts}
use Rattle.coap_blocks.proofs.laws.bodies_follow_the_puts.Goals as goal

pub returns : goal.returns
returns c = bodies_follow_the_puts
