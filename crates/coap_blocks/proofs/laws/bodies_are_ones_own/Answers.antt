-- The law is a lemma.
use Rattle.coap_blocks.proofs.BodyLaws.{bodies_are_ones_own}
use Rattle.coap_blocks.proofs.laws.bodies_are_ones_own.Goals as goal

pub returns : goal.returns
returns c = bodies_are_ones_own
