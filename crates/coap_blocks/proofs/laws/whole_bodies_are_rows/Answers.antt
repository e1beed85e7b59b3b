-- The law is a lemma.
use Rattle.coap_blocks.proofs.PartLaws.{whole_bodies_are_rows}
use Rattle.coap_blocks.proofs.laws.whole_bodies_are_rows.Goals as goal

pub returns : goal.returns
returns c = whole_bodies_are_rows
