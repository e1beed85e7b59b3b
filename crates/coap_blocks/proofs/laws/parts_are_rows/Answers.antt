-- The law is a lemma.
use Rattle.coap_blocks.proofs.PartLaws.{parts_are_rows}
use Rattle.coap_blocks.proofs.laws.parts_are_rows.Goals as goal

pub returns : goal.returns
returns c = parts_are_rows
