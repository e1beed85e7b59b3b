use Rattle.coap_msg.proofs.BlockValues.{blocks_are_read_again as law}
use Rattle.coap_msg.proofs.laws.blocks_are_read_again.Goals as goal

pub returns : goal.returns
returns c = law
