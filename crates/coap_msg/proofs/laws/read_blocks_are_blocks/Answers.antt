use Rattle.coap_msg.proofs.BlockValues.{read_blocks_are_blocks as law}
use Rattle.coap_msg.proofs.laws.read_blocks_are_blocks.Goals as goal

pub returns : goal.returns
returns c = law
