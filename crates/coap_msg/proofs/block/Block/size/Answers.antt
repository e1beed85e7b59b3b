use Rattle.std.proofs.Common.{arith}
use Rattle.coap_msg.proofs.BlockValues.{sizes}
use Rattle.coap_msg.proofs.block.Block.size.Goals as goal

pub returns-clause-size : goal.returns-clause-size
returns-clause-size c = (sizes c.args.self.now.szx c.requires.szx).0

pub returns-clause-least : goal.returns-clause-least
returns-clause-least c = let it = sizes c.args.self.now.szx c.requires.szx in omega (arith, it.0, it.1)

pub returns-clause-most : goal.returns-clause-most
returns-clause-most c = let it = sizes c.args.self.now.szx c.requires.szx in omega (arith, it.0, it.2)
