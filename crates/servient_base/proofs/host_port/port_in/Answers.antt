use Rattle.std.proofs.Common.{arith}
use Rattle.servient_base.proofs.PortTexts.{port_is}
use Rattle.servient_base.proofs.host_port.port_in.Goals as goal

pub returns-in-Some : goal.returns-in-Some
returns-in-Some c = port_is c.args.text.now c.in-Some.port (omega arith) (omega (arith, c.in-Some.ensures.ok.1, c.from.ensures)) c.in-Some.ensures.ok.0
