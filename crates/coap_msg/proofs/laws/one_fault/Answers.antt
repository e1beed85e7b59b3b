use Rattle.coap_msg.proofs.OneFault.{at_most_one_fault}
use Rattle.coap_msg.proofs.laws.one_fault.Goals as goal

pub returns : goal.returns
returns c = at_most_one_fault
