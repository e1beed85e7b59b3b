use Rattle.coap_msg.proofs.FaultLaws.{no_fault_of_message}
use Rattle.coap_msg.proofs.laws.no_fault.Goals as goal

pub returns : goal.returns
returns c = no_fault_of_message
