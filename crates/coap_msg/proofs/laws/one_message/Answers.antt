use Rattle.coap_msg.proofs.Messages.{at_most_one_message}
use Rattle.coap_msg.proofs.laws.one_message.Goals as goal

pub returns : goal.returns
returns c = at_most_one_message
