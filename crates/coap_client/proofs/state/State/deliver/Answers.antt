-- Bytes spell a message, or have a fault.
use Rattle.std.proofs.Common.{refl}
use Rattle.coap_msg.specs.MessageOf.{message_of}
use Rattle.coap_client.specs.Exchange.{of_message, of_fault}
use Rattle.coap_client.proofs.state.State.deliver.Goals as goal

pub returns-in-Ok-clause-ok : goal.returns-in-Ok-clause-ok
returns-in-Ok-clause-ok c = of_message (message_of c.in-Ok.message) c.in-Ok.ensures.ok c.receive.ensures.reply c.receive.ensures.news c.receive.ensures.after

pub returns-in-Err-clause-ok : goal.returns-in-Err-clause-ok
returns-in-Err-clause-ok c = of_fault _ c.in-Err.ensures.fault c.put_rejection.ensures refl refl
