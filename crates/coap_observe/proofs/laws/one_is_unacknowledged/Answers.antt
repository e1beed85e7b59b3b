use Rattle.coap_observe.proofs.CallLaws.{one_busy}
use Rattle.coap_observe.proofs.laws.one_is_unacknowledged.Goals as goal

pub returns : goal.returns
returns c = one_busy
