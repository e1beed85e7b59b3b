use Rattle.coap_observe.proofs.CallLaws.{one_pair}
use Rattle.coap_observe.proofs.laws.pairs_differ.Goals as goal

pub returns : goal.returns
returns c = one_pair
