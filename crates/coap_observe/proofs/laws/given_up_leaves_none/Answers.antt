use Rattle.coap_observe.proofs.CallLaws.{given_up_is_gone}
use Rattle.coap_observe.proofs.laws.given_up_leaves_none.Goals as goal

pub returns : goal.returns
returns c = given_up_is_gone
