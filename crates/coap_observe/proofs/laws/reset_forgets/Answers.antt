use Rattle.coap_observe.proofs.CallLaws.{forgotten, stays_absent, nothing_for}
use Rattle.coap_observe.proofs.laws.reset_forgets.Goals as goal

pub returns : goal.returns
returns c = record { forgets = forgotten; stays = stays_absent; nothing = nothing_for }
