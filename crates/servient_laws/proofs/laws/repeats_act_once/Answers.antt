use Rattle.servient_laws.proofs.RequestLaws.{repeats_act_once}
use Rattle.servient_laws.proofs.laws.repeats_act_once.Goals as goal

pub returns : goal.returns
returns c = repeats_act_once
