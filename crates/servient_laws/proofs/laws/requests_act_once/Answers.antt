use Rattle.servient_laws.proofs.TransferLaws.{requests_act_once}
use Rattle.servient_laws.proofs.laws.requests_act_once.Goals as goal

pub returns : goal.returns
returns c = requests_act_once
