use Rattle.servient_laws.proofs.TransferLaws.{joined_bodies_act_once}
use Rattle.servient_laws.proofs.laws.joined_bodies_act_once.Goals as goal

pub returns : goal.returns
returns c = joined_bodies_act_once
