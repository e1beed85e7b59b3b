use Rattle.servient_laws.proofs.TransferLaws.{later_blocks_are_of_one_act}
use Rattle.servient_laws.proofs.laws.later_blocks_are_of_one_act.Goals as goal

pub returns : goal.returns
returns c = later_blocks_are_of_one_act
