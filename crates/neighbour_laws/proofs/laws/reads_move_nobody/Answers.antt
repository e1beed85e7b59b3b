use Rattle.neighbour_laws.proofs.laws.reads_move_nobody.Goals as goal
use Rattle.neighbour_laws.proofs.RestLaws.{reads_move_nobody}

pub returns : goal.returns
returns c = reads_move_nobody
