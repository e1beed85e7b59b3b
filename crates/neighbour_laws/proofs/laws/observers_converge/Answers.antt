use Rattle.neighbour_laws.proofs.laws.observers_converge.Goals as goal
use Rattle.neighbour_laws.proofs.ConvergeLaws.{observers_converge}

pub returns : goal.returns
returns c = observers_converge
