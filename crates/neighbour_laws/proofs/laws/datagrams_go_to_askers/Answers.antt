use Rattle.neighbour_laws.proofs.laws.datagrams_go_to_askers.Goals as goal
use Rattle.neighbour_laws.proofs.AskerLaws.{datagrams_go_to_askers}

pub returns : goal.returns
returns c = datagrams_go_to_askers
