use Rattle.neighbour_laws.proofs.laws.neighbours_do_not_matter.Goals as goal
use Rattle.neighbour_laws.proofs.NeighbourLaws.{neighbours_do_not_matter}

pub returns : goal.returns
returns c = neighbours_do_not_matter
