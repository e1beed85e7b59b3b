use Rattle.neighbour_laws.proofs.laws.deeds_are_seen.Goals as goal
use Rattle.neighbour_laws.proofs.DeedLaws.{deeds_are_seen}

pub returns : goal.returns
returns c = deeds_are_seen
