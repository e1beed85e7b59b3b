use Rattle.consumer_laws.proofs.laws.consuming_does_what_is_described.Goals as goal
use Rattle.consumer_laws.proofs.Consuming.{consuming}

pub returns : goal.returns
returns c = consuming
