use Rattle.consumer_laws.proofs.laws.outputs_are_taken.Goals as goal
use Rattle.consumer_laws.proofs.Outputs.{taken}

pub returns : goal.returns
returns c = taken
