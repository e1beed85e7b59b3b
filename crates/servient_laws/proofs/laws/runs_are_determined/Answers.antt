use Rattle.servient_laws.proofs.AlikeRuns.{runs_are_determined}
use Rattle.servient_laws.proofs.laws.runs_are_determined.Goals as goal

pub returns : goal.returns
returns c = runs_are_determined
