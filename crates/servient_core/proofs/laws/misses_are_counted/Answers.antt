use Rattle.servient_core.proofs.MissLaws.{misses_are_counted}
use Rattle.servient_core.proofs.laws.misses_are_counted.Goals as goal

pub returns : goal.returns
returns c = misses_are_counted
