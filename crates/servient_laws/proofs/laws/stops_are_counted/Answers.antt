use Rattle.servient_laws.proofs.StopLaws.{stops_are_counted}
use Rattle.servient_laws.proofs.laws.stops_are_counted.Goals as goal

pub returns : goal.returns
returns c = stops_are_counted
