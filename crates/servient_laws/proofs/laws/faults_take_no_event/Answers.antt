use Rattle.servient_laws.proofs.UntouchedLaws.{faults_take_no_event}
use Rattle.servient_laws.proofs.laws.faults_take_no_event.Goals as goal

pub returns : goal.returns
returns c = faults_take_no_event
