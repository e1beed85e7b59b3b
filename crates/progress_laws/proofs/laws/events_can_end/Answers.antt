use Rattle.progress_laws.proofs.GoingEvents.{events_can_end}
use Rattle.progress_laws.proofs.laws.events_can_end.Goals as goal

pub returns : goal.returns
returns c = events_can_end
