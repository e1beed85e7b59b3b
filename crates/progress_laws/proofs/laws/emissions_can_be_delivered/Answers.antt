use Rattle.progress_laws.proofs.GoingEvents.{emissions_can_be_delivered}
use Rattle.progress_laws.proofs.laws.emissions_can_be_delivered.Goals as goal

pub returns : goal.returns
returns c = emissions_can_be_delivered
