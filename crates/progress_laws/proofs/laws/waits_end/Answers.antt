use Rattle.progress_laws.proofs.WaitLaws.{waits_end}
use Rattle.progress_laws.proofs.laws.waits_end.Goals as goal

pub returns : goal.returns
returns c = waits_end
