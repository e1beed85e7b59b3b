use Rattle.servient_laws.proofs.SectionRuns.{sections_keep_promises}
use Rattle.servient_laws.proofs.laws.sections_keep_promises.Goals as goal

pub returns : goal.returns
returns c = sections_keep_promises
