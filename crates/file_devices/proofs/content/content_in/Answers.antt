use Rattle.file_devices.proofs.Looks.{whole_found}
use Rattle.file_devices.proofs.content.content_in.Goals as goal

pub returns-in-Whole-clause-found : goal.returns-in-Whole-clause-found
returns-in-Whole-clause-found g c = whole_found _ _ _ _ c.in-Whole.ensures
