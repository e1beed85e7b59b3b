use Rattle.thing_core.proofs.VersionLaws.{no_write_is_lost}
use Rattle.thing_core.proofs.laws.no_write_is_lost.Goals as goal

pub returns : goal.returns
returns c = no_write_is_lost
