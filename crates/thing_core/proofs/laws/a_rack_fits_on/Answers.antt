use Rattle.thing_core.proofs.ThingLaws.{fits_on}
use Rattle.thing_core.proofs.laws.a_rack_fits_on.Goals as goal

pub returns : goal.returns
returns c = fits_on
