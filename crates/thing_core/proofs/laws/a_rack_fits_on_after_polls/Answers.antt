use Rattle.thing_core.proofs.ThingLaws.{fits_on_after_polls}
use Rattle.thing_core.proofs.laws.a_rack_fits_on_after_polls.Goals as goal

pub returns : goal.returns
returns c = fits_on_after_polls
