use Rattle.tm_resolve.proofs.LinksStay.{links_stay}
use Rattle.tm_resolve.proofs.laws.links_are_the_models_own.Goals as goal

pub returns : goal.returns
returns c = links_stay
