use Rattle.tm_resolve.proofs.FewThings.{few_things}
use Rattle.tm_resolve.proofs.laws.things_are_few.Goals as goal

pub returns : goal.returns
returns c = few_things
