use Rattle.std.proofs.Common.{refl}
use Rattle.tm_derive.specs.Given.{most_below as most_things_below}
use Rattle.tm_derive.proofs.making.most_below.Goals as goal

pub returns : goal.returns
unfolding most_things_below
returns c = refl
