use Rattle.servient_core.proofs.LinkLaws.{links_name_each_thing}
use Rattle.servient_core.proofs.laws.links_name_each_thing.Goals as goal

pub returns : goal.returns
returns c = links_name_each_thing
