use Rattle.thing_core.proofs.VersionLaws.{same_tag}
use Rattle.thing_core.proofs.laws.one_tag_is_one_text.Goals as goal

pub returns : goal.returns
returns c = same_tag
