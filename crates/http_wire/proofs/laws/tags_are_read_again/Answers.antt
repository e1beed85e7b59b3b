use Rattle.http_wire.proofs.EntityTags.{tags_are_read_again}
use Rattle.http_wire.proofs.laws.tags_are_read_again.Goals as goal

pub returns : goal.returns
returns c = tags_are_read_again
