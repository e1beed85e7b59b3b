use Rattle.http_wire.proofs.MoreOfAStream.{front_stays}
use Rattle.http_wire.proofs.laws.front_is_stable.Goals as goal

pub returns : goal.returns
returns c = front_stays
