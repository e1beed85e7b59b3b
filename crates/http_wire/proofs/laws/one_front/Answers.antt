use Rattle.http_wire.proofs.OneFront.{at_most_one_front}
use Rattle.http_wire.proofs.laws.one_front.Goals as goal

pub returns : goal.returns
returns c = at_most_one_front
