use Rattle.tm_resolve.proofs.EnoughRoom.{room_is_enough as enough}
use Rattle.tm_resolve.proofs.laws.room_is_enough.Goals as goal

pub returns : goal.returns
returns c = enough
