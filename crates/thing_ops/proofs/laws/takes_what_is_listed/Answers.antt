use Rattle.thing_ops.proofs.VerbNames.{taken_exactly}
use Rattle.thing_ops.proofs.laws.takes_what_is_listed.Goals as goal

pub returns : goal.returns
returns c = taken_exactly
