use Rattle.thing_ops.proofs.InvocationIds.{spelled_exactly}
use Rattle.thing_ops.proofs.laws.invocations_are_spelled.Goals as goal

pub returns : goal.returns
returns c = spelled_exactly
