use Rattle.std.proofs.Common.{sym}
use Rattle.thing_ops.proofs.InvocationIds.{number_of_bytes}
use Rattle.thing_ops.proofs.routing.invocation_number.Goals as goal

pub returns-in-Err : goal.returns-in-Err
returns-in-Err c = sym (number_of_bytes c.args.segment.now c.in-Err.ensures.cases.0)
