use Rattle.std.proofs.Common.{sym, arith}
use Rattle.thing_ops.proofs.InvocationIds.{number_of_spelling}
use Rattle.thing_ops.proofs.routing.number_in.Goals as goal

pub returns-in-Some : goal.returns-in-Some
returns-in-Some c = sym (number_of_spelling c.args.text.now c.in-Some.number (omega arith) (omega (arith, c.in-Some.ensures.ok.1, c.from.ensures)) c.in-Some.ensures.ok.0)
