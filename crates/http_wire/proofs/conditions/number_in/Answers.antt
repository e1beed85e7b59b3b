use Rattle.std.proofs.Common.{sym, arith}
use Rattle.http_wire.proofs.EntityTags.{number_said}
use Rattle.http_wire.proofs.conditions.number_in.Goals as goal

pub returns-in-Some : goal.returns-in-Some
returns-in-Some c = sym (number_said c.args.text.now c.in-Some.number (omega arith) (omega (arith, c.in-Some.ensures.ok.1, c.from.ensures)) c.in-Some.ensures.ok.0)
