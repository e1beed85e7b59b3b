use Rattle.std.proofs.Common.{sym}
use Rattle.http_wire.proofs.EntityTags.{no_number_in_bytes}
use Rattle.http_wire.proofs.conditions.number_of_digits.Goals as goal

pub returns-in-Err : goal.returns-in-Err
returns-in-Err c = sym (no_number_in_bytes c.args.digits.now c.in-Err.ensures.cases.0)
