use Rattle.std.proofs.Common.{refl}
use Rattle.std.specs.Prelude.{nat_le}
use Rattle.wot_registry.proofs.Due.{due_by}
use Rattle.wot_registry.proofs.times_by_id.is_first_due.Goals as goal

pub returns-in-Some : goal.returns-in-Some
returns-in-Some c =
    due_by c.args.now c.args.order.now c.in-Some.field-0.now (nat_le c.in-Some.field-0.now.0 c.args.now) refl c.in-Some.ensures.first c.in-Some.ensures.least
