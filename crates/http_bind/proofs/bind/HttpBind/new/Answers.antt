use Rattle.http_bind.proofs.Sound.{none_sound}
use Rattle.http_bind.proofs.bind.HttpBind.new.Goals as goal

pub invariant_of-result : goal.invariant_of-result
invariant_of-result c = none_sound c.in_ok-slots.slots.items c.in_ok-waits.waits c.in_ok-slots.ensures c.in_ok-waits.ensures
