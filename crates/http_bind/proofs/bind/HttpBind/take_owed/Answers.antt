use Rattle.http_bind.proofs.Sound.{owed_within}
use Rattle.http_bind.proofs.Staying.{settled_stays, found_at, owed_inside}
use Rattle.http_bind.proofs.bind.HttpBind.take_owed.Goals as goal

pub invariant_of-self : goal.invariant_of-self
invariant_of-self c =
    settled_stays c.args.c c.args.now c.take_owed.result c.index_mut.result.now c.take_owed.new.self c.self.inside.slots.items c.self.inside.waits c.remove.new.self c.self.invariant
    (found_at c.args.c c.self.inside.slots.items c.index_mut.result.now
    (owed_within c.args.c c.self.inside.slots.items (owed_inside c.args.c c.args.self.now c.self.inside.slots.items c.self.inside.waits c.self.view_is c.requires)) c.index_mut.ensures.value)
    c.remove.ensures c.take_owed.ensures
