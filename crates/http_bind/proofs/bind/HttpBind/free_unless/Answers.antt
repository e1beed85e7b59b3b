use Rattle.http_bind.proofs.Staying.{freed_stays}
use Rattle.http_bind.proofs.bind.HttpBind.free_unless.Goals as goal

pub invariant_of-self : goal.invariant_of-self
invariant_of-self c =
    freed_stays c.args.c c.free.new.self c.self.inside.slots.items c.self.inside.waits c.remove.new.self c.self.invariant c.remove.ensures c.free.ensures
