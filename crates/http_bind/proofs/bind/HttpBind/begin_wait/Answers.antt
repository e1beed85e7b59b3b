use Rattle.http_bind.proofs.Staying.{begins, fits, waits_stay}
use Rattle.http_bind.proofs.bind.HttpBind.begin_wait.Goals as goal

pub push-requires : goal.push-requires
push-requires c =
    fits c.args.c c.args.self.now c.self.inside.slots.items c.self.inside.waits c.remove.new.self c.self.view_is c.self.invariant c.requires c.remove.ensures

pub invariant_of-self : goal.invariant_of-self
invariant_of-self c =
    waits_stay c.args.c c.args.target c.args.now c.args.self.now c.self.inside.slots.items c.self.inside.waits c.remove.new.self c.push.new.self c.self.view_is c.self.invariant c.requires
    c.remove.ensures c.push.ensures

pub returns : goal.returns
returns c =
    begins c.args.c c.args.target c.args.now c.args.self.now c.self.inside.slots.items c.self.inside.waits c.remove.new.self c.push.new.self c.self.view_is c.remove.ensures c.push.ensures
