use Rattle.std.proofs.Common.{arith}
use Rattle.http_bind.proofs.Calls.{ends, others_without, put_without}
use Rattle.http_bind.proofs.Staying.{freed_stays}
use Rattle.http_bind.proofs.bind.HttpBind.ended.Goals as goal

pub invariant_of-self : goal.invariant_of-self
invariant_of-self c =
    freed_stays c.args.c c.free.new.self c.self.inside.slots.items c.self.inside.waits c.remove.new.self c.self.invariant c.remove.ensures c.free.ensures

pub returns-clause-leads : goal.returns-clause-leads
returns-clause-leads c =
    ends c.args.c c.args.self.now c.self.inside.slots.items c.self.inside.waits c.remove.new.self c.index_mut.result.now c.free.new.self
    (record { all = c.self.view_is; within = omega (arith, c.self.invariant.count); found = c.index_mut.ensures.value }) c.remove.ensures c.free.ensures

pub returns-clause-others : goal.returns-clause-others
returns-clause-others c =
    others_without c.args.c c.args.self.now _ c.free.new.self
    (put_without c.args.c c.args.self.now c.self.inside.slots.items c.self.inside.waits c.remove.new.self c.index_mut.result.now c.free.new.self
    (record { all = c.self.view_is; within = omega (arith, c.self.invariant.count); found = c.index_mut.ensures.value }) c.remove.ensures)
