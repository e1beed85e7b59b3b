use Rattle.std.proofs.Common.{arith}
use Rattle.http_bind.proofs.Calls.{opens, others_without, put_without}
use Rattle.http_bind.proofs.Staying.{opened_stays}
use Rattle.http_bind.proofs.bind.HttpBind.opened.Goals as goal

pub invariant_of-self : goal.invariant_of-self
invariant_of-self c =
    opened_stays c.args.c c.args.now c.open.new.self c.self.inside.slots.items c.self.inside.waits c.remove.new.self c.self.invariant c.remove.ensures c.open.ensures

pub returns-clause-leads : goal.returns-clause-leads
returns-clause-leads c =
    opens c.args.c c.args.now c.args.self.now c.self.inside.slots.items c.self.inside.waits c.remove.new.self c.index_mut.result.now c.open.new.self
    (record { all = c.self.view_is; within = omega (arith, c.self.invariant.count); found = c.index_mut.ensures.value }) c.remove.ensures c.open.ensures

pub returns-clause-others : goal.returns-clause-others
returns-clause-others c =
    others_without c.args.c c.args.self.now _ c.open.new.self
    (put_without c.args.c c.args.self.now c.self.inside.slots.items c.self.inside.waits c.remove.new.self c.index_mut.result.now c.open.new.self
    (record { all = c.self.view_is; within = omega (arith, c.self.invariant.count); found = c.index_mut.ensures.value }) c.remove.ensures)
