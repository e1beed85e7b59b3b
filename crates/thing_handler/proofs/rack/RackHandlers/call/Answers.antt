use Rattle.thing_handler.proofs.Slots.{calls_handler}
use Rattle.thing_handler.proofs.rack.RackHandlers.call.Goals as goal

pub returns : goal.returns
returns g c =
    calls_handler c.args.self.now.list.items (λ b. (goal.Handler-dyn g (b.vtable, b.value)).seen b.value) c.args.slot c.args.number c.args.what.now
    c.call.result c.index_mut.result.now c.call.new.self c.requires c.index_mut.ensures.value c.call.ensures
