use Rattle.std.proofs.Common.{refl, arith}
use Rattle.thing_handler.proofs.Forgetting.{item_forgot, list_forgot}
use Rattle.thing_handler.proofs.rack.RackHandlers.forget.Goals as goal

pub loop-handler-preserved : goal.loop-handler-preserved
loop-handler-preserved g c =
    item_forgot c.loop-handler.handler-items (λ b. (goal.Handler-dyn g (b.vtable, b.value)).seen b.value) _ c.loop-handler.handler-index _
    c.handler-item.result c.forget.new.self refl (omega (arith, c.loop-handler-test.true)) c.handler-item.is c.forget.ensures c.loop-handler.invariant

pub returns : goal.returns
returns g c =
    list_forgot c.args.self.now.list.items c.deref_mut-handler-items.result.now c.loop-handler.handler-items
    (λ b. (goal.Handler-dyn g (b.vtable, b.value)).seen b.value) c.args.self.now.list.len c.loop-handler.handler-index
    c.loop-handler.auto.handler-items c.deref_mut-handler-items.ensures.len c.deref_mut-handler-items.ensures.value
    (omega (arith, c.loop-handler-test.false, c.loop-handler.auto.handler-index-end)) c.loop-handler.invariant
