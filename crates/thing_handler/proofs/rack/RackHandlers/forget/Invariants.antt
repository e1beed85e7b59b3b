use Rattle.std.proofs.Common.{◌≡◌, map}
use Rattle.thing_handler.proofs.Forgetting.{forgotten_first}
use Rattle.thing_handler.proofs.rack.RackHandlers.forget.Given as goal

abbrev pub invariant-loop-handler : goal.invariant-loop-handler
invariant-loop-handler g l =
    map (λ b. (goal.Handler-dyn g (b.vtable, b.value)).seen b.value) l.handler-items
    ≡ forgotten_first l.handler-index (map (λ b. (goal.Handler-dyn g (b.vtable, b.value)).seen b.value) l.initial.handler-items)
