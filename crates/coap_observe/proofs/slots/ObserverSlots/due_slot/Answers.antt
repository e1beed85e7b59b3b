-- The list of all has them in order of registration.
use Rattle.std.proofs.Common.{subst}
use Rattle.coap_observe.specs.Places.{Places, FindsFirst}
use Rattle.coap_observe.specs.Watching.{is_due}
use Rattle.coap_observe.proofs.PlaceLaws.{searched_first}
use Rattle.coap_observe.proofs.slots.ObserverSlots.due_slot.Goals as goal

pub returns : goal.returns
returns c =
    subst (λ (t : Places). FindsFirst (is_due c.args.now) t c.due_slot.result) c.self.view_is
    (searched_first (is_due c.args.now) c.self.inside.capacity c.self.inside.observers.items c.deref.result.now c.self.inside.order c.self.inside.targets c.self.inside.endpoints
    c.due_slot.result c.self.invariant c.deref.ensures.value c.due_slot.ensures)
