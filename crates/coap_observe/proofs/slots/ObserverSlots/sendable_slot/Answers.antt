-- The list of all has them in order of registration, and the bucket of an endpoint has the notifications to it.
use Rattle.std.proofs.Common.{subst}
use Rattle.coap_observe.specs.Places.{Places, FindsFirst, observers_in}
use Rattle.coap_observe.specs.Watching.{is_sendable}
use Rattle.coap_observe.proofs.PlaceLaws.{searched_free}
use Rattle.coap_observe.proofs.slots.ObserverSlots.sendable_slot.Goals as goal

pub returns : goal.returns
returns c =
    subst (λ (t : Places). FindsFirst (is_sendable (observers_in t)) t c.sendable_slot.result) c.self.view_is
    (searched_free c.self.inside.capacity c.self.inside.observers.items c.deref.result.now c.self.inside.order c.self.inside.targets c.self.inside.endpoints
    c.sendable_slot.result c.self.invariant c.deref.ensures.value c.sendable_slot.ensures)
