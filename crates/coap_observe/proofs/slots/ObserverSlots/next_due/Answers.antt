-- The list of all has each of them.
use Rattle.std.proofs.Common.{◌≡◌, false, subst}
use Rattle.std.specs.List.{list_any}
use Rattle.coap_observe.specs.Places.{Places, observers_in}
use Rattle.coap_observe.specs.Watching.{is_due}
use Rattle.coap_observe.proofs.PlaceLaws.{none_among}
use Rattle.coap_observe.proofs.slots.ObserverSlots.next_due.Goals as goal

pub returns : goal.returns
returns c = λ now before.
    subst (λ (t : Places). list_any (is_due now) (observers_in t) ≡ false) c.self.view_is
    (none_among (is_due now) c.self.inside.capacity c.self.inside.observers.items c.deref.result.now c.self.inside.order c.deref.ensures.value (c.next_due.ensures now before))
