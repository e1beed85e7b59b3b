-- The bucket of the endpoint has all its observers.
use Rattle.std.proofs.Common.{subst}
use Rattle.coap_observe.specs.Places.{Places, Finds, is_wanted}
use Rattle.coap_observe.proofs.PlaceLaws.{searched, wanted_is_from}
use Rattle.coap_observe.proofs.slots.ObserverSlots.wanted_slot.Goals as goal

pub returns : goal.returns
returns c =
    subst (λ (t : Places). Finds (is_wanted c.args.from c.args.wanted) t c.wanted_slot.result) c.self.view_is
    (searched (is_wanted c.args.from c.args.wanted) c.args.from c.self.inside.capacity c.self.inside.observers.items c.deref.result.now c.self.inside.order c.self.inside.targets c.self.inside.endpoints
    c.bucket_of-bucket.result c.wanted_slot.result c.self.invariant (wanted_is_from c.args.from c.args.wanted) c.deref.ensures.value
    c.bucket_of-bucket.ensures.bucket c.bucket_of-bucket.ensures.within c.wanted_slot.ensures)
