-- The bucket of the endpoint has all its observers.
use Rattle.std.proofs.Common.{subst}
use Rattle.coap_observe.specs.Places.{Places, Finds}
use Rattle.coap_observe.specs.Watching.{is_pair}
use Rattle.coap_observe.proofs.PlaceLaws.{searched, pair_is_from}
use Rattle.coap_observe.proofs.slots.ObserverSlots.pair_slot.Goals as goal

pub returns : goal.returns
returns c =
    subst (λ (t : Places). Finds (is_pair c.args.from c.args.token.now) t c.pair_slot.result) c.self.view_is
    (searched (is_pair c.args.from c.args.token.now) c.args.from c.self.inside.capacity c.self.inside.observers.items c.deref.result.now c.self.inside.order c.self.inside.targets c.self.inside.endpoints
    c.bucket_of-bucket.result c.pair_slot.result c.self.invariant (pair_is_from c.args.from c.args.token.now) c.deref.ensures.value
    c.bucket_of-bucket.ensures.bucket c.bucket_of-bucket.ensures.within c.pair_slot.ensures)
