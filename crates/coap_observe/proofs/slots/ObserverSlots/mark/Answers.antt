-- The bucket has all observers of the target, and no observer takes another target or endpoint.
use Rattle.std.proofs.Common.{◌≡◌, ◌∙◌, List, length, ap, subst, sym, arith}
use Rattle.std.proofs.lemmas.List.{with_items_is}
use Rattle.coap_observe.specs.declared.observer.Observer.{Observer}
use Rattle.coap_observe.specs.Kept.{AreKept, places_in}
use Rattle.coap_observe.proofs.CallUses.{walked, kept_marked, seen_marked}
use Rattle.coap_observe.proofs.slots.ObserverSlots.mark.Goals as goal

pub invariant_of-self : goal.invariant_of-self
invariant_of-self c =
    let long : length c.mark.new.observers ≡ c.self.inside.observers.len
    = c.mark.ensures.length ∙ (ap length c.as_mut_slice.ensures.value ∙ omega (arith, c.self.inside.observers.ok.0)) in
    subst (λ (ws : List Observer). AreKept c.self.inside.capacity ws c.self.inside.order c.self.inside.targets c.self.inside.endpoints)
    (sym (with_items_is c.self.inside.observers c.mark.new.observers long))
    (kept_marked c.self.inside.capacity c.self.inside.observers.items c.mark.new.observers c.self.inside.order c.self.inside.targets c.self.inside.endpoints
    c.target_bucket-bucket.result c.args.target c.self.invariant (c.mark.ensures.length ∙ ap length c.as_mut_slice.ensures.value)
    (walked c.as_mut_slice.result.now c.self.inside.observers.items c.mark.new.observers c.self.inside.targets c.target_bucket-bucket.result c.args.target
    c.as_mut_slice.ensures.value c.mark.ensures.each))

pub returns : goal.returns
returns c =
    let long : length c.mark.new.observers ≡ c.self.inside.observers.len
    = c.mark.ensures.length ∙ (ap length c.as_mut_slice.ensures.value ∙ omega (arith, c.self.inside.observers.ok.0)) in
    ap (λ (ws : List Observer). places_in c.self.inside.capacity ws c.self.inside.order) (with_items_is c.self.inside.observers c.mark.new.observers long)
    ∙ seen_marked c.self.inside.capacity c.self.inside.observers.items c.mark.new.observers c.self.inside.order c.self.inside.targets c.self.inside.endpoints
    c.args.self.now c.target_bucket-bucket.result c.args.target c.self.invariant c.self.view_is c.target_bucket-bucket.ensures.bucket
    (walked c.as_mut_slice.result.now c.self.inside.observers.items c.mark.new.observers c.self.inside.targets c.target_bucket-bucket.result c.args.target
    c.as_mut_slice.ensures.value c.mark.ensures.each)
