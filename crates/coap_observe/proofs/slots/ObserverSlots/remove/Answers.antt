-- The slot goes from the lists of all, of its target's bucket and of its endpoint's to the free ones.
use Rattle.std.proofs.Common.{◌<◌, ◌∙◌, sym, subst, ap, arith}
use Rattle.slot_lists.specs.Lists.{Lists}
use Rattle.coap_observe.specs.declared.observer.Observer.{Observer}
use Rattle.coap_observe.specs.Buckets.{target_bucket, endpoint_bucket}
use Rattle.coap_observe.specs.Kept.{pushed_at}
use Rattle.coap_observe.proofs.PlaceLaws.{slot_below, slot_within, used_in}
use Rattle.coap_observe.proofs.CallUses.{holds, kept_removing, removed, there_by_target, there_by_endpoint, gone_from_used}
use Rattle.coap_observe.proofs.slots.ObserverSlots.remove.Goals as goal

pub index-requires : goal.index-requires
index-requires c =
    let below = slot_below c.self.inside.capacity c.self.inside.observers.items c.self.inside.order c.self.inside.targets c.self.inside.endpoints c.args.self.now c.args.slot c.self.invariant c.self.view_is c.requires in
    omega (arith, c.self.inside.observers.ok.0, below)

pub index-requires-2 : goal.index-requires-2
index-requires-2 c =
    let below = slot_below c.self.inside.capacity c.self.inside.observers.items c.self.inside.order c.self.inside.targets c.self.inside.endpoints c.args.self.now c.args.slot c.self.invariant c.self.view_is c.requires in
    omega (arith, c.self.inside.observers.ok.0, below)

pub remove-requires-clause-slot : goal.remove-requires-clause-slot
remove-requires-clause-slot c =
    let here = holds c.self.inside.capacity c.self.inside.observers.items c.self.inside.order c.self.inside.targets c.self.inside.endpoints c.args.self.now c.args.slot c.index.result.now c.self.invariant c.self.view_is c.requires c.index.ensures in
    there_by_target c.self.inside.capacity c.self.inside.observers.items c.self.inside.order c.self.inside.targets c.self.inside.endpoints c.args.self.now c.args.slot c.target_bucket.result c.self.invariant c.self.view_is c.requires
    (c.target_bucket.ensures.bucket ∙ ap (λ (w : Observer). target_bucket c.self.inside.capacity w.target) here)

pub remove-requires-2-clause-slot : goal.remove-requires-2-clause-slot
remove-requires-2-clause-slot c =
    let here = holds c.self.inside.capacity c.self.inside.observers.items c.self.inside.order c.self.inside.targets c.self.inside.endpoints c.args.self.now c.args.slot c.index-2.result.now c.self.invariant c.self.view_is c.requires c.index-2.ensures in
    there_by_endpoint c.self.inside.capacity c.self.inside.observers.items c.self.inside.order c.self.inside.targets c.self.inside.endpoints c.args.self.now c.args.slot c.bucket_of.result c.self.invariant c.self.view_is c.requires
    (c.bucket_of.ensures.bucket ∙ ap (λ (w : Observer). endpoint_bucket c.self.inside.capacity w.from) here)

pub remove-requires-3-clause-slot : goal.remove-requires-3-clause-slot
remove-requires-3-clause-slot c =
    used_in c.self.inside.capacity c.self.inside.observers.items c.self.inside.order c.args.self.now c.args.slot c.self.view_is c.requires

pub push_back-requires-clause-slot : goal.push_back-requires-clause-slot
push_back-requires-clause-slot c =
    let within = slot_within c.self.inside.capacity c.self.inside.observers.items c.self.inside.order c.self.inside.targets c.self.inside.endpoints c.args.self.now c.args.slot c.self.invariant c.self.view_is c.requires in
    subst (λ (t : Lists). c.args.slot < t.capacity) (sym c.remove-3.ensures) (omega (arith, c.self.invariant.order_capacity, within))

pub push_back-requires-clause-apart : goal.push_back-requires-clause-apart
push_back-requires-clause-apart c =
    gone_from_used c.self.inside.capacity c.self.inside.observers.items c.self.inside.order c.self.inside.targets c.self.inside.endpoints c.remove-3.new.self c.args.self.now c.args.slot c.self.invariant c.self.view_is c.requires c.remove-3.ensures

pub invariant_of-self : goal.invariant_of-self
invariant_of-self c =
    let at_target = holds c.self.inside.capacity c.self.inside.observers.items c.self.inside.order c.self.inside.targets c.self.inside.endpoints c.args.self.now c.args.slot c.index.result.now c.self.invariant c.self.view_is c.requires c.index.ensures in
    let at_from = holds c.self.inside.capacity c.self.inside.observers.items c.self.inside.order c.self.inside.targets c.self.inside.endpoints c.args.self.now c.args.slot c.index-2.result.now c.self.invariant c.self.view_is c.requires c.index-2.ensures in
    kept_removing c.self.inside.capacity c.self.inside.observers.items c.self.inside.order c.self.inside.targets c.self.inside.endpoints
    c.push_back.new.self c.remove.new.self c.remove-2.new.self c.args.self.now c.args.slot c.target_bucket.result c.bucket_of.result c.self.invariant c.self.view_is c.requires
    (c.target_bucket.ensures.bucket ∙ ap (λ (w : Observer). target_bucket c.self.inside.capacity w.target) at_target)
    (c.bucket_of.ensures.bucket ∙ ap (λ (w : Observer). endpoint_bucket c.self.inside.capacity w.from) at_from)
    (c.push_back.ensures ∙ ap (λ (t : Lists). pushed_at 1 c.args.slot t) c.remove-3.ensures) c.remove.ensures c.remove-2.ensures

pub returns : goal.returns
returns c =
    removed c.self.inside.capacity c.self.inside.observers.items c.self.inside.order c.self.inside.targets c.self.inside.endpoints c.push_back.new.self c.args.self.now c.args.slot c.self.invariant c.self.view_is
    (c.push_back.ensures ∙ ap (λ (t : Lists). pushed_at 1 c.args.slot t) c.remove-3.ensures)
