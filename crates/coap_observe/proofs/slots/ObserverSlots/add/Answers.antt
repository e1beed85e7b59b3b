-- The slot was free: it goes to the lists of all, of its target's bucket and of its endpoint's.
use Rattle.std.proofs.Common.{◌∙◌, ap, sym, arith}
use Rattle.slot_lists.specs.Lists.{Lists}
use Rattle.coap_observe.specs.declared.observer.Observer.{Observer}
use Rattle.coap_observe.specs.Buckets.{target_bucket, endpoint_bucket}
use Rattle.coap_observe.specs.Watching.{newcomer}
use Rattle.coap_observe.specs.Kept.{pushed_at}
use Rattle.coap_observe.proofs.KeptLaws.{free_place, free_has_no_target, free_has_no_endpoint}
use Rattle.coap_observe.proofs.CallUses.{kept_adding, added, full, gone_from_free}
use Rattle.coap_observe.proofs.slots.ObserverSlots.add.Goals as goal

pub index_mut-requires : goal.index_mut-requires
index_mut-requires c =
    let place = free_place c.self.inside.capacity c.self.inside.observers.items c.self.inside.order c.self.inside.targets c.self.inside.endpoints c.in-Some.slot c.self.invariant c.in-Some.ensures.member.0 in
    omega (arith, c.self.inside.observers.ok.0, c.self.invariant.observers_count, place.0)

pub push_back-requires-clause-apart : goal.push_back-requires-clause-apart
push_back-requires-clause-apart c =
    gone_from_free c.self.inside.capacity c.self.inside.observers.items c.self.inside.order c.self.inside.targets c.self.inside.endpoints c.remove.new.self c.in-Some.slot
    c.self.invariant c.in-Some.ensures.member.0 c.remove.ensures

pub invariant_of-self : goal.invariant_of-self
invariant_of-self c =
    kept_adding c.self.inside.capacity c.self.inside.observers.items c.self.inside.order c.self.inside.targets c.self.inside.endpoints
    c.push_back.new.self c.push_back-in-Some.new.self c.push_back-in-Some-2.new.self c.in-Some.slot c.target_bucket.result c.bucket_of.result c.new.result
    c.self.invariant c.in-Some.ensures.member.0
    (c.target_bucket.ensures.bucket ∙ ap (λ (w : Observer). target_bucket c.self.inside.capacity w.target) (sym c.new.ensures))
    (c.bucket_of.ensures.bucket ∙ ap (λ (w : Observer). endpoint_bucket c.self.inside.capacity w.from) (sym c.new.ensures))
    (c.push_back.ensures ∙ ap (λ (t : Lists). pushed_at 0 c.in-Some.slot t) c.remove.ensures) c.push_back-in-Some.ensures c.push_back-in-Some-2.ensures

pub returns-in-Some : goal.returns-in-Some
returns-in-Some c =
    added c.self.inside.capacity c.self.inside.observers.items c.self.inside.order c.self.inside.targets c.self.inside.endpoints
    c.push_back.new.self c.args.self.now c.in-Some.slot c.new.result (newcomer c.args.from c.args.token.now c.args.target)
    c.self.invariant c.self.view_is c.in-Some.ensures.member.0 c.new.ensures
    (c.push_back.ensures ∙ ap (λ (t : Lists). pushed_at 0 c.in-Some.slot t) c.remove.ensures)

pub returns-in-None : goal.returns-in-None
returns-in-None c =
    full c.self.inside.capacity c.self.inside.observers.items c.self.inside.order c.self.inside.targets c.self.inside.endpoints c.args.self.now
    (newcomer c.args.from c.args.token.now c.args.target) c.self.invariant c.self.view_is c.in-None.ensures.first

pub push_back-requires-in-Some-clause-apart : goal.push_back-requires-in-Some-clause-apart
push_back-requires-in-Some-clause-apart c =
    free_has_no_target c.self.inside.capacity c.self.inside.observers.items c.self.inside.order c.self.inside.targets c.self.inside.endpoints c.in-Some.slot c.self.invariant c.in-Some.ensures.member.0

pub push_back-requires-in-Some-2-clause-apart : goal.push_back-requires-in-Some-2-clause-apart
push_back-requires-in-Some-2-clause-apart c =
    free_has_no_endpoint c.self.inside.capacity c.self.inside.observers.items c.self.inside.order c.self.inside.targets c.self.inside.endpoints c.in-Some.slot c.self.invariant c.in-Some.ensures.member.0
