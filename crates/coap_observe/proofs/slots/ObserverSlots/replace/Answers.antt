-- The slot goes from the list of its target's bucket to that of the new one's, and stays in the others.
use Rattle.std.proofs.Common.{◌∙◌, ap, arith}
use Rattle.coap_observe.specs.declared.observer.Observer.{Observer}
use Rattle.coap_observe.specs.Buckets.{target_bucket}
use Rattle.coap_observe.specs.Watching.{replaced}
use Rattle.coap_observe.proofs.PlaceLaws.{slot_below, slot_within}
use Rattle.coap_observe.proofs.CallUses.{holds, kept_replacing, seen_by, there_by_target, gone_from_target}
use Rattle.coap_observe.proofs.slots.ObserverSlots.replace.Goals as goal

pub index-requires : goal.index-requires
index-requires c =
    let below = slot_below c.self.inside.capacity c.self.inside.observers.items c.self.inside.order c.self.inside.targets c.self.inside.endpoints c.args.self.now c.args.slot c.self.invariant c.self.view_is c.requires in
    omega (arith, c.self.inside.observers.ok.0, below)

pub index_mut-requires : goal.index_mut-requires
index_mut-requires c =
    let below = slot_below c.self.inside.capacity c.self.inside.observers.items c.self.inside.order c.self.inside.targets c.self.inside.endpoints c.args.self.now c.args.slot c.self.invariant c.self.view_is c.requires in
    omega (arith, c.self.inside.observers.ok.0, below)

pub move_slot-requires-clause-slot : goal.move_slot-requires-clause-slot
move_slot-requires-clause-slot c =
    let within = slot_within c.self.inside.capacity c.self.inside.observers.items c.self.inside.order c.self.inside.targets c.self.inside.endpoints c.args.self.now c.args.slot c.self.invariant c.self.view_is c.requires in
    omega (arith, c.self.invariant.targets_capacity, within)

pub move_slot-requires-clause-there : goal.move_slot-requires-clause-there
move_slot-requires-clause-there c =
    let here = holds c.self.inside.capacity c.self.inside.observers.items c.self.inside.order c.self.inside.targets c.self.inside.endpoints c.args.self.now c.args.slot c.index.result.now c.self.invariant c.self.view_is c.requires c.index.ensures in
    there_by_target c.self.inside.capacity c.self.inside.observers.items c.self.inside.order c.self.inside.targets c.self.inside.endpoints c.args.self.now c.args.slot c.target_bucket-left.result c.self.invariant c.self.view_is c.requires
    (c.target_bucket-left.ensures.bucket ∙ ap (λ (w : Observer). target_bucket c.self.inside.capacity w.target) here)

pub move_slot-requires-clause-apart : goal.move_slot-requires-clause-apart
move_slot-requires-clause-apart c =
    let here = holds c.self.inside.capacity c.self.inside.observers.items c.self.inside.order c.self.inside.targets c.self.inside.endpoints c.args.self.now c.args.slot c.index.result.now c.self.invariant c.self.view_is c.requires c.index.ensures in
    gone_from_target c.self.inside.capacity c.self.inside.observers.items c.self.inside.order c.self.inside.targets c.self.inside.endpoints c.args.slot c.target_bucket-left.result c.self.invariant
    (c.target_bucket-left.ensures.bucket ∙ ap (λ (w : Observer). target_bucket c.self.inside.capacity w.target) here)

pub invariant_of-self : goal.invariant_of-self
invariant_of-self c =
    let here = holds c.self.inside.capacity c.self.inside.observers.items c.self.inside.order c.self.inside.targets c.self.inside.endpoints c.args.self.now c.args.slot c.index.result.now c.self.invariant c.self.view_is c.requires c.index.ensures in
    kept_replacing c.self.inside.capacity c.self.inside.observers.items c.self.inside.order c.self.inside.targets c.self.inside.endpoints
    c.move_slot.new.lists c.args.self.now c.args.slot c.target_bucket-left.result c.target_bucket-taken.result c.args.target c.index_mut.result.now c.replace.new.self
    c.self.invariant c.self.view_is c.requires c.index_mut.ensures.value c.replace.ensures
    (c.target_bucket-left.ensures.bucket ∙ ap (λ (w : Observer). target_bucket c.self.inside.capacity w.target) here) c.target_bucket-taken.ensures.bucket
    c.move_slot.ensures

pub returns : goal.returns
returns c =
    seen_by (replaced c.args.target) c.self.inside.capacity c.self.inside.observers.items c.self.inside.order c.self.inside.targets c.self.inside.endpoints c.args.self.now c.args.slot
    c.index_mut.result.now c.replace.new.self c.self.invariant c.self.view_is c.requires c.index_mut.ensures.value c.replace.ensures
