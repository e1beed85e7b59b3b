-- The observer keeps its target and its endpoint.
use Rattle.std.proofs.Common.{◌≡◌, ◌∙◌, false, sym, ap, subst, arith}
use Rattle.coap_observe.specs.declared.observer.Observer.{Observer}
use Rattle.coap_observe.specs.Places.{sent_once_more, IsSentOnceMore}
use Rattle.coap_observe.specs.Watching.{is_given_up, is_due}
use Rattle.coap_observe.proofs.CallUses.{kept_by, seen_by, holds_place, again_target, again_from}
use Rattle.coap_observe.proofs.PlaceLaws.{slot_below}
use Rattle.coap_observe.proofs.slots.ObserverSlots.send_again.Goals as goal

pub index_mut-requires : goal.index_mut-requires
index_mut-requires c =
    let below = slot_below c.self.inside.capacity c.self.inside.observers.items c.self.inside.order c.self.inside.targets c.self.inside.endpoints c.args.self.now c.args.slot c.self.invariant c.self.view_is c.requires.slot in
    omega (arith, c.self.inside.observers.ok.0, below)

pub invariant_of-self : goal.invariant_of-self
invariant_of-self c =
    kept_by (sent_once_more c.args.now c.args.id) (again_target c.args.now c.args.id) (again_from c.args.now c.args.id) c.self.inside.capacity c.self.inside.observers.items c.self.inside.order c.self.inside.targets c.self.inside.endpoints c.args.self.now c.args.slot
    c.index_mut.result.now c.send_again.new.self c.self.invariant c.self.view_is c.requires.slot c.index_mut.ensures.value c.send_again.ensures.state

pub send_again-requires : goal.send_again-requires
send_again-requires c =
    subst (λ (w : Observer). is_given_up w ≡ false)
    (sym (holds_place c.self.inside.capacity c.self.inside.observers.items c.self.inside.order c.self.inside.targets c.self.inside.endpoints c.args.self.now c.args.slot
    c.index_mut.result.now c.requires.slot.0 c.self.invariant c.self.view_is c.requires.slot.1 c.index_mut.ensures.value))
    (c.requires.served c.requires.slot.0 c.requires.slot.1)

pub returns-clause-changed : goal.returns-clause-changed
returns-clause-changed c =
    seen_by (sent_once_more c.args.now c.args.id) c.self.inside.capacity c.self.inside.observers.items c.self.inside.order c.self.inside.targets c.self.inside.endpoints c.args.self.now c.args.slot
    c.index_mut.result.now c.send_again.new.self c.self.invariant c.self.view_is c.requires.slot c.index_mut.ensures.value c.send_again.ensures.state

pub returns-clause-notice : goal.returns-clause-notice
returns-clause-notice c = λ p at.
    subst (λ (w : Observer). IsSentOnceMore c.args.id w c.send_again.result)
    (holds_place c.self.inside.capacity c.self.inside.observers.items c.self.inside.order c.self.inside.targets c.self.inside.endpoints c.args.self.now c.args.slot
    c.index_mut.result.now p c.self.invariant c.self.view_is at c.index_mut.ensures.value) c.send_again.ensures.notice

pub returns-clause-waits : goal.returns-clause-waits
returns-clause-waits c = λ p at.
    subst (λ (w : Observer). is_due c.args.now (sent_once_more c.args.now c.args.id w) ≡ false)
    (holds_place c.self.inside.capacity c.self.inside.observers.items c.self.inside.order c.self.inside.targets c.self.inside.endpoints c.args.self.now c.args.slot
    c.index_mut.result.now p c.self.invariant c.self.view_is at c.index_mut.ensures.value)
    (sym (ap (λ (w : Observer). is_due c.args.now w) c.send_again.ensures.state) ∙ c.send_again.ensures.waits)
