-- The observer keeps its target and its endpoint.
use Rattle.std.proofs.Common.{◌≡◌, ◌∙◌, true, false, sym, ap, subst, refl, arith}
use Rattle.coap_observe.specs.declared.observer.Observer.{Observer}
use Rattle.coap_observe.specs.Watching.{notified, next_sequence, IsNotification, is_due}
use Rattle.coap_observe.proofs.CallUses.{kept_by, seen_by, holds_place}
use Rattle.coap_observe.proofs.PlaceLaws.{slot_below}
use Rattle.coap_observe.proofs.slots.ObserverSlots.send_first.Goals as goal

pub index_mut-requires : goal.index_mut-requires
index_mut-requires c =
    let below = slot_below c.self.inside.capacity c.self.inside.observers.items c.self.inside.order c.self.inside.targets c.self.inside.endpoints c.args.self.now c.args.slot c.self.invariant c.self.view_is c.requires in
    omega (arith, c.self.inside.observers.ok.0, below)

pub invariant_of-self : goal.invariant_of-self
invariant_of-self c =
    kept_by (notified c.args.now c.args.id) (λ w. refl) (λ w. refl) c.self.inside.capacity c.self.inside.observers.items c.self.inside.order c.self.inside.targets c.self.inside.endpoints c.args.self.now c.args.slot
    c.index_mut.result.now c.send_first.new.self c.self.invariant c.self.view_is c.requires c.index_mut.ensures.value c.send_first.ensures.state

pub returns-clause-changed : goal.returns-clause-changed
returns-clause-changed c =
    seen_by (notified c.args.now c.args.id) c.self.inside.capacity c.self.inside.observers.items c.self.inside.order c.self.inside.targets c.self.inside.endpoints c.args.self.now c.args.slot
    c.index_mut.result.now c.send_first.new.self c.self.invariant c.self.view_is c.requires c.index_mut.ensures.value c.send_first.ensures.state

pub returns-clause-notice : goal.returns-clause-notice
returns-clause-notice c = λ p at.
    subst (λ (w : Observer). IsNotification w c.args.id (next_sequence w.sequence) true c.send_first.result)
    (holds_place c.self.inside.capacity c.self.inside.observers.items c.self.inside.order c.self.inside.targets c.self.inside.endpoints c.args.self.now c.args.slot
    c.index_mut.result.now p c.self.invariant c.self.view_is at c.index_mut.ensures.value) c.send_first.ensures.notice

pub returns-clause-waits : goal.returns-clause-waits
returns-clause-waits c = λ p at.
    subst (λ (w : Observer). is_due c.args.now (notified c.args.now c.args.id w) ≡ false)
    (holds_place c.self.inside.capacity c.self.inside.observers.items c.self.inside.order c.self.inside.targets c.self.inside.endpoints c.args.self.now c.args.slot
    c.index_mut.result.now p c.self.invariant c.self.view_is at c.index_mut.ensures.value)
    (sym (ap (λ (w : Observer). is_due c.args.now w) c.send_first.ensures.state) ∙ c.send_first.ensures.waits)
