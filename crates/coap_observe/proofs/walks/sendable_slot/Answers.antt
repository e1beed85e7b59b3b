-- The search goes on from each slot to the one after it.
use Rattle.std.proofs.Common.{◌≡◌, ◌<◌, ◌∷◌, ◌∙◌, true, false, IfSome, find, length, sym, ap, subst, arith}
use Rattle.slot_lists.specs.Lists.{list_at, from_slot, IsIn}
use Rattle.slot_lists.proofs.Neighbours.{from_first}
use Rattle.coap_observe.specs.Kept.{observer_at, is_sendable_at}
use Rattle.slot_lists.proofs.Counts.{found_at_slot, found_further}
use Rattle.coap_observe.proofs.walks.sendable_slot.Goals as goal

pub loop-current-init : goal.loop-current-init
loop-current-init c = record {
  found = sym (ap (find (λ slot. is_sendable_at c.args.endpoints.now c.args.observers.now c.args.count (observer_at c.args.observers.now slot)))
      (ap (λ o. from_slot o (list_at 0 c.args.order.now)) c.first-current.ensures.first ∙ from_first (list_at 0 c.args.order.now)));
  member = c.first-current.ensures.member;
}

pub is_sendable-requires-clause-slot : goal.is_sendable-requires-clause-slot
is_sendable-requires-clause-slot c =
    let member : IsIn 0 c.args.order.now c.in-Some.slot = subst (λ o. IfSome o (IsIn 0 c.args.order.now)) c.in-Some.is c.loop-current.invariant.member in
    let below : c.in-Some.slot < c.args.order.now.capacity = member.1 in
    omega arith

pub after-current-requires : goal.after-current-requires
after-current-requires c =
    let member : IsIn 0 c.args.order.now c.in-Some.slot = subst (λ o. IfSome o (IsIn 0 c.args.order.now)) c.in-Some.is c.loop-current.invariant.member in
    member.1

pub returns-then-is_sendable : goal.returns-then-is_sendable
returns-then-is_sendable c =
    let member : IsIn 0 c.args.order.now c.in-Some.slot = subst (λ o. IfSome o (IsIn 0 c.args.order.now)) c.in-Some.is c.loop-current.invariant.member in
    let passes : is_sendable_at c.args.endpoints.now c.args.observers.now c.args.count (observer_at c.args.observers.now c.in-Some.slot) ≡ true
    = sym c.is_sendable.ensures ∙ c.if-is_sendable.true in
    let here = found_at_slot (λ slot. is_sendable_at c.args.endpoints.now c.args.observers.now c.args.count (observer_at c.args.observers.now slot)) c.in-Some.slot (list_at 0 c.args.order.now) member.0 passes in
    sym (c.loop-current.invariant.found
    ∙ (ap (λ o. find (λ slot. is_sendable_at c.args.endpoints.now c.args.observers.now c.args.count (observer_at c.args.observers.now slot)) (from_slot o (list_at 0 c.args.order.now))) c.in-Some.is ∙ here))

pub loop-current-smaller : goal.loop-current-smaller
loop-current-smaller c =
    let member : IsIn 0 c.args.order.now c.in-Some.slot = subst (λ o. IfSome o (IsIn 0 c.args.order.now)) c.in-Some.is c.loop-current.invariant.member in
    let on = c.after-current.ensures.after 0 member.0 in
    let now : length (from_slot c.loop-current.current (list_at 0 c.args.order.now)) ≡ length (c.in-Some.slot ∷ from_slot c.after-current.result (list_at 0 c.args.order.now))
    = ap (λ o. length (from_slot o (list_at 0 c.args.order.now))) c.in-Some.is ∙ ap length on in
    omega arith

pub loop-current-preserved : goal.loop-current-preserved
loop-current-preserved c =
    let member : IsIn 0 c.args.order.now c.in-Some.slot = subst (λ o. IfSome o (IsIn 0 c.args.order.now)) c.in-Some.is c.loop-current.invariant.member in
    let fails : is_sendable_at c.args.endpoints.now c.args.observers.now c.args.count (observer_at c.args.observers.now c.in-Some.slot) ≡ false
    = sym c.is_sendable.ensures ∙ c.if-is_sendable.false in
    let on = found_further (λ slot. is_sendable_at c.args.endpoints.now c.args.observers.now c.args.count (observer_at c.args.observers.now slot)) c.in-Some.slot c.after-current.result (list_at 0 c.args.order.now)
    (c.after-current.ensures.after 0 member.0) fails in
    record {
      found = c.loop-current.invariant.found
          ∙ (ap (λ o. find (λ slot. is_sendable_at c.args.endpoints.now c.args.observers.now c.args.count (observer_at c.args.observers.now slot)) (from_slot o (list_at 0 c.args.order.now))) c.in-Some.is ∙ on);
      member = c.after-current.ensures.member 0 member.0;
    }

pub returns : goal.returns
returns c =
    sym (c.loop-current.invariant.found
    ∙ ap (λ o. find (λ slot. is_sendable_at c.args.endpoints.now c.args.observers.now c.args.count (observer_at c.args.observers.now slot)) (from_slot o (list_at 0 c.args.order.now))) c.in_default.is)
