-- The moment becomes no later than the one before which the slot's observer isn't due.
use Rattle.std.proofs.Common.{◌≡◌, ◌<◌, ◌∷◌, ◌∙◌, false, IfSome, length, sym, ap, subst, refl, arith}
use Rattle.std.specs.List.{list_any}
use Rattle.slot_lists.specs.Lists.{list_at, from_slot, IsIn}
use Rattle.slot_lists.proofs.Neighbours.{from_first}
use Rattle.coap_observe.specs.Kept.{observer_at}
use Rattle.coap_observe.specs.Watching.{is_due}
use Rattle.coap_observe.proofs.WalkLaws.{none_further, read_observer}
use Rattle.coap_observe.proofs.walks.next_due.Goals as goal

pub loop-current-init : goal.loop-current-init
loop-current-init c = record {
  none = λ now before rest.
      subst (λ l. list_any (λ slot. is_due now (observer_at c.args.observers.now slot)) l ≡ false)
      (ap (λ o. from_slot o (list_at 0 c.args.order.now)) c.first-current.ensures.first ∙ from_first (list_at 0 c.args.order.now)) rest;
  member = c.first-current.ensures.member;
}

pub bounds-observers-slot : goal.bounds-observers-slot
bounds-observers-slot c =
    let member : IsIn 0 c.args.order.now c.in-Some.slot = subst (λ o. IfSome o (IsIn 0 c.args.order.now)) c.in-Some.is c.loop-current.invariant.member in
    let below : c.in-Some.slot < c.args.order.now.capacity = member.1 in
    omega arith

pub after-current-requires : goal.after-current-requires
after-current-requires c =
    let member : IsIn 0 c.args.order.now c.in-Some.slot = subst (λ o. IfSome o (IsIn 0 c.args.order.now)) c.in-Some.is c.loop-current.invariant.member in
    member.1

pub loop-current-smaller : goal.loop-current-smaller
loop-current-smaller c =
    let member : IsIn 0 c.args.order.now c.in-Some.slot = subst (λ o. IfSome o (IsIn 0 c.args.order.now)) c.in-Some.is c.loop-current.invariant.member in
    let on = c.after-current.ensures.after 0 member.0 in
    let now : length (from_slot c.loop-current.current (list_at 0 c.args.order.now)) ≡ length (c.in-Some.slot ∷ from_slot c.after-current.result (list_at 0 c.args.order.now))
    = ap (λ o. length (from_slot o (list_at 0 c.args.order.now))) c.in-Some.is ∙ ap length on in
    omega arith

pub loop-current-preserved : goal.loop-current-preserved
loop-current-preserved c =
    let member : IsIn 0 c.args.order.now c.in-Some.slot = subst (λ o. IfSome o (IsIn 0 c.args.order.now)) c.in-Some.is c.loop-current.invariant.member in
    let below : c.in-Some.slot < c.args.order.now.capacity = member.1 in
    let read : c.index-observers-slot.result ≡ observer_at c.args.observers.now c.in-Some.slot
    = c.index-observers-slot.is ∙ read_observer c.args.observers.now c.in-Some.slot c.index-observers-slot.result (omega arith) in
    record {
      none = λ now before rest.
          let soon : now < c.loop-current.moment = omega (arith, c.min-moment.ensures) in
          let late : now < c.due_from.result = omega (arith, c.min-moment.ensures) in
          let fails : is_due now (observer_at c.args.observers.now c.in-Some.slot) ≡ false = ap (is_due now) (sym read) ∙ c.due_from.ensures now late in
          c.loop-current.invariant.none now soon
          (subst (λ o. list_any (λ slot. is_due now (observer_at c.args.observers.now slot)) (from_slot o (list_at 0 c.args.order.now)) ≡ false) (sym c.in-Some.is)
          (none_further (λ slot. is_due now (observer_at c.args.observers.now slot)) c.in-Some.slot c.after-current.result (list_at 0 c.args.order.now)
          (c.after-current.ensures.after 0 member.0) fails rest));
      member = c.after-current.ensures.member 0 member.0;
    }

pub returns : goal.returns
returns c = λ now before.
    c.loop-current.invariant.none now before
    (subst (λ o. list_any (λ slot. is_due now (observer_at c.args.observers.now slot)) (from_slot o (list_at 0 c.args.order.now)) ≡ false) (sym c.in_default.is) refl)
