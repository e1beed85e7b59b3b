-- Each turn marks the observer of one slot. To mark one twice is to mark it once.
use Rattle.std.proofs.Common.{◌≡◌, ◌<◌, ◌∷◌, ◌∙◌, cond, IfSome, length, sym, ap, subst, refl, arith}
use Rattle.std.proofs.lemmas.List.{length-set}
use Rattle.slot_lists.specs.Lists.{list_at, from_slot, is_among, IsIn}
use Rattle.slot_lists.proofs.Neighbours.{from_first}
use Rattle.coap_observe.specs.Kept.{observer_at}
use Rattle.coap_observe.specs.Watching.{where_so, is_of_target, marked}
use Rattle.coap_observe.proofs.WalkLaws.{walks_on, marked_twice, read_observer}
use Rattle.coap_observe.proofs.walks.mark.Goals as goal

pub loop-current-init : goal.loop-current-init
loop-current-init c = record {
  count = refl;
  each = λ slot. ap (λ l. cond (is_among slot l) (where_so (is_of_target c.args.target) marked (observer_at c.args.observers.now slot)) (observer_at c.args.observers.now slot))
      (ap (λ o. from_slot o (list_at c.args.list c.args.lists.now)) c.first-current.ensures.first ∙ from_first (list_at c.args.list c.args.lists.now));
  member = c.first-current.ensures.member;
}

pub bounds-observers-slot : goal.bounds-observers-slot
bounds-observers-slot c =
    let member : IsIn c.args.list c.args.lists.now c.in-Some.slot = subst (λ o. IfSome o (IsIn c.args.list c.args.lists.now)) c.in-Some.is c.loop-current.invariant.member in
    let below : c.in-Some.slot < c.args.lists.now.capacity = member.1 in
    omega (arith, c.loop-current.invariant.count)

pub after-current-requires : goal.after-current-requires
after-current-requires c =
    let member : IsIn c.args.list c.args.lists.now c.in-Some.slot = subst (λ o. IfSome o (IsIn c.args.list c.args.lists.now)) c.in-Some.is c.loop-current.invariant.member in
    member.1

pub loop-current-smaller : goal.loop-current-smaller
loop-current-smaller c =
    let member : IsIn c.args.list c.args.lists.now c.in-Some.slot = subst (λ o. IfSome o (IsIn c.args.list c.args.lists.now)) c.in-Some.is c.loop-current.invariant.member in
    let on = c.after-current.ensures.after c.args.list member.0 in
    let now : length (from_slot c.loop-current.current (list_at c.args.list c.args.lists.now)) ≡ length (c.in-Some.slot ∷ from_slot c.after-current.result (list_at c.args.list c.args.lists.now))
    = ap (λ o. length (from_slot o (list_at c.args.list c.args.lists.now))) c.in-Some.is ∙ ap length on in
    omega arith

pub loop-current-preserved : goal.loop-current-preserved
loop-current-preserved c =
    let member : IsIn c.args.list c.args.lists.now c.in-Some.slot = subst (λ o. IfSome o (IsIn c.args.list c.args.lists.now)) c.in-Some.is c.loop-current.invariant.member in
    let below : c.in-Some.slot < c.args.lists.now.capacity = member.1 in
    let place : c.in-Some.slot < length c.loop-current.observers = omega (arith, c.loop-current.invariant.count) in
    let rest : from_slot c.loop-current.current (list_at c.args.list c.args.lists.now) ≡ c.in-Some.slot ∷ from_slot c.after-current.result (list_at c.args.list c.args.lists.now)
    = ap (λ o. from_slot o (list_at c.args.list c.args.lists.now)) c.in-Some.is ∙ c.after-current.ensures.after c.args.list member.0 in
    record {
      count = length-set c.loop-current.observers c.in-Some.slot _ ∙ c.loop-current.invariant.count;
      each = λ slot. walks_on (where_so (is_of_target c.args.target) marked) (marked_twice c.args.target) c.loop-current.observers c.in-Some.slot c.mark_if.new.self
          (from_slot c.after-current.result (list_at c.args.list c.args.lists.now)) slot place
          (c.mark_if.ensures ∙ ap (where_so (is_of_target c.args.target) marked) (read_observer c.loop-current.observers c.in-Some.slot _ place))
          ∙ (ap (λ l. cond (is_among slot l) (where_so (is_of_target c.args.target) marked (observer_at c.loop-current.observers slot)) (observer_at c.loop-current.observers slot)) (sym rest)
          ∙ c.loop-current.invariant.each slot);
      member = c.after-current.ensures.member c.args.list member.0;
    }

pub returns-clause-each : goal.returns-clause-each
returns-clause-each c = λ slot.
    sym (ap (λ o. cond (is_among slot (from_slot o (list_at c.args.list c.args.lists.now))) (where_so (is_of_target c.args.target) marked (observer_at c.loop-current.observers slot)) (observer_at c.loop-current.observers slot)) c.in_default.is)
    ∙ c.loop-current.invariant.each slot
