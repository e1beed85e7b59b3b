-- The search goes on from each slot to the one after it.
use Rattle.std.proofs.Common.{◌≡◌, ◌<◌, ◌∷◌, ◌∙◌, true, false, IfSome, find, length, sym, ap, subst, arith}
use Rattle.slot_lists.specs.Lists.{list_at, from_slot, IsIn}
use Rattle.slot_lists.proofs.Neighbours.{from_first}
use Rattle.coap_observe.specs.Kept.{observer_at}
use Rattle.coap_observe.specs.Watching.{is_pair}
use Rattle.slot_lists.proofs.Counts.{found_at_slot, found_further}
use Rattle.coap_observe.proofs.WalkLaws.{read_observer}
use Rattle.coap_observe.proofs.walks.pair_slot.Goals as goal

pub loop-current-init : goal.loop-current-init
loop-current-init c = record {
  found = sym (ap (find (λ slot. is_pair c.args.from c.args.token.now (observer_at c.args.observers.now slot)))
      (ap (λ o. from_slot o (list_at c.args.list c.args.lists.now)) c.first-current.ensures.first ∙ from_first (list_at c.args.list c.args.lists.now)));
  member = c.first-current.ensures.member;
}

pub bounds-observers-slot : goal.bounds-observers-slot
bounds-observers-slot c =
    let member : IsIn c.args.list c.args.lists.now c.in-Some.slot = subst (λ o. IfSome o (IsIn c.args.list c.args.lists.now)) c.in-Some.is c.loop-current.invariant.member in
    let below : c.in-Some.slot < c.args.lists.now.capacity = member.1 in
    omega arith

pub after-current-requires : goal.after-current-requires
after-current-requires c =
    let member : IsIn c.args.list c.args.lists.now c.in-Some.slot = subst (λ o. IfSome o (IsIn c.args.list c.args.lists.now)) c.in-Some.is c.loop-current.invariant.member in
    member.1

pub returns-then-is_pair : goal.returns-then-is_pair
returns-then-is_pair c =
    let member : IsIn c.args.list c.args.lists.now c.in-Some.slot = subst (λ o. IfSome o (IsIn c.args.list c.args.lists.now)) c.in-Some.is c.loop-current.invariant.member in
    let below : c.in-Some.slot < c.args.lists.now.capacity = member.1 in
    let read : c.index-observers-slot.result ≡ observer_at c.args.observers.now c.in-Some.slot
    = c.index-observers-slot.is ∙ read_observer c.args.observers.now c.in-Some.slot c.index-observers-slot.result (omega arith) in
    let passes : is_pair c.args.from c.args.token.now (observer_at c.args.observers.now c.in-Some.slot) ≡ true
    = ap (is_pair c.args.from c.args.token.now) (sym read) ∙ (sym c.is_pair.ensures ∙ c.if-is_pair.true) in
    let here = found_at_slot (λ slot. is_pair c.args.from c.args.token.now (observer_at c.args.observers.now slot)) c.in-Some.slot (list_at c.args.list c.args.lists.now) member.0 passes in
    sym (c.loop-current.invariant.found
    ∙ (ap (λ o. find (λ slot. is_pair c.args.from c.args.token.now (observer_at c.args.observers.now slot)) (from_slot o (list_at c.args.list c.args.lists.now))) c.in-Some.is ∙ here))

pub loop-current-smaller : goal.loop-current-smaller
loop-current-smaller c =
    let member : IsIn c.args.list c.args.lists.now c.in-Some.slot = subst (λ o. IfSome o (IsIn c.args.list c.args.lists.now)) c.in-Some.is c.loop-current.invariant.member in
    let on = c.after-current.ensures.after c.args.list member.0 in
    let now : length (from_slot c.loop-current.current (list_at c.args.list c.args.lists.now)) ≡ length (c.in-Some.slot ∷ from_slot c.after-current.result (list_at c.args.list c.args.lists.now))
    = ap (λ o. length (from_slot o (list_at c.args.list c.args.lists.now))) c.in-Some.is ∙ ap length on in
    omega arith

pub loop-current-preserved : goal.loop-current-preserved
loop-current-preserved c =
    let member : IsIn c.args.list c.args.lists.now c.in-Some.slot = subst (λ o. IfSome o (IsIn c.args.list c.args.lists.now)) c.in-Some.is c.loop-current.invariant.member in
    let below : c.in-Some.slot < c.args.lists.now.capacity = member.1 in
    let read : c.index-observers-slot.result ≡ observer_at c.args.observers.now c.in-Some.slot
    = c.index-observers-slot.is ∙ read_observer c.args.observers.now c.in-Some.slot c.index-observers-slot.result (omega arith) in
    let fails : is_pair c.args.from c.args.token.now (observer_at c.args.observers.now c.in-Some.slot) ≡ false
    = ap (is_pair c.args.from c.args.token.now) (sym read) ∙ (sym c.is_pair.ensures ∙ c.if-is_pair.false) in
    let on = found_further (λ slot. is_pair c.args.from c.args.token.now (observer_at c.args.observers.now slot)) c.in-Some.slot c.after-current.result (list_at c.args.list c.args.lists.now)
    (c.after-current.ensures.after c.args.list member.0) fails in
    record {
      found = c.loop-current.invariant.found
          ∙ (ap (λ o. find (λ slot. is_pair c.args.from c.args.token.now (observer_at c.args.observers.now slot)) (from_slot o (list_at c.args.list c.args.lists.now))) c.in-Some.is ∙ on);
      member = c.after-current.ensures.member c.args.list member.0;
    }

pub returns : goal.returns
returns c =
    sym (c.loop-current.invariant.found
    ∙ ap (λ o. find (λ slot. is_pair c.args.from c.args.token.now (observer_at c.args.observers.now slot)) (from_slot o (list_at c.args.list c.args.lists.now))) c.in_default.is)
