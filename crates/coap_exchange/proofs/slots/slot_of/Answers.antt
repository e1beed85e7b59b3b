-- The search goes on from each slot to the one after it.
use Rattle.std.proofs.Common.{◌≡◌, ◌<◌, ◌∷◌, ◌∙◌, true, false, IfSome, find, length, sym, ap, subst, arith}
use Rattle.slot_lists.specs.Lists.{list_at, from_slot, IsIn}
use Rattle.slot_lists.proofs.Neighbours.{from_first}
use Rattle.coap_exchange.specs.Slots.{entry_at, is_of}
use Rattle.slot_lists.proofs.Counts.{found_at_slot, found_further}
use Rattle.coap_exchange.proofs.slots.slot_of.Goals as goal

pub loop-current-init : goal.loop-current-init
loop-current-init c = record {
  found = sym (ap (find (λ slot. is_of c.args.from c.args.id (entry_at c.args.entries.now slot)))
      (ap (λ o. from_slot o (list_at c.args.bucket c.args.buckets.now)) c.first-current.ensures.first ∙ from_first (list_at c.args.bucket c.args.buckets.now)));
  member = c.first-current.ensures.member;
}

pub bounds-entries-slot : goal.bounds-entries-slot
bounds-entries-slot c =
    let member : IsIn c.args.bucket c.args.buckets.now c.in-Some.slot = subst (λ o. IfSome o (IsIn c.args.bucket c.args.buckets.now)) c.in-Some.is c.loop-current.invariant.member in
    let below : c.in-Some.slot < c.args.buckets.now.capacity = member.1 in
    omega arith

pub after-current-requires : goal.after-current-requires
after-current-requires c =
    let member : IsIn c.args.bucket c.args.buckets.now c.in-Some.slot = subst (λ o. IfSome o (IsIn c.args.bucket c.args.buckets.now)) c.in-Some.is c.loop-current.invariant.member in
    member.1

pub returns-then-is_of : goal.returns-then-is_of
returns-then-is_of c =
    let member : IsIn c.args.bucket c.args.buckets.now c.in-Some.slot = subst (λ o. IfSome o (IsIn c.args.bucket c.args.buckets.now)) c.in-Some.is c.loop-current.invariant.member in
    let passes : is_of c.args.from c.args.id (entry_at c.args.entries.now c.in-Some.slot) ≡ true = sym c.is_of.ensures ∙ c.if-is_of.true in
    let here = found_at_slot (λ slot. is_of c.args.from c.args.id (entry_at c.args.entries.now slot)) c.in-Some.slot (list_at c.args.bucket c.args.buckets.now) member.0 passes in
    sym (c.loop-current.invariant.found
    ∙ (ap (λ o. find (λ slot. is_of c.args.from c.args.id (entry_at c.args.entries.now slot)) (from_slot o (list_at c.args.bucket c.args.buckets.now))) c.in-Some.is ∙ here))

pub loop-current-smaller : goal.loop-current-smaller
loop-current-smaller c =
    let member : IsIn c.args.bucket c.args.buckets.now c.in-Some.slot = subst (λ o. IfSome o (IsIn c.args.bucket c.args.buckets.now)) c.in-Some.is c.loop-current.invariant.member in
    let on = c.after-current.ensures.after c.args.bucket member.0 in
    let now : length (from_slot c.loop-current.current (list_at c.args.bucket c.args.buckets.now)) ≡ length (c.in-Some.slot ∷ from_slot c.after-current.result (list_at c.args.bucket c.args.buckets.now))
    = ap (λ o. length (from_slot o (list_at c.args.bucket c.args.buckets.now))) c.in-Some.is ∙ ap length on in
    omega arith

pub loop-current-preserved : goal.loop-current-preserved
loop-current-preserved c =
    let member : IsIn c.args.bucket c.args.buckets.now c.in-Some.slot = subst (λ o. IfSome o (IsIn c.args.bucket c.args.buckets.now)) c.in-Some.is c.loop-current.invariant.member in
    let fails : is_of c.args.from c.args.id (entry_at c.args.entries.now c.in-Some.slot) ≡ false = sym c.is_of.ensures ∙ c.if-is_of.false in
    let on = found_further (λ slot. is_of c.args.from c.args.id (entry_at c.args.entries.now slot)) c.in-Some.slot c.after-current.result (list_at c.args.bucket c.args.buckets.now)
    (c.after-current.ensures.after c.args.bucket member.0) fails in
    record {
      found = c.loop-current.invariant.found
          ∙ (ap (λ o. find (λ slot. is_of c.args.from c.args.id (entry_at c.args.entries.now slot)) (from_slot o (list_at c.args.bucket c.args.buckets.now))) c.in-Some.is ∙ on);
      member = c.after-current.ensures.member c.args.bucket member.0;
    }

pub returns : goal.returns
returns c =
    sym (c.loop-current.invariant.found
    ∙ ap (λ o. find (λ slot. is_of c.args.from c.args.id (entry_at c.args.entries.now slot)) (from_slot o (list_at c.args.bucket c.args.buckets.now))) c.in_default.is)
