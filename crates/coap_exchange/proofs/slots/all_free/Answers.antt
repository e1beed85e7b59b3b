-- One more slot is free each time.
use Rattle.std.proofs.Common.{◌≡◌, ◌≢◌, ◌≤◌, ◌<◌, ◌+◌, ◌++◌, ◌∷◌, [], ◌∙◌, ℕ, zero, suc, false, inl, inr, length, length-append, sym, ap, subst, refl, arith}
use Rattle.std.proofs.lemmas.List.{get_or-set_same, get_or-set_other, length-set}
use Rattle.std.proofs.lemmas.Bool.Decides.{eqb_tells}
use Rattle.slot_lists.specs.Lists.{Lists, list_at, empty_lists, is_among}
use Rattle.slot_lists.specs.Counts.{once_below, times_in}
use Rattle.slot_lists.proofs.Counts.{slots_more, not_below, uncounted_is_absent}
use Rattle.coap_exchange.proofs.slots.all_free.Goals as goal

empty_at : (i : ℕ) → 1 ≤ i → list_at i (empty_lists 0 3) ≡ []
empty_at zero h = absurd (omega arith)
empty_at (suc zero) h = refl
empty_at (suc (suc zero)) h = refl
empty_at (suc (suc (suc i))) h = refl

pub loop-slot-init : goal.loop-slot-init
loop-slot-init c = record {
  capacity = ap (λ (t : Lists). t.capacity) c.in_ok-kinds.ensures;
  lists = ap (λ (t : Lists). length t.lists) c.in_ok-kinds.ensures;
  slots = λ s. ap (λ (t : Lists). times_in s (list_at 0 t)) c.in_ok-kinds.ensures ∙ sym (not_below s 0 (omega arith));
  count = ap (λ (t : Lists). length (list_at 0 t)) c.in_ok-kinds.ensures;
  others = λ i h. ap (list_at i) c.in_ok-kinds.ensures ∙ empty_at i h;
}

pub push_back-requires-clause-apart : goal.push_back-requires-clause-apart
push_back-requires-clause-apart c i =
    elim (eqb_tells i 0) [
      | inl w ↦ subst (λ n. is_among c.loop-slot.slot (list_at n c.loop-slot.kinds) ≡ false) (sym w.1)
          (uncounted_is_absent c.loop-slot.slot (list_at 0 c.loop-slot.kinds) (c.loop-slot.invariant.slots c.loop-slot.slot ∙ not_below c.loop-slot.slot c.loop-slot.slot (omega arith)))
      | inr w ↦ ap (is_among c.loop-slot.slot) (c.loop-slot.invariant.others i (omega (arith, w.1)))
    ]

pub loop-slot-preserved : goal.loop-slot-preserved
loop-slot-preserved c =
    let some : 0 < length c.loop-slot.kinds.lists = omega (arith, c.loop-slot.invariant.lists) in
    let free : list_at 0 c.push_back.new.self ≡ list_at 0 c.loop-slot.kinds ++ c.loop-slot.slot ∷ []
    = ap (list_at 0) c.push_back.ensures ∙ get_or-set_same c.loop-slot.kinds.lists 0 _ [] some in
    record {
      capacity = ap (λ (t : Lists). t.capacity) c.push_back.ensures ∙ c.loop-slot.invariant.capacity;
      lists = ap (λ (t : Lists). length t.lists) c.push_back.ensures ∙ (length-set c.loop-slot.kinds.lists 0 _ ∙ c.loop-slot.invariant.lists);
      slots = λ s. ap (times_in s) free ∙ slots_more s c.loop-slot.slot (list_at 0 c.loop-slot.kinds) (c.loop-slot.invariant.slots s);
      count =
          let more : length (list_at 0 c.push_back.new.self) ≡ length (list_at 0 c.loop-slot.kinds) + 1
          = ap length free ∙ length-append (list_at 0 c.loop-slot.kinds) (c.loop-slot.slot ∷ []) in
          omega (arith, c.loop-slot.invariant.count);
      others = λ i h.
          let other : i ≢ 0 = omega arith in
          ap (list_at i) c.push_back.ensures ∙ (get_or-set_other c.loop-slot.kinds.lists 0 i _ [] other ∙ c.loop-slot.invariant.others i h);
    }

pub returns-clause-slots : goal.returns-clause-slots
returns-clause-slots c s =
    let end : c.loop-slot.slot ≡ c.args.capacity = omega arith in
    subst (λ n. times_in s (list_at 0 c.loop-slot.kinds) ≡ once_below s n) end (c.loop-slot.invariant.slots s)
