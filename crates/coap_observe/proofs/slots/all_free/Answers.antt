-- One more slot is free each time.
use Rattle.std.proofs.Common.{◌≡◌, ◌<◌, ◌+◌, ◌==◌, ◌++◌, ◌∷◌, [], ◌∙◌, length, length-append, cond, sym, ap, subst, arith}
use Rattle.std.proofs.lemmas.List.{get_or-set_same, get_or-set_other, length-set}
use Rattle.slot_lists.specs.Lists.{Lists, list_at}
use Rattle.slot_lists.specs.Counts.{once_below, times_in}
use Rattle.coap_observe.proofs.SlotLaws.{in_none}
use Rattle.slot_lists.proofs.Counts.{not_below, once_more, times_push}
use Rattle.coap_observe.proofs.KeptLaws.{either_list}
use Rattle.coap_observe.proofs.slots.all_free.Goals as goal

pub loop-slot-init : goal.loop-slot-init
loop-slot-init c = record {
  capacity = ap (λ (t : Lists). t.capacity) c.in_ok-order.ensures;
  lists = ap (λ (t : Lists). length t.lists) c.in_ok-order.ensures;
  slots = λ s. ap (λ (t : Lists). times_in s (list_at 1 t)) c.in_ok-order.ensures ∙ sym (not_below s 0 (omega arith));
  count = ap (λ (t : Lists). length (list_at 1 t)) c.in_ok-order.ensures;
  used = ap (list_at 0) c.in_ok-order.ensures;
}

pub push_back-requires-clause-apart : goal.push_back-requires-clause-apart
push_back-requires-clause-apart c =
    in_none c.loop-slot.order.lists c.loop-slot.slot
    (either_list c.loop-slot.order c.loop-slot.slot c.loop-slot.invariant.lists c.loop-slot.invariant.used
    (c.loop-slot.invariant.slots c.loop-slot.slot ∙ not_below c.loop-slot.slot c.loop-slot.slot (omega arith)))

pub loop-slot-preserved : goal.loop-slot-preserved
loop-slot-preserved c =
    let some : 1 < length c.loop-slot.order.lists = omega (arith, c.loop-slot.invariant.lists) in
    let free : list_at 1 c.push_back.new.self ≡ list_at 1 c.loop-slot.order ++ c.loop-slot.slot ∷ []
    = ap (list_at 1) c.push_back.ensures ∙ get_or-set_same c.loop-slot.order.lists 1 _ [] some in
    record {
      capacity = ap (λ (t : Lists). t.capacity) c.push_back.ensures ∙ c.loop-slot.invariant.capacity;
      lists = ap (λ (t : Lists). length t.lists) c.push_back.ensures ∙ (length-set c.loop-slot.order.lists 1 _ ∙ c.loop-slot.invariant.lists);
      slots = λ s. ap (times_in s) free ∙ (times_push s c.loop-slot.slot (list_at 1 c.loop-slot.order)
          ∙ (ap (λ n. n + cond (s == c.loop-slot.slot) 1 0) (c.loop-slot.invariant.slots s) ∙ sym (once_more s c.loop-slot.slot)));
      count =
          let more : length (list_at 1 c.push_back.new.self) ≡ length (list_at 1 c.loop-slot.order) + 1
          = ap length free ∙ length-append (list_at 1 c.loop-slot.order) (c.loop-slot.slot ∷ []) in
          omega (arith, c.loop-slot.invariant.count);
      used = ap (list_at 0) c.push_back.ensures ∙ (get_or-set_other c.loop-slot.order.lists 1 0 _ [] (omega arith) ∙ c.loop-slot.invariant.used);
    }

pub returns-clause-slots : goal.returns-clause-slots
returns-clause-slots c s =
    let end : c.loop-slot.slot ≡ c.args.capacity = omega arith in
    subst (λ n. times_in s (list_at 1 c.loop-slot.order) ≡ once_below s n) end (c.loop-slot.invariant.slots s)
