-- Before the moment, none of the list is due of which none is due in the rest.
use Rattle.std.proofs.Common.{◌≡◌, ◌<◌, ℕ, false, IfSome, length}
use Rattle.std.specs.List.{list_any}
use Rattle.slot_lists.specs.Lists.{list_at, from_slot, IsIn}
use Rattle.coap_observe.specs.Kept.{observer_at}
use Rattle.coap_observe.specs.Watching.{is_due}
use Rattle.coap_observe.proofs.walks.next_due.Given as goal

abbrev pub invariant-loop-current : goal.invariant-loop-current
invariant-loop-current l = record {
  none : (now : ℕ) → now < l.moment → list_any (λ slot. is_due now (observer_at l.observers slot)) (from_slot l.current (list_at 0 l.order)) ≡ false
      → list_any (λ slot. is_due now (observer_at l.observers slot)) (list_at 0 l.order) ≡ false;
  member : IfSome l.current (IsIn 0 l.order);
}

abbrev pub decreases-loop-current : goal.decreases-loop-current
decreases-loop-current l = length (from_slot l.current (list_at 0 l.order))
