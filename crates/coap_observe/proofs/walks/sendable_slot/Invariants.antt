-- None of those before `current` is the one.
use Rattle.std.proofs.Common.{◌≡◌, IfSome, find, length}
use Rattle.slot_lists.specs.Lists.{list_at, from_slot, IsIn}
use Rattle.coap_observe.specs.Kept.{observer_at, is_sendable_at}
use Rattle.coap_observe.proofs.walks.sendable_slot.Given as goal

abbrev pub invariant-loop-current : goal.invariant-loop-current
invariant-loop-current l = record {
  found : find (λ slot. is_sendable_at l.endpoints l.observers l.count (observer_at l.observers slot)) (list_at 0 l.order)
      ≡ find (λ slot. is_sendable_at l.endpoints l.observers l.count (observer_at l.observers slot)) (from_slot l.current (list_at 0 l.order));
  member : IfSome l.current (IsIn 0 l.order);
}

abbrev pub decreases-loop-current : goal.decreases-loop-current
decreases-loop-current l = length (from_slot l.current (list_at 0 l.order))
