-- The rest of the walk changes the list of now into the one into which the whole walk changes the old list.
use Rattle.std.proofs.Common.{◌≡◌, ℕ, IfSome, cond, length}
use Rattle.slot_lists.specs.Lists.{list_at, from_slot, is_among, IsIn}
use Rattle.coap_observe.specs.Kept.{observer_at}
use Rattle.coap_observe.specs.Watching.{where_so, is_of_target, marked}
use Rattle.coap_observe.proofs.walks.mark.Given as goal

abbrev pub invariant-loop-current : goal.invariant-loop-current
invariant-loop-current l = record {
  count : length l.observers ≡ length l.initial.observers;
  each : (slot : ℕ) → cond (is_among slot (from_slot l.current (list_at l.list l.lists))) (where_so (is_of_target l.target) marked (observer_at l.observers slot)) (observer_at l.observers slot)
      ≡ cond (is_among slot (list_at l.list l.lists)) (where_so (is_of_target l.target) marked (observer_at l.initial.observers slot)) (observer_at l.initial.observers slot);
  member : IfSome l.current (IsIn l.list l.lists);
}

abbrev pub decreases-loop-current : goal.decreases-loop-current
decreases-loop-current l = length (from_slot l.current (list_at l.list l.lists))
