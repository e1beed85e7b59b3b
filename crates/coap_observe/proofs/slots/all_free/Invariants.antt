-- so far the slots below `slot` are free
use Rattle.std.proofs.Common.{◌≡◌, ℕ, [], length}
use Rattle.slot_lists.specs.Lists.{list_at}
use Rattle.slot_lists.specs.Counts.{once_below, times_in}
use Rattle.coap_observe.proofs.slots.all_free.Given as goal

abbrev pub invariant-loop-slot : goal.invariant-loop-slot
invariant-loop-slot l = record {
  capacity : l.order.capacity ≡ l.fn.capacity;
  lists : length l.order.lists ≡ 2;
  slots : (s : ℕ) → times_in s (list_at 1 l.order) ≡ once_below s l.slot;
  count : length (list_at 1 l.order) ≡ l.slot;
  used : list_at 0 l.order ≡ [];
}
