-- so far the slots below `slot` are free
use Rattle.std.proofs.Common.{◌≡◌, ◌≤◌, ℕ, [], length}
use Rattle.slot_lists.specs.Lists.{list_at}
use Rattle.slot_lists.specs.Counts.{once_below, times_in}
use Rattle.coap_exchange.proofs.slots.all_free.Given as goal

abbrev pub invariant-loop-slot : goal.invariant-loop-slot
invariant-loop-slot l = record {
  capacity : l.kinds.capacity ≡ l.fn.capacity;
  lists : length l.kinds.lists ≡ 3;
  slots : (s : ℕ) → times_in s (list_at 0 l.kinds) ≡ once_below s l.slot;
  count : length (list_at 0 l.kinds) ≡ l.slot;
  others : (i : ℕ) → 1 ≤ i → list_at i l.kinds ≡ [];
}
