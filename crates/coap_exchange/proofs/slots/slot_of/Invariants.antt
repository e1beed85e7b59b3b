-- None of those before `current` is the one.
use Rattle.std.proofs.Common.{◌≡◌, IfSome, find, length}
use Rattle.slot_lists.specs.Lists.{list_at, from_slot, IsIn}
use Rattle.coap_exchange.specs.Slots.{entry_at, is_of}
use Rattle.coap_exchange.proofs.slots.slot_of.Given as goal

abbrev pub invariant-loop-current : goal.invariant-loop-current
invariant-loop-current l = record {
  found : find (λ slot. is_of l.from l.id (entry_at l.entries slot)) (list_at l.bucket l.buckets)
      ≡ find (λ slot. is_of l.from l.id (entry_at l.entries slot)) (from_slot l.current (list_at l.bucket l.buckets));
  member : IfSome l.current (IsIn l.bucket l.buckets);
}

abbrev pub decreases-loop-current : goal.decreases-loop-current
decreases-loop-current l = length (from_slot l.current (list_at l.bucket l.buckets))
