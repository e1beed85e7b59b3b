-- so far the slots below `slot` are free, and the room stays
use Rattle.std.proofs.Common.{◌≡◌, ◌≤◌, ℕ, length, vec_capacity}
use Rattle.cases_exchanges.specs.Plain.{times_free}
use Rattle.slot_lists.specs.Counts.{once_below}
use Rattle.cases_exchanges.proofs.plain.all_slots.Given as goal

abbrev pub invariant-loop-slot : goal.invariant-loop-slot
invariant-loop-slot l = record {
  slots : (s : ℕ) → times_free s l.free.items ≡ once_below s l.slot;
  count : length l.free.items ≡ l.slot;
  room : l.fn.capacity ≤ vec_capacity l.free;
}
