use Rattle.file_devices.proofs.SlotCounts.{Counts}
use Rattle.file_devices.proofs.entries.count_slots.Given as goal

abbrev pub invariant-loop-entry : goal.invariant-loop-entry
invariant-loop-entry l = Counts l.entries l.entry-index l.count
