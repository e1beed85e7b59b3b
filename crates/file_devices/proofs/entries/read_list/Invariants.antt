use Rattle.file_devices.proofs.ListRead.{Leads}
use Rattle.file_devices.proofs.entries.read_list.Given as goal

abbrev pub invariant-loop-index : goal.invariant-loop-index
invariant-loop-index l = Leads l.items l.index l.entries
