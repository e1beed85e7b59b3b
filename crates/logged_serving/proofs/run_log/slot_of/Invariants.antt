use Rattle.servient_script.specs.Merging.{turns_after}
use Rattle.logged_serving.proofs.Counting.{NoneBefore}
use Rattle.logged_serving.proofs.run_log.slot_of.Given as goal

abbrev pub invariant-loop-slot : goal.invariant-loop-slot
invariant-loop-slot g l = NoneBefore l.number l.slot (turns_after l.written (g.R.Handlers.slots l.rack))
