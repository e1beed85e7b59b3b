-- so far only that was taken away which is over
use Rattle.std.proofs.Common.{◌≡◌, length}
use Rattle.wot_registry.specs.Times.{standing_entries}
use Rattle.wot_registry.specs.Registry.{standing_contents}
use Rattle.wot_registry.proofs.registry.take_away_over.Given as goal

abbrev pub invariant-loop-id : goal.invariant-loop-id
invariant-loop-id l = record {
  contents : standing_contents l.now l.times l.directory ≡ standing_contents l.now l.initial.times l.initial.directory;
  times : standing_entries l.now l.times l.times ≡ standing_entries l.now l.initial.times l.initial.times;
}

abbrev pub decreases-loop-id : goal.decreases-loop-id
decreases-loop-id l = length l.times
