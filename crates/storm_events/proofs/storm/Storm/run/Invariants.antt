use Rattle.std.proofs.Common.{◌≡◌}
use Rattle.storm_events.specs.Storm.{storm_after}
use Rattle.storm_events.proofs.storm.Storm.run.Given as goal

abbrev pub invariant-loop-i : goal.invariant-loop-i
invariant-loop-i l = l.self ≡ storm_after l.seed l.i
