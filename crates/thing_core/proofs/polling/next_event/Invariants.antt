use Rattle.std.proofs.Common.{length, ◌-◌, ◌≡◌}
use Rattle.thing_core.specs.Rounds.{events_left}
use Rattle.thing_core.proofs.polling.next_event.Given as goal

abbrev pub invariant-loop-round : goal.invariant-loop-round
invariant-loop-round l = events_left l.round l.things ≡ events_left l.initial.round l.things

abbrev pub decreases-loop-round : goal.decreases-loop-round
decreases-loop-round l = length l.things - l.round.thing
