use Rattle.std.proofs.Common.{◌≡◌, drop}
use Rattle.thing_core.proofs.PlacedLists.{events_among}
use Rattle.thing_core.proofs.polling.event_from.Given as goal

abbrev pub invariant-loop-index : goal.invariant-loop-index
invariant-loop-index l = events_among (drop l.initial.number l.thing.affordances) ≡ events_among (drop l.index l.thing.affordances)
