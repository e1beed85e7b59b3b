use Rattle.std.proofs.Common.{◌≡◌, ◌++◌, drop, map}
use Rattle.thing_state.specs.State.{unseen}
use Rattle.thing_state.proofs.PlacedLists.{properties_among}
use Rattle.thing_state.proofs.properties.push_unseen.Given as goal

abbrev pub invariant-loop-index : goal.invariant-loop-index
invariant-loop-index l =
    l.versions.items ++ map (unseen l.left_out) (properties_among (drop l.index l.thing.affordances)) ≡ l.initial.versions.items ++ map (unseen l.left_out) (properties_among l.thing.affordances)
