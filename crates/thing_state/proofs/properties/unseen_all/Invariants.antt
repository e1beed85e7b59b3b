use Rattle.std.proofs.Common.{◌≡◌, ◌++◌, drop, map}
use Rattle.thing_state.specs.State.{properties_of, unseen}
use Rattle.thing_state.proofs.properties.unseen_all.Given as goal

abbrev pub invariant-loop-thing : goal.invariant-loop-thing
invariant-loop-thing l =
    l.versions.items ++ map (unseen l.left_out) (properties_of (drop l.thing-index l.things)) ≡ map (unseen l.left_out) (properties_of l.things)
