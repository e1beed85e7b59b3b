use Rattle.std.proofs.Common.{◌≡◌, ◌++◌, drop, map}
use Rattle.thing_site.specs.Site.{emitters_of}
use Rattle.thing_state.specs.State.{silent}
use Rattle.thing_state.proofs.emitters.silent_all.Given as goal

abbrev pub invariant-loop-thing : goal.invariant-loop-thing
invariant-loop-thing l =
    l.last.items ++ map silent (emitters_of (drop l.thing-index l.things)) ≡ map silent (emitters_of l.things)
