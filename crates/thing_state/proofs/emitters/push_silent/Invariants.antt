use Rattle.std.proofs.Common.{◌≡◌, ◌++◌, drop, map}
use Rattle.std.specs.List.{filter}
use Rattle.thing_site.specs.Site.{is_emitter}
use Rattle.thing_state.specs.State.{silent}
use Rattle.thing_state.proofs.emitters.push_silent.Given as goal

abbrev pub invariant-loop-index : goal.invariant-loop-index
invariant-loop-index l =
    l.last.items ++ map silent (filter is_emitter (drop l.index l.thing.affordances)) ≡ l.initial.last.items ++ map silent (filter is_emitter l.thing.affordances)
