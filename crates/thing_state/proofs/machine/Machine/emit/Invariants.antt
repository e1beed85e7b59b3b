use Rattle.std.proofs.Common.{◌≡◌, ◌++◌, take, drop, map}
use Rattle.thing_state.specs.State.{renewed}
use Rattle.thing_state.proofs.machine.Machine.emit.Given as goal

abbrev pub invariant-loop-latest : goal.invariant-loop-latest
invariant-loop-latest l =
    take l.latest-index l.latest-items ++ map (renewed (record { target = l.target; text = l.text })) (drop l.latest-index l.latest-items)
    ≡ map (renewed (record { target = l.target; text = l.text })) l.initial.latest-items
