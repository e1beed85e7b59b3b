use Rattle.std.proofs.Common.{◌≡◌, drop}
use Rattle.thing_state.specs.State.{last_of}
use Rattle.thing_core.proofs.acting.last_in.Given as goal

abbrev pub invariant-loop-latest : goal.invariant-loop-latest
invariant-loop-latest l = last_of l.target (drop l.latest-index l.last) ≡ last_of l.target l.last
