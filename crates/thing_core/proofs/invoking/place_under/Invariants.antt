use Rattle.std.proofs.Common.{◌≡◌, ◌++◌, drop}
use Rattle.thing_core.proofs.invoking.place_under.Given as goal

abbrev pub invariant-loop-index : goal.invariant-loop-index
invariant-loop-index l = l.place ++ drop l.index l.path ≡ l.path
