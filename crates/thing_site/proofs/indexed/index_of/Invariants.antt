use Rattle.std.proofs.Common.{take}
use Rattle.thing_site.specs.Index.{Indexes}
use Rattle.thing_site.proofs.indexed.index_of.Given as goal

abbrev pub invariant-loop-number : goal.invariant-loop-number
invariant-loop-number l = Indexes l.things l.index.items (take l.number l.things)
