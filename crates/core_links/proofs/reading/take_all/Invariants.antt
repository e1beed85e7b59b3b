use Rattle.std.proofs.Common.{◌≡◌, take}
use Rattle.std.specs.Prelude.{Some}
use Rattle.core_links.specs.Steps.{run}
use Rattle.core_links.proofs.reading.take_all.Given as goal

abbrev pub invariant-loop-index : goal.invariant-loop-index
invariant-loop-index l = run (Some l.initial.reader) (take l.index l.bytes) ≡ Some l.reader
