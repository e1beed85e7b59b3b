-- The view of an output over a writer.
use Rattle.std.specs.Prelude.{ℕ, None}
use Rattle.servient_outside.specs.Out.{OutSeen}
use Rattle.servient_edge.specs.declared.out_real.OutReal.{OutReal}

-- the writer
abbrev pub writer_of : {W : Type 0} → OutReal W → W
writer_of o = o.writer

-- the number of writes that failed
abbrev pub fault_count : {W : Type 0} → OutReal W → ℕ
fault_count o = o.faults

-- only that is seen of it
abbrev pub seen_of : {W : Type 0} → OutReal W → OutSeen
seen_of o = record { written = None; faults = fault_count o; room = None }
