-- The view of the files of the machine.
use Rattle.std.specs.Prelude.{ℕ, false, None}
use Rattle.servient_outside.specs.Files.{FilesSeen}
use Rattle.servient_edge.specs.declared.files_real.FilesReal.{FilesReal}

-- The number of reads that failed. `FilesReal` takes the types of the runtime, of its files and of its directories.
abbrev pub fault_count : {R F D : Type 0} → FilesReal R F D → ℕ
fault_count f = f.faults

-- only that is seen of them
abbrev pub seen_of : {R F D : Type 0} → FilesReal R F D → FilesSeen
seen_of f = record { held = None; reads = None; faults = fault_count f; never_fail = false }
