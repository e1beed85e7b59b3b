-- The view of files in memory. A read is recorded before it is answered; one that can't be recorded is none.
use Rattle.std.specs.Prelude.{ℕ, List, Some}
use Rattle.servient_outside.specs.declared.calls.CallCount.{CallCount}
use Rattle.servient_outside.specs.declared.files.HeldFile.{HeldFile}
use Rattle.servient_outside.specs.declared.files.FileRead.{FileRead}
use Rattle.servient_outside.specs.declared.files_memory.FilesMemory.{FilesMemory}
use Rattle.servient_outside.specs.CallCount.{none_fails}
use Rattle.servient_outside.specs.Files.{FilesSeen}

-- their calls of `read`
abbrev pub calls_of : FilesMemory → CallCount
calls_of f = f.calls

-- their content
abbrev pub held_files : FilesMemory → List HeldFile
held_files f = f.held

-- the reads so far, but those that were out of memory
abbrev pub listed_reads : FilesMemory → List FileRead
listed_reads f = f.reads.items

-- the number of reads that failed
abbrev pub fault_count : FilesMemory → ℕ
fault_count f = f.faults

-- all that is seen of them
abbrev pub seen_of : FilesMemory → FilesSeen
seen_of f = record { held = Some (held_files f); reads = Some (listed_reads f); faults = fault_count f; never_fail = none_fails (calls_of f).fails }
