-- The promise of the top call over files, a network and an output in memory none of whose calls fails.
use Rattle.std.specs.Prelude.{◌≡◌, ◌+◌, ◌≤◌, ℕ, List, [], length}
use Rattle.servient_outside.specs.declared.files_memory.FilesMemory.{FilesMemory}
use Rattle.servient_outside.specs.declared.net_memory.NetMemory.{NetMemory}
use Rattle.servient_outside.specs.declared.out_memory.OutMemory.{OutMemory}
use Rattle.servient_outside.specs.FilesMemory as files
use Rattle.servient_outside.specs.NetMemory as network
use Rattle.servient_outside.specs.Out.{OutSeen}
use Rattle.servient_outside.specs.OutMemory as output
use Rattle.command_stages.specs.Stages.{Around, text_in}
use Rattle.servient_cli.specs.Command.{Ends, NothingFailed}

-- these files have no calls that fail, and none failed
pub record AreWhole (f : FilesMemory) : Type 0 where
  pub none_fail : (files.calls_of f).fails ≡ []
  pub none_failed : files.fault_count f ≡ 0

-- this output has no calls that fail, none failed, and it has room for this text
pub record HasRoomFor (o : OutMemory) (text : List ℕ) : Type 0 where
  pub none_fail : (output.calls_of o).fails ≡ []
  pub none_failed : output.fault_count o ≡ 0
  pub room : length (output.written_bytes o) + length text ≤ output.room_of o

-- this network has no calls that fail, and none failed
pub record IsWhole (n : NetMemory) : Type 0 where
  pub none_fail : (network.calls_of n).fails ≡ []
  pub none_failed : network.fault_count n ≡ 0

-- "Memory alone": over such files, such a network and such an output, with room for what the command writes, nothing has
-- failed of what the clause `complete` of the top call asks about, whatever the command. So a run over memory needs no
-- look at what failed.
abbrev pub NothingFailsInMemory : Type 0
NothingFailsInMemory =
    (words : List (List ℕ)) (before now : Around) (out out_now : OutSeen) (result : ℕ) (f : FilesMemory) (n : NetMemory) (o : OutMemory)
    → (ended : Ends words before now out out_now result) → before.files ≡ files.seen_of f → AreWhole f
    → before.outside.net ≡ network.net_seen n → IsWhole n → out ≡ output.seen_of o → HasRoomFor o (text_in ended.seen)
    → NothingFailed before now out out_now
