-- The view of devices' files in memory.
use Rattle.std.specs.Prelude.{◌≡◌, ◌≤◌, ◌<◌, ℕ, Bool, List, Option, Some, None, IsSome, length, IsTrue}
use Rattle.servient_base.specs.Count.{one_more}
use Rattle.servient_outside.specs.CallCount.{is_failing}
use Rattle.std.specs.Str.{bytes_eq}
use Rattle.servient_outside.specs.declared.files.Got.{Got}
use Rattle.servient_outside.specs.declared.files.Got.TheVariants.{Whole, Absent, TooLong, Failed, NoMemory}
use Rattle.servient_outside.specs.declared.files.HeldFile.{HeldFile}
use Rattle.file_devices.specs.declared.call_log.CallLog.{CallLog}
use Rattle.file_devices.specs.declared.files.FileCall.{FileCall}
use Rattle.file_devices.specs.declared.files_memory.DeviceFilesMemory.{DeviceFilesMemory}
use Rattle.servient_outside.specs.Files.{content_of}
use Rattle.servient_outside.specs.Told.{told_at_zero}
use Rattle.file_devices.specs.declared.files.Wrote.{Wrote}
use Rattle.file_devices.specs.declared.files.Wrote.TheVariants as wrote
use Rattle.file_devices.specs.Files.{FilesSeen, with_content}

-- their content
abbrev pub held_files : DeviceFilesMemory → List HeldFile
held_files f = f.files.items

-- the next call is among those that fail
abbrev pub FailsNext : DeviceFilesMemory → Type 0
FailsNext f = IsTrue (is_failing f.fails (one_more f.made))

-- one more call was made, and the same ones fail
abbrev pub IsCounted : DeviceFilesMemory → DeviceFilesMemory → Type 0
IsCounted before now = (now.made ≡ one_more before.made) × (now.fails ≡ before.fails)

-- the calls of a log, where it lists all of them
abbrev pub told_calls : CallLog → Option (List FileCall)
told_calls log = told_at_zero log.lost log.calls.items

-- the calls that were listed, and the number of those for which there was no memory
abbrev pub listed_calls : DeviceFilesMemory → List FileCall
listed_calls f = f.log.calls.items

abbrev pub lost_calls : DeviceFilesMemory → ℕ
lost_calls f = f.log.lost

-- all that is seen of them
abbrev pub seen_of : DeviceFilesMemory → FilesSeen
seen_of f = record { held = Some (held_files f); calls = told_calls f.log; faults = f.faults }

-- a file has this name
abbrev pub is_named : List ℕ → HeldFile → Bool
is_named name file = bytes_eq file.name name

-- a read of a file that has this content
abbrev pub ReadsContent : List ℕ → ℕ → Got → List ℕ → Type 0
ReadsContent content limit Whole into = (length into ≤ limit) × (content ≡ into)
ReadsContent content limit TooLong into = limit < length content
ReadsContent content limit NoMemory into = Unit {0}
ReadsContent content limit Absent into = ⊥
ReadsContent content limit Failed into = ⊥

-- a write among files that doesn't fail
abbrev pub WritesAmong : List HeldFile → List ℕ → List ℕ → Wrote → List HeldFile → Type 0
WritesAmong before name content wrote.Done now = IsSome (content_of before name) × (now ≡ with_content name content before)
WritesAmong before name content wrote.Absent now = (content_of before name ≡ None) × (now ≡ before)
WritesAmong before name content wrote.Failed now = ⊥
