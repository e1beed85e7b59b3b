-- The files of devices: what is seen of them, and what a read and a write of one do.
use Rattle.std.specs.Prelude.{◌≡◌, ◌≢◌, ℕ, List, [], ◌∷◌, Option, None, IfSome, IsSome, option_map, if◌then◌else◌}
use Rattle.std.specs.Str.{bytes_eq}
use Rattle.servient_base.specs.Count.{Rose}
use Rattle.servient_outside.specs.declared.files.Got.{Got}
use Rattle.servient_outside.specs.declared.files.Got.TheVariants.{Whole, Absent, TooLong, Failed, NoMemory}
use Rattle.servient_outside.specs.declared.files.HeldFile.{HeldFile}
use Rattle.servient_outside.specs.Files.{content_of, AnswersRead}
use Rattle.servient_outside.specs.Told.{Continues}
use Rattle.file_devices.specs.declared.files.FileCall.{FileCall}
use Rattle.file_devices.specs.declared.files.FileCall.TheVariants as file_call
use Rattle.file_devices.specs.declared.files.Wrote.{Wrote}
use Rattle.file_devices.specs.declared.files.Wrote.TheVariants as wrote

-- The view of files at one time: their content and the calls that were made, where they are recorded, and the number of
-- calls that failed.
pub record FilesSeen : Type 0 where
  pub held : Option (List HeldFile)
  pub calls : Option (List FileCall)
  pub faults : ℕ

-- From one time to another just this call was made.
abbrev pub MakesCall : FilesSeen → FilesSeen → FileCall → Type 0
MakesCall before now one = Continues before.calls now.calls (one ∷ [])

-- the files when the first of this name was given this content; where there is none, nothing changes
abbrev pub with_content : List ℕ → List ℕ → List HeldFile → List HeldFile
with_content name content [] = []
with_content name content (file ∷ files) =
    if bytes_eq file.name name then record { name = file.name; bytes = content } ∷ files
    else file ∷ with_content name content files

-- a call that failed: it was counted
pub record Fails (before now : FilesSeen) : Type 0 where
  pub counted : Rose before.faults now.faults

-- the bytes that a read gave: those of the whole file, else none
abbrev pub given_bytes : Got → List ℕ → List ℕ
given_bytes Whole into = into
given_bytes Absent into = []
given_bytes TooLong into = []
given_bytes Failed into = []
given_bytes NoMemory into = []

-- A read of the file of this name, of which at most `limit` bytes are taken: it changes no file, it is one call, and it
-- is counted where it failed.
pub record Reads (before now : FilesSeen) (name : List ℕ) (limit : ℕ) (got : Got) (into : List ℕ) : Type 0 where
  pub answer : AnswersRead before.held name limit got into
  pub held : now.held ≡ before.held
  pub call : MakesCall before now (file_call.Read name (given_bytes got into) got)
  pub same : got ≢ Failed → now.faults ≡ before.faults
  pub failed : got ≡ Failed → Fails before now

-- A read that didn't fail gave these bytes and this answer. It changes the list of calls alone.
pub record Asks (before now : FilesSeen) (name bytes : List ℕ) (got : Got) : Type 0 where
  pub held : now.held ≡ before.held
  pub call : MakesCall before now (file_call.Read name bytes got)
  pub faults : now.faults ≡ before.faults

-- The files after a write of this content to the file of this name, by its answer: the file holds it from then on; or
-- there is no such file, and none was made; or it failed, which is counted, and what the file holds then is open.
abbrev pub LeavesWritten : FilesSeen → FilesSeen → List ℕ → List ℕ → Wrote → Type 0
LeavesWritten before now name content wrote.Done =
    IfSome before.held (λ files. IsSome (content_of files name))
    × (now.held ≡ option_map (with_content name content) before.held)
    × (now.faults ≡ before.faults)
LeavesWritten before now name content wrote.Absent =
    IfSome before.held (λ files. content_of files name ≡ None)
    × (now.held ≡ before.held)
    × (now.faults ≡ before.faults)
LeavesWritten before now name content wrote.Failed = Fails before now

-- A write of this content to the file of this name: it leaves the files so, and is one call.
pub record Writes (before now : FilesSeen) (name content : List ℕ) (wrote : Wrote) : Type 0 where
  pub leaves : LeavesWritten before now name content wrote
  pub call : MakesCall before now (file_call.Write name content wrote)
