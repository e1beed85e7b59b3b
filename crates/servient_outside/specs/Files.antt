-- The view of files: a read, and the record of it that the files have.
use Rattle.std.specs.Prelude.{◌≡◌, ◌≤◌, ◌<◌, ℕ, Bool, true, List, [], ◌∷◌, Option, Some, None, IfSome, IsSomeAnd, length, if◌then◌else◌}
use Rattle.std.specs.Str.{bytes_eq}
use Rattle.servient_outside.specs.declared.files.Got.{Got}
use Rattle.servient_outside.specs.declared.files.Got.TheVariants.{Whole, Absent, TooLong, Failed, NoMemory}
use Rattle.servient_outside.specs.declared.files.HeldFile.{HeldFile}
use Rattle.servient_outside.specs.declared.files.FileRead.{FileRead}
use Rattle.servient_base.specs.Count.{Rose}
use Rattle.servient_outside.specs.Told.{Continues}

-- the content of the first file of this name, where there is one
abbrev pub content_of : List HeldFile → List ℕ → Option (List ℕ)
content_of [] name = None
content_of (file ∷ files) name = if bytes_eq file.name name then Some file.bytes else content_of files name

-- A read answers so of the file of this name, where the content of files is recorded: all of it is in `into` and isn't
-- longer than the limit, or there is no such file, or its content is longer than the limit.
abbrev pub AnswersRead : Option (List HeldFile) → List ℕ → ℕ → Got → List ℕ → Type 0
AnswersRead held name limit Whole into =
    (length into ≤ limit) × IfSome held (λ files. content_of files name ≡ Some into)
AnswersRead held name limit Absent into = IfSome held (λ files. content_of files name ≡ None)
AnswersRead held name limit TooLong into =
    IfSome held (λ files. IsSomeAnd (content_of files name) (λ content. limit < length content))
AnswersRead held name limit Failed into = Unit {0}
AnswersRead held name limit NoMemory into = Unit {0}

-- the reads that a call adds to the list of them: itself, but not where it was out of memory
abbrev pub added_reads : List ℕ → ℕ → Got → List FileRead
added_reads name limit NoMemory = []
added_reads name limit Whole = record { name = name; limit = limit } ∷ []
added_reads name limit Absent = record { name = name; limit = limit } ∷ []
added_reads name limit TooLong = record { name = name; limit = limit } ∷ []
added_reads name limit Failed = record { name = name; limit = limit } ∷ []

-- The view of files at one time: their content and the reads that were made, where they record it, the number of reads
-- that failed, and whether it is known that none fails from now on.
pub record FilesSeen : Type 0 where
  pub held : Option (List HeldFile)
  pub reads : Option (List FileRead)
  pub faults : ℕ
  pub never_fail : Bool

-- Where no read fails from now on, none has failed later either.
abbrev pub NoReadFailed : FilesSeen → FilesSeen → Type 0
NoReadFailed before now = before.never_fail ≡ true → (now.never_fail ≡ true) × (now.faults ≡ before.faults)

-- From one time to another there was one call, which was answered so: the files hold what they held, the read comes
-- after those before it, and the count of failures never falls, rose where the read failed, and stays where none fails.
pub record FilesShow (before now : FilesSeen) (name : List ℕ) (limit : ℕ) (got : Got) : Type 0 where
  pub held : now.held ≡ before.held
  pub reads : Continues before.reads now.reads (added_reads name limit got)
  pub faults : before.faults ≤ now.faults
  pub failed : got ≡ Failed → Rose before.faults now.faults
  pub no_failure : NoReadFailed before now
