-- The failures where the top call says that a file can't be read or that the network failed.
use Rattle.std.specs.Prelude.{◌≡◌, ◌⊎◌, ℕ, List, None, Option, Contains, IfSome}
use Rattle.servient_base.specs.Count.{Rose}
use Rattle.servient_outside.specs.declared.files.FileRead.{FileRead}
use Rattle.servient_outside.specs.declared.files.HeldFile.{HeldFile}
use Rattle.servient_outside.specs.Files.{content_of}
use Rattle.servient_outside.specs.Out.{OutSeen}
use Rattle.command_stages.specs.Stages.{Deed, reads_in, Around}
use Rattle.servient_cli.specs.Command.{Ends}

-- one of the files that were read isn't there, where it is recorded what the files hold
abbrev pub IsMissing : Option (List HeldFile) → List Deed → Type 0
IsMissing held seen = (file : FileRead) × Contains (reads_in seen) file × IfSome held (λ files. content_of files file.name ≡ None)

-- Status 3: reading a file failed, which the count of the files records, or a file isn't there. Status 6: a call of the
-- network failed, which its count records.
abbrev pub FailuresAreCounted : Type 0
FailuresAreCounted =
    (words : List (List ℕ)) (before now : Around) (out out_now : OutSeen) (result : ℕ) (ended : Ends words before now out out_now result)
    → (result ≡ 3 → Rose before.files.faults now.files.faults ⊎ IsMissing before.files.held ended.seen)
    × (result ≡ 6 → Rose before.outside.net.faults now.outside.net.faults)
