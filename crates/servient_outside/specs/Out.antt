-- The view of an output: the answer to a write, and the bytes written.
use Rattle.std.specs.Prelude.{◌≡◌, ◌≤◌, ◌-◌, ℕ, List, ◌++◌, Option, Some, length}
use Rattle.servient_base.specs.Count.{Rose}
use Rattle.servient_outside.specs.declared.out.Put.{Put}
use Rattle.servient_outside.specs.declared.out.Put.TheVariants.{Done, Failed}
use Rattle.servient_outside.specs.Told.{Continues}

-- All of the piece was written; or the call failed, and a prefix of the piece was written.
abbrev pub Writes : Option (List ℕ) → Option (List ℕ) → Put → List ℕ → Type 0
Writes before now Done piece = Continues before now piece
Writes before now Failed piece =
    (prefix : List ℕ) × (rest : List ℕ) × (piece ≡ prefix ++ rest) × Continues before now prefix

-- The view of an output at one time: the bytes written, where it records them, the number of writes that failed, and
-- the number of bytes more for which it has room, where it is known that no write fails that fits.
pub record OutSeen : Type 0 where
  pub written : Option (List ℕ)
  pub faults : ℕ
  pub room : Option ℕ

-- A piece that fits is written, and leaves room for the others.
abbrev pub TakesWhatFits : OutSeen → OutSeen → Put → List ℕ → Type 0
TakesWhatFits before now put piece =
    (room : ℕ) → before.room ≡ Some room → length piece ≤ room
    → (put ≡ Done) × (now.room ≡ Some (room - length piece)) × (now.faults ≡ before.faults)

-- Where there is room for a text, no write of it fails.
abbrev pub NoWriteFailed : OutSeen → OutSeen → List ℕ → Type 0
NoWriteFailed before now text = (room : ℕ) → before.room ≡ Some room → length text ≤ room → now.faults ≡ before.faults

-- From one time to another a piece was to be written, which was answered so. The count of failures never falls, and
-- rose where the write failed.
pub record OutShows (before now : OutSeen) (put : Put) (piece : List ℕ) : Type 0 where
  pub writes : Writes before.written now.written put piece
  pub faults : before.faults ≤ now.faults
  pub failed : put ≡ Failed → Rose before.faults now.faults
  pub fits : TakesWhatFits before now put piece
