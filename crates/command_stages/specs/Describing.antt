-- The files of a command that consumes: a description, which is read and judged, and a value that is handed in.
use Rattle.std.specs.Prelude.{◌≡◌, ℕ, List, [], Option, Some, None, slice_get}
use Rattle.wot_json.specs.Meaning.{json_of}
use Rattle.wot_json.specs.declared.tree.Tree.{Tree}
use Rattle.wot_terms.specs.Faults.{faults_of}
use Rattle.servient_outside.specs.declared.files.HeldFile.{HeldFile}
use Rattle.command_stages.specs.Lines.{invalid_line}
use Rattle.command_stages.specs.Stages.{Deed, Outcome, goes_on, EndsWith, RunsOut, AndThen}
use Rattle.command_stages.specs.Reading.{ReadsFile, ReadsTree, longest_json}

-- ---- the files

-- A description without a fault is taken.
pub data TakesDescription (tree : Tree) (seen : List Deed) (o : Outcome Tree) : Type 0 where
  is_taken : faults_of (json_of tree) ≡ [] → seen ≡ [] → o ≡ goes_on tree → TakesDescription tree seen o
  -- it has faults, and this is the first
  has_fault : (number : ℕ) (pointer : List ℕ) → slice_get (faults_of (json_of tree)) 0 ≡ Some (number, pointer)
      → EndsWith [] 5 (invalid_line number pointer) seen o → TakesDescription tree seen o
  description_memory : RunsOut [] seen o → TakesDescription tree seen o

-- The description is read and judged.
abbrev pub DescriptionIn : List ℕ → List ℕ → List Deed → Outcome Tree → Type 0
DescriptionIn name content = AndThen (ReadsTree name content) TakesDescription

abbrev pub ReadsDescription : Option (List HeldFile) → List ℕ → List Deed → Outcome Tree → Type 0
ReadsDescription held name = AndThen (ReadsFile held longest_json name) (DescriptionIn name)

-- The value that is handed in is read, if a file is named.
abbrev pub ReadsValue : Option (List HeldFile) → List ℕ → List Deed → Outcome Tree → Type 0
ReadsValue held name = AndThen (ReadsFile held longest_json name) (ReadsTree name)

pub data HasInput (tree : Tree) (seen : List Deed) (o : Outcome (Option Tree)) : Type 0 where
  has_input : seen ≡ [] → o ≡ goes_on (Some tree) → HasInput tree seen o

pub data HasNoInput (seen : List Deed) (o : Outcome (Option Tree)) : Type 0 where
  has_no_input : seen ≡ [] → o ≡ goes_on None → HasNoInput seen o

abbrev pub ReadsInput : Option (List HeldFile) → Option (List ℕ) → List Deed → Outcome (Option Tree) → Type 0
ReadsInput held None = HasNoInput
ReadsInput held (Some name) = AndThen (ReadsValue held name) HasInput
