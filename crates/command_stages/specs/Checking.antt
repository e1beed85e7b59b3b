-- `check TD`: a Thing Description is judged.
use Rattle.std.specs.Prelude.{◌≡◌, ℕ, List, [], Some, slice_get}
use Rattle.wot_json.specs.Tree.{Json}
use Rattle.wot_json.specs.Meaning.{json_of}
use Rattle.wot_json.specs.Reading.{tree_of}
use Rattle.wot_json.specs.declared.tree.Tree.{Tree}
use Rattle.wot_terms.specs.Faults.{faults_of}
use Rattle.command_stages.specs.Lines.{invalid_line, valid_line}
use Rattle.command_stages.specs.Stages.{Deed, Outcome, EndsWith, RunsOut, AndThen}
use Rattle.command_stages.specs.Reading.{ReadsTree}

-- Judging a description.
pub data Judges (tree : Tree) (seen : List Deed) (o : Outcome (Unit {0})) : Type 0 where
  -- it has no fault
  is_valid : faults_of (json_of tree) ≡ [] → EndsWith [] 0 valid_line seen o → Judges tree seen o
  -- it has faults, and this is the first
  is_refused : (number : ℕ) (pointer : List ℕ) → slice_get (faults_of (json_of tree)) 0 ≡ Some (number, pointer)
      → EndsWith [] 5 (invalid_line number pointer) seen o → Judges tree seen o
  judge_memory : RunsOut [] seen o → Judges tree seen o

-- the verdict on the content of a description
abbrev pub Checks : List ℕ → List ℕ → List Deed → Outcome (Unit {0}) → Type 0
Checks name content = AndThen (ReadsTree name content) Judges

-- nothing is wrong with a description: it is a JSON text without a fault
abbrev pub IsFaultlessDescription : List ℕ → Type 0
IsFaultlessDescription content = (v : Json) × (tree_of content ≡ Some v) × (faults_of v ≡ [])
