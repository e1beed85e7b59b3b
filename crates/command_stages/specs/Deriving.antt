-- Plans and their models are read, and the root is derived. `derive PLAN` prints the descriptions.
use Rattle.std.specs.Prelude.{◌≡◌, ◌≤◌, ℕ, List, [], ◌∷◌, ◌++◌, length, Option, Some, Result, Ok, Err, codes}
use Rattle.std.specs.List.{flat_map}
use Rattle.wot_json.specs.Tree.{Json}
use Rattle.wot_json.specs.Json.{text_of, json_string}
use Rattle.wot_json.specs.Meaning.{json_of}
use Rattle.wot_json.specs.Reading.{tree_of}
use Rattle.wot_json.specs.declared.tree.Tree.{Tree}
use Rattle.tm_parts.specs.declared.library.AddFault.TheVariants as add
use Rattle.tm_parts.specs.Library.{Models, with_model, HasAddFault, MayAdd}
use Rattle.tm_derive.specs.Derivation.{derived}
use Rattle.tm_derive.specs.declared.fault.DeriveFault.{DeriveFault}
use Rattle.servient_outside.specs.declared.files.HeldFile.{HeldFile}
use Rattle.servient_outside.specs.Files.{content_of}
use Rattle.servient_plan.specs.declared.plan.Plan.{Plan}
use Rattle.servient_plan.specs.Plan.{plan_of}
use Rattle.command_stages.specs.declared.derivation.Planned.{Planned}
use Rattle.command_stages.specs.Lines.{input_line}
use Rattle.command_stages.specs.FaultLines.{refused_line}
use Rattle.command_stages.specs.Stages.{Deed, Outcome, goes_on, EndsWith, RunsOut, AndThen}
use Rattle.command_stages.specs.Reading.{ReadsFile, ReadsTree, longest_json}

-- Reading a plan.
pub data ReadsPlan (name : List ℕ) (tree : Tree) (seen : List Deed) (o : Outcome Plan) : Type 0 where
  is_plan : (plan : Plan) → plan_of (json_of tree) ≡ Ok plan → seen ≡ [] → o ≡ goes_on plan → ReadsPlan name tree seen o
  -- the member at this pointer is the first that isn't as a plan has it
  is_no_plan : (pointer : List ℕ) → plan_of (json_of tree) ≡ Err pointer
      → EndsWith [] 4 (input_line name (codes "plan " ++ json_string pointer)) seen o → ReadsPlan name tree seen o
  plan_memory : RunsOut [] seen o → ReadsPlan name tree seen o

-- ---- the models

-- the cause for which a model isn't taken, as the line on its file says it
pub data IsNotTaken (url : List ℕ) (model : Json) (models : Models) (what : List ℕ) : Type 0 where
  has_bad_url : HasAddFault add.BadUrl url model models → what ≡ codes "url" → IsNotTaken url model models what
  is_there_twice : HasAddFault add.Twice url model models → what ≡ codes "twice" → IsNotTaken url model models what
  is_no_model : HasAddFault add.NotModel url model models → what ≡ codes "model" → IsNotTaken url model models what

-- A model is put under its URL.
pub data AddsModel (models : Models) (url file : List ℕ) (tree : Tree) (seen : List Deed) (o : Outcome Models) : Type 0 where
  is_added : MayAdd url (json_of tree) models → seen ≡ [] → o ≡ goes_on (with_model url (json_of tree) models) → AddsModel models url file tree seen o
  is_not_added : (what : List ℕ) → IsNotTaken url (json_of tree) models what → EndsWith [] 4 (input_line file what) seen o
      → AddsModel models url file tree seen o
  add_memory : RunsOut [] seen o → AddsModel models url file tree seen o

-- One model of a plan: its file is read and judged, and it is put with those before it.
abbrev pub TakesModel : Option (List HeldFile) → List ℕ × List ℕ → Models → List Deed → Outcome Models → Type 0
TakesModel held model models =
    AndThen (ReadsFile held longest_json model.1) (λ content. AndThen (ReadsTree model.1 content) (AddsModel models model.0 model.1))

-- All of them, in the plan's order, each judged before the next is read; so a file that two models name is read twice.
abbrev pub TakesModels : Option (List HeldFile) → List (List ℕ × List ℕ) → Models → List Deed → Outcome Models → Type 0
TakesModels held [] models seen o = (seen ≡ []) × (o ≡ goes_on models)
TakesModels held (model ∷ left) models seen o = AndThen (TakesModel held model models) (TakesModels held left) seen o

-- a plan and its models, with nothing done
pub data IsPlanned (plan : Plan) (models : Models) (seen : List Deed) (o : Outcome Planned) : Type 0 where
  is_planned : seen ≡ [] → o ≡ goes_on (record { plan = plan; library = models }) → IsPlanned plan models seen o

-- Reading a plan and then its models.
abbrev pub ReadsPlanned : Option (List HeldFile) → List ℕ → List Deed → Outcome Planned → Type 0
ReadsPlanned held name =
    AndThen (ReadsFile held longest_json name) (λ content. AndThen (ReadsTree name content) (λ tree.
    AndThen (ReadsPlan name tree) (λ plan. AndThen (TakesModels held plan.models []) (IsPlanned plan))))

-- ---- the descriptions

-- the Things that are derived from the plan's root
abbrev pub derived_of : Planned → Result (List (List ℕ × Json)) DeriveFault
derived_of p = derived p.library p.plan.bindings p.plan.choices p.plan.frame p.plan.root

-- Deriving the root: all descriptions, the root's first, or the first fault.
pub data Derives (p : Planned) (seen : List Deed) (o : Outcome (List (List ℕ × Json))) : Type 0 where
  is_derived : (things : List (List ℕ × Json)) → derived_of p ≡ Ok things → seen ≡ [] → o ≡ goes_on things → Derives p seen o
  is_refused : (fault : DeriveFault) → derived_of p ≡ Err fault → EndsWith [] 5 (refused_line fault) seen o → Derives p seen o
  derive_memory : RunsOut [] seen o → Derives p seen o

-- each description's text, and a line feed
abbrev pub thing_text : List ℕ × Json → List ℕ
thing_text thing = text_of thing.1 ++ codes "\n"

abbrev pub things_text : List (List ℕ × Json) → List ℕ
things_text = flat_map thing_text

-- Printing them.
pub data Prints (things : List (List ℕ × Json)) (seen : List Deed) (o : Outcome (Unit {0})) : Type 0 where
  is_printed : EndsWith [] 0 (things_text things) seen o → Prints things seen o
  print_memory : RunsOut [] seen o → Prints things seen o

-- the work of `derive` on a plan and its models
abbrev pub DerivesAndPrints : Planned → List Deed → Outcome (Unit {0}) → Type 0
DerivesAndPrints p = AndThen (Derives p) Prints

-- ---- a plan with which nothing is wrong

-- the files hold these models, and they can be in one library; and all of them
abbrev pub AreFaultlessModels : List HeldFile → List (List ℕ × List ℕ) → Models → Models → Type 0
AreFaultlessModels files [] models all = all ≡ models
AreFaultlessModels files (model ∷ left) models all =
    (content : List ℕ) × (v : Json) × (content_of files model.1 ≡ Some content) × (length content ≤ longest_json)
    × (tree_of content ≡ Some v) × MayAdd model.0 v models × AreFaultlessModels files left (with_model model.0 v models) all

-- the bytes are this plan, and its models are there
pub record IsFaultlessPlan (files : List HeldFile) (p : Planned) (content : List ℕ) : Type 0 where
  pub value : Json
  pub read : tree_of content ≡ Some value
  pub plan_is : plan_of value ≡ Ok p.plan
  pub taken : AreFaultlessModels files p.plan.models [] p.library
