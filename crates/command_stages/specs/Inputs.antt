-- The files of a replay: a plan with its models, or the built-in Thing where none is named, and the events of a script.
use Rattle.std.specs.Prelude.{◌≡◌, ℕ, List, [], ◌++◌, codes, decimal, Option, Some, None}
use Rattle.tm_parts.specs.Library.{with_model}
use Rattle.servient_outside.specs.declared.files.HeldFile.{HeldFile}
use Rattle.servient_outside.specs.declared.net.EventWithBytes.{EventWithBytes}
use Rattle.servient_plan.specs.BuiltIn.{built_in_plan, built_in_url, built_in_model}
use Rattle.command_stages.specs.declared.derivation.Planned.{Planned}
use Rattle.command_stages.specs.declared.inputs.Inputs.{Inputs}
use Rattle.servient_script.specs.Script.{IsScript, IsFirstBadLine}
use Rattle.command_stages.specs.Lines.{input_line}
use Rattle.command_stages.specs.Stages.{Deed, Outcome, goes_on, EndsWith, RunsOut, AndThen}
use Rattle.command_stages.specs.Reading.{ReadsFile}
use Rattle.servient_script.specs.Script.{longest_script}
use Rattle.command_stages.specs.Deriving.{ReadsPlanned}

-- ---- the plan

-- the built-in Thing is derived from its one model, like any other
abbrev pub built_in : Planned
built_in = record { plan = built_in_plan; library = with_model built_in_url built_in_model [] }

pub data TakesBuiltIn (seen : List Deed) (o : Outcome Planned) : Type 0 where
  is_built_in : seen ≡ [] → o ≡ goes_on built_in → TakesBuiltIn seen o
  built_in_memory : RunsOut [] seen o → TakesBuiltIn seen o

-- The plan of this file with its models, or the built-in Thing where no plan is named.
abbrev pub Plans : Option (List HeldFile) → Option (List ℕ) → List Deed → Outcome Planned → Type 0
Plans held None = TakesBuiltIn
Plans held (Some name) = ReadsPlanned held name

-- the name that a line on the fit to the rack gives the plan: its file, or `builtin`
abbrev pub plan_name : Option (List ℕ) → List ℕ
plan_name None = codes "builtin"
plan_name (Some name) = name

-- ---- the script

-- Reading a script.
pub data ReadsScript (name content : List ℕ) (seen : List Deed) (o : Outcome (List EventWithBytes)) : Type 0 where
  -- it is the script of these events and no others
  is_script : (events : List EventWithBytes) → IsScript content events → ((others : List EventWithBytes) → IsScript content others → events ≡ others)
      → seen ≡ [] → o ≡ goes_on events → ReadsScript name content seen o
  -- a line of it is outside the grammar, and there are no events whose script it is
  is_no_script : (line : ℕ) → IsFirstBadLine content line → ((events : List EventWithBytes) → ¬ (IsScript content events))
      → EndsWith [] 4 (input_line name (codes "line " ++ decimal line)) seen o → ReadsScript name content seen o
  script_memory : RunsOut [] seen o → ReadsScript name content seen o

abbrev pub ReadsEvents : Option (List HeldFile) → List ℕ → List Deed → Outcome (List EventWithBytes) → Type 0
ReadsEvents held name = AndThen (ReadsFile held longest_script name) (ReadsScript name)

-- The reads of a replay: the plan and its models, and then the script.
pub data HasRead (p : Planned) (events : List EventWithBytes) (seen : List Deed) (o : Outcome Inputs) : Type 0 where
  has_read : seen ≡ [] → o ≡ goes_on (record { planned = p; events = events }) → HasRead p events seen o

abbrev pub ReadsInputs : Option (List HeldFile) → Option (List ℕ) → List ℕ → List Deed → Outcome Inputs → Type 0
ReadsInputs held plan script = AndThen (Plans held plan) (λ p. AndThen (ReadsEvents held script) (HasRead p))
