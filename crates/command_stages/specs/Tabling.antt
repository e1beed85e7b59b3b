-- `derive PLAN --table`: a plan and its models are read, the root is derived, and in place of the descriptions comes the
-- table of what the plan gives each affordance.
use Rattle.std.specs.Prelude.{◌≡◌, ℕ, List, [], ◌++◌, Option}
use Rattle.wot_json.specs.Tree.{Json}
use Rattle.wot_terms.specs.declared.kind.Kind.{Kind}
use Rattle.thing_site.specs.Site.{expose_faults}
use Rattle.thing_site.specs.Exposing.{IsFirst}
use Rattle.thing_site.specs.declared.fault.ExposeFault.{ExposeFault}
use Rattle.thing_site.specs.declared.fault.ExposeFault.TheVariants.{NoMemory}
use Rattle.servient_outside.specs.declared.files.HeldFile.{HeldFile}
use Rattle.servient_plan.specs.declared.plan.Plan.{Plan}
use Rattle.plan_table.specs.Table.{table_text}
use Rattle.command_stages.specs.declared.derivation.Planned.{Planned}
use Rattle.command_stages.specs.Lines.{input_line}
use Rattle.command_stages.specs.FaultLines.{misfit_text}
use Rattle.command_stages.specs.Stages.{Deed, Outcome, EndsWith, RunsOut, AndThen}
use Rattle.command_stages.specs.Deriving.{ReadsPlanned, Derives}

-- Printing the table of a plan of this name and of its Things, where a rack has handlers of these kinds.
pub data PrintsTable (name : List ℕ) (kinds : List Kind) (plan : Plan) (things : List (List ℕ × Json)) (seen : List Deed) (o : Outcome (Unit {0})) : Type 0 where
  is_tabled : expose_faults kinds plan.slots things ≡ [] → EndsWith [] 0 (table_text plan things kinds) seen o → PrintsTable name kinds plan things seen o
  -- the Things don't fit the rack, and this fault, which is the first, is told after the table
  is_tabled_with : (fault : ExposeFault) → ¬ (fault ≡ NoMemory) → IsFirst (expose_faults kinds plan.slots things) fault
      → EndsWith [] 4 (table_text plan things kinds ++ input_line name (misfit_text fault)) seen o → PrintsTable name kinds plan things seen o
  table_memory : RunsOut [] seen o → PrintsTable name kinds plan things seen o

-- the work on a plan and its models
abbrev pub Tables : List ℕ → List Kind → Planned → List Deed → Outcome (Unit {0}) → Type 0
Tables name kinds p = AndThen (Derives p) (PrintsTable name kinds p.plan)

-- all of it
abbrev pub TablesPlan : Option (List HeldFile) → List Kind → List ℕ → List Deed → Outcome (Unit {0}) → Type 0
TablesPlan held kinds name = AndThen (ReadsPlanned held name) (Tables name kinds)
