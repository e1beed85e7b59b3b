-- Opening a servient: the root of a plan is derived, and each affordance of its Things gets its handler.
use Rattle.std.specs.Prelude.{◌≡◌, ℕ, List, [], Result, Ok, Err}
use Rattle.wot_json.specs.Tree.{Json}
use Rattle.wot_terms.specs.declared.kind.Kind.{Kind}
use Rattle.thing_site.specs.Site.{site_of, expose_faults}
use Rattle.thing_site.specs.Exposing.{IsFirst}
use Rattle.thing_site.specs.declared.fault.ExposeFault.{ExposeFault}
use Rattle.thing_site.specs.declared.fault.ExposeFault.TheVariants.{NoMemory}
use Rattle.servient_plan.specs.declared.plan.Plan.{Plan}
use Rattle.servient_core.specs.Machine.{Site}
use Rattle.servient_core.specs.declared.layers.Layers.{Layers}
use Rattle.servient_cli.specs.declared.opening.CountedServient.{CountedServient}
use Rattle.command_stages.specs.declared.derivation.Planned.{Planned}
use Rattle.command_stages.specs.declared.ending.Ended.{Ended}
use Rattle.command_stages.specs.Lines.{input_line}
use Rattle.command_stages.specs.FaultLines.{misfit_text}
use Rattle.command_stages.specs.Stages.{Deed, Outcome, goes_on, EndsWith, RunsOut, AndThen}
use Rattle.command_stages.specs.Deriving.{Derives}

-- Giving the affordances of Things their handlers, where those of the rack are of these kinds.
pub data Exposes (name : List ℕ) (kinds : List Kind) (plan : Plan) (things : List (List ℕ × Json)) (seen : List Deed) (o : Outcome Site) : Type 0 where
  is_exposed : expose_faults kinds plan.slots things ≡ [] → seen ≡ [] → o ≡ goes_on (site_of plan.versions plan.slots things) → Exposes name kinds plan things seen o
  -- this is the first that doesn't fit
  is_misfit : (fault : ExposeFault) → ¬ (fault ≡ NoMemory) → IsFirst (expose_faults kinds plan.slots things) fault
      → EndsWith [] 4 (input_line name (misfit_text fault)) seen o → Exposes name kinds plan things seen o
  expose_memory : RunsOut [] seen o → Exposes name kinds plan things seen o

-- Both, where a line on the fit to the rack names the plan so.
abbrev pub Opens : List ℕ → List Kind → Planned → List Deed → Outcome Site → Type 0
Opens name kinds p = AndThen (Derives p) (Exposes name kinds p.plan)

-- ---- how the code's answers are read

-- the Things of a servient that was made
abbrev pub site_in : Result Layers Ended → Result Site Ended
site_in (Ok servient) = Ok servient.exposed.site
site_in (Err ended) = Err ended

abbrev pub site_of_counted : Result CountedServient Ended → Result Site Ended
site_of_counted (Ok counted) = Ok counted.servient.exposed.site
site_of_counted (Err ended) = Err ended
