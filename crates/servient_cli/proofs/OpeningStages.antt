-- A servient isn't opened where its Things don't fit the rack.
use Rattle.std.proofs.Common.{◌≡◌, ◌≢◌, ℕ, List, Result, Ok, Err, refl, sym, subst}
use Rattle.std.specs.Prelude.{IfOk, OnOk, MatchResult}
use Rattle.wot_json.specs.Tree.{Json}
use Rattle.std.specs.declared.alloc.AllocError.{AllocError}
use Rattle.wot_terms.specs.declared.kind.Kind.{Kind}
use Rattle.thing_site.specs.Site.{expose_faults}
use Rattle.servient_plan.specs.declared.plan.Plan.{Plan}
use Rattle.thing_site.specs.Exposing.{IsFirst}
use Rattle.thing_site.specs.declared.fault.ExposeFault.{ExposeFault}
use Rattle.thing_site.specs.declared.fault.ExposeFault.TheVariants as misfit
use Rattle.servient_core.specs.Machine.{Site}
use Rattle.servient_cli.specs.Opening.{Exposes, is_misfit, expose_memory}
use Rattle.command_stages.specs.declared.ending.Ending.{Ending}
use Rattle.command_stages.specs.declared.ending.Ended.{Ended}
use Rattle.command_stages.specs.declared.ending.Ended.TheVariants as ended
use Rattle.command_stages.specs.Lines.{input_line}
use Rattle.command_stages.specs.Stages.{Around}
use Rattle.command_stages.specs.FaultLines.{misfit_text}
use Rattle.command_stages.specs.Ending.{Performs}
use Rattle.command_stages.proofs.StageLaws.{ends_line, ends_memory}

-- its Things don't fit the rack, or it is out of memory
pub misfit_ends : (name : List ℕ) (kinds : List Kind) (plan : Plan) (things : List (List ℕ × Json)) (a : Around) (r : Result Ending AllocError) (fault : ExposeFault) (ended_so : Ended) → IfOk r (λ x. (x.status ≡ 4) × (x.text ≡ input_line name (misfit_text fault))) → OnOk r (fault ≢ misfit.NoMemory)
    → MatchResult r (λ x. ended_so ≡ ended.With x) (λ _. ended_so ≡ ended.NoMemory) → IsFirst (expose_faults kinds plan.slots things) fault → Performs {A = Site} (Exposes name kinds plan things) a a (Err ended_so)
misfit_ends name kinds plan things a (Err none) fault ended_so line known comes first =
    subst (λ (x : Ended). Performs {A = Site} (Exposes name kinds plan things) a a (Err x)) (sym comes) (ends_memory (Exposes name kinds plan things) a (expose_memory (refl, refl)))
misfit_ends name kinds plan things a (Ok ending) fault ended_so line known comes first =
    subst (λ (x : Ended). Performs {A = Site} (Exposes name kinds plan things) a a (Err x)) (sym comes)
    (ends_line (Exposes name kinds plan things) a ending 4 (input_line name (misfit_text fault)) line (is_misfit fault known first (refl, refl)))
