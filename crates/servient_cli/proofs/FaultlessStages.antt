-- A command with which nothing is wrong ends with status 0, unless it is out of memory: stage by stage.
use Rattle.std.proofs.Common.{◌≡◌, ◌≤◌, ℕ, List, [], length, Ok, Option, Some, None, refl, sym, ap, ◌∙◌, subst, arith, inl, inr}
use Rattle.tm_parts.specs.Library.{Models}
use Rattle.servient_plan.specs.declared.plan.Plan.{Plan}
use Rattle.wot_json.specs.Tree.{Json}
use Rattle.wot_json.specs.Meaning.{json_of}
use Rattle.wot_json.specs.Reading.{tree_of}
use Rattle.servient_outside.specs.declared.files.HeldFile.{HeldFile}
use Rattle.servient_outside.specs.declared.net.EventWithBytes.{EventWithBytes}
use Rattle.wot_terms.specs.declared.kind.Kind.{Kind}
use Rattle.thing_site.specs.Site.{site_of, expose_faults}
use Rattle.thing_site.specs.Exposing.{IsFirst}
use Rattle.thing_site.specs.declared.fault.ExposeFault.{ExposeFault}
use Rattle.thing_site.specs.declared.fault.ExposeFault.TheVariants as misfit
use Rattle.servient_core.specs.Machine.{Site}
use Rattle.command_stages.specs.declared.derivation.Planned.{Planned}
use Rattle.command_stages.specs.declared.inputs.Inputs.{Inputs}
use Rattle.servient_script.specs.Script.{IsScript}
use Rattle.command_stages.specs.Stages.{Deed, Outcome, AndThen}
use Rattle.command_stages.specs.Reading.{ReadsFile, ReadsTree, longest_json}
use Rattle.servient_script.specs.Script.{longest_script}
use Rattle.command_stages.specs.Inputs.{built_in, Plans, is_built_in, built_in_memory, ReadsEvents, ReadsInputs, HasRead, has_read, ReadsScript}
use Rattle.servient_cli.specs.Replaying.{run_events, RunsOn, RunsScript, is_whole, is_spent, run_memory}
use Rattle.servient_cli.specs.Opening.{Exposes, is_exposed, is_misfit, expose_memory, Opens}
use Rattle.command_stages.specs.Deriving.{ReadsPlan, TakesModels, IsPlanned, is_planned, ReadsPlanned, Derives, derived_of, AreFaultlessModels, IsFaultlessPlan}
use Rattle.command_stages.specs.Tabling.{PrintsTable, is_tabled, is_tabled_with, table_memory}
use Rattle.servient_cli.specs.Command.{HoldsFaultless, IsPlannedBy, IsFaultlessReplay}
use Rattle.command_stages.proofs.FaultlessReading.{GoesOn, EndsWell, by_memory, HasTrouble, then_well, then_goes, read_well, script_well, tree_well, plan_well, models_well, derive_well}

-- a script within the budget is run to its end
run_well : (budget : ℕ) (events : List EventWithBytes) (exchanges : ℕ) (epoch : Option ℕ) (site : Site) (seen : List Deed) (o : Outcome (Unit {0})) → length (run_events events) ≤ budget → RunsScript budget events exchanges epoch site seen o → EndsWell o
run_well budget events exchanges epoch site seen o few (is_whole ran end fits run ends_so) = inl ends_so.1
run_well budget events exchanges epoch site seen o few (is_spent ran end more run ends_so) = absurd (omega (arith, few, more))
run_well budget events exchanges epoch site seen o few (run_memory ran end count run ends_so) = inr ends_so.1

-- a plan and its models are read
abbrev with_parts : (plan : Plan) (models : Models) → Planned
with_parts plan models = record { plan = plan; library = models }

pub planned_well : (held : Option (List HeldFile)) (files : List HeldFile) (name : List ℕ) (p : Planned) (seen : List Deed) (o : Outcome Planned) → held ≡ Some files → HoldsFaultless files longest_json name (IsFaultlessPlan files p) → ¬ (HasTrouble seen) → ReadsPlanned held name seen o → GoesOn (λ q. q ≡ p) o
planned_well held files name p seen o is_held fine quiet stage =
    then_goes (ReadsFile held longest_json name) (λ content. AndThen (ReadsTree name content) (λ tree. AndThen (ReadsPlan name tree) (λ plan. AndThen (TakesModels held plan.models []) (IsPlanned plan)))) (λ c. c ≡ fine.content) (λ q. q ≡ p) seen o quiet
    (λ s r q st. read_well held longest_json name fine.content files s r is_held fine.holds fine.short q st)
    (λ content same s q st. then_goes (ReadsTree name content) (λ tree. AndThen (ReadsPlan name tree) (λ plan. AndThen (TakesModels held plan.models []) (IsPlanned plan))) (λ tree. json_of tree ≡ fine.good.value) (λ x. x ≡ p) s o q
    (λ s2 r q2 st2. tree_well name content fine.good.value s2 r (ap tree_of same ∙ fine.good.read) st2)
    (λ tree is s2 q2 st2. then_goes (ReadsPlan name tree) (λ plan. AndThen (TakesModels held plan.models []) (IsPlanned plan)) (λ plan. plan ≡ p.plan) (λ x. x ≡ p) s2 o q2
    (λ s3 r q3 st3. plan_well name tree fine.good.value p.plan s3 r is fine.good.plan_is st3)
    (λ plan is_plan_of s3 q3 st3. then_goes (TakesModels held plan.models []) (IsPlanned plan) (λ ms. ms ≡ p.library) (λ x. x ≡ p) s3 o q3
    (λ s4 r q4 st4. models_well held files plan.models [] p.library s4 r is_held (subst (λ (x : Plan). AreFaultlessModels files x.models [] p.library) (sym is_plan_of) fine.good.taken) q4 st4)
    (λ ms all s4 q4 st4. made plan ms is_plan_of all s4 st4) st3) st2) st) stage
  where
    made : (plan : Plan) (ms : Models) → plan ≡ p.plan → ms ≡ p.library → (s : List Deed) → IsPlanned plan ms s o → GoesOn (λ x. x ≡ p) o
    made plan ms a b s (is_planned saw goes) =
        inl (with_parts plan ms, ap (λ (x : Plan). with_parts x ms) a ∙ ap (λ (y : Models). with_parts p.plan y) b, goes)

plans_well : (held : Option (List HeldFile)) (files : List HeldFile) (plan : Option (List ℕ)) (p : Planned) (seen : List Deed) (o : Outcome Planned) → held ≡ Some files → IsPlannedBy files plan p → ¬ (HasTrouble seen) → Plans held plan seen o → GoesOn (λ q. q ≡ p) o
plans_well held files None p seen o is_held fine quiet (is_built_in saw goes) = inl (built_in, sym fine, goes)
plans_well held files None p seen o is_held fine quiet (built_in_memory end) = inr end.1
plans_well held files (Some name) p seen o is_held fine quiet stage = planned_well held files name p seen o is_held fine quiet stage

-- the inputs of a replay
abbrev pub with_events : (p : Planned) (events : List EventWithBytes) → Inputs
with_events p events = record { planned = p; events = events }

pub inputs_well : (held : Option (List HeldFile)) (files : List HeldFile) (kinds : List Kind) (script : List ℕ) (plan : Option (List ℕ)) (budget : ℕ) (fine : IsFaultlessReplay files kinds script plan budget) (seen : List Deed) (o : Outcome Inputs) → held ≡ Some files → ¬ (HasTrouble seen) → ReadsInputs held plan script seen o
    → GoesOn (λ read. read ≡ with_events fine.planned fine.script_is.good.0) o
inputs_well held files kinds script plan budget fine seen o is_held quiet stage =
    then_goes (Plans held plan) (λ p. AndThen (ReadsEvents held script) (HasRead p)) (λ p. p ≡ fine.planned) Right seen o quiet
    (λ s r q st. plans_well held files plan fine.planned s r is_held fine.by_plan q st)
    (λ p same s q st. then_goes (ReadsEvents held script) (HasRead p) (λ es. es ≡ events) Right s o q
    (λ s2 r q2 st2. then_goes (ReadsFile held longest_script script) (ReadsScript script) (λ c. c ≡ fine.script_is.content) (λ es. es ≡ events) s2 r q2
    (λ s3 r3 q3 st3. read_well held longest_script script fine.script_is.content files s3 r3 is_held fine.script_is.holds fine.script_is.short q3 st3)
    (λ content is s3 q3 st3. script_well script content events s3 r (subst (λ (c : List ℕ). IsScript c events) (sym is) fine.script_is.good.1) st3) st2)
    (λ es is s2 q2 st2. made p es same is s2 st2) st) stage
  where
    events : List EventWithBytes
    events = fine.script_is.good.0

    Right : Inputs → Type 0
    Right read = read ≡ with_events fine.planned fine.script_is.good.0

    made : (p : Planned) (es : List EventWithBytes) → p ≡ fine.planned → es ≡ fine.script_is.good.0 → (s : List Deed) → HasRead p es s o → GoesOn (λ read. read ≡ with_events fine.planned fine.script_is.good.0) o
    made p es a b s (has_read saw goes) =
        inl (with_events p es, ap (λ (x : Planned). with_events x es) a ∙ ap (λ (y : List EventWithBytes). with_events fine.planned y) b, goes)

-- Things that fit are exposed
no_first : (faults : List ExposeFault) (fault : ExposeFault) → faults ≡ [] → ¬ (fault ≡ misfit.NoMemory) → IsFirst faults fault → ⊥
no_first faults (misfit.NoSlot segment pointer) none known first = let gone = rw none at first in absurd cc
no_first faults (misfit.KindDiffers segment pointer) none known first = let gone = rw none at first in absurd cc
no_first faults (misfit.SlotTwice segment pointer) none known first = let gone = rw none at first in absurd cc
no_first faults misfit.NoMemory none known first = known refl

expose_well : (name : List ℕ) (kinds : List Kind) (plan : Plan) (things : List (List ℕ × Json)) (seen : List Deed) (o : Outcome Site) → expose_faults kinds plan.slots things ≡ [] → Exposes name kinds plan things seen o → GoesOn (λ site. Unit {0}) o
expose_well name kinds plan things seen o none (is_exposed also saw goes) = inl (site_of plan.versions plan.slots things, tt, goes)
expose_well name kinds plan things seen o none (is_misfit fault known first end) = absurd (no_first (expose_faults kinds plan.slots things) fault none known first)
expose_well name kinds plan things seen o none (expose_memory end) = inr end.1

-- a table of Things that fit
pub table_well : (name : List ℕ) (kinds : List Kind) (plan : Plan) (things : List (List ℕ × Json)) (seen : List Deed) (o : Outcome (Unit {0})) → expose_faults kinds plan.slots things ≡ [] → PrintsTable name kinds plan things seen o → EndsWell o
table_well name kinds plan things seen o none (is_tabled also end) = inl end.1
table_well name kinds plan things seen o none (is_tabled_with fault known first end) = absurd (no_first (expose_faults kinds plan.slots things) fault none known first)
table_well name kinds plan things seen o none (table_memory end) = inr end.1

-- a servient is opened
pub open_well : (name : List ℕ) (kinds : List Kind) (p : Planned) (things : List (List ℕ × Json)) (seen : List Deed) (o : Outcome Site) → derived_of p ≡ Ok things → expose_faults kinds p.plan.slots things ≡ [] → ¬ (HasTrouble seen) → Opens name kinds p seen o → GoesOn (λ site. Unit {0}) o
open_well name kinds p things seen o derives fits quiet stage =
    then_goes (Derives p) (Exposes name kinds p.plan) (λ ts. ts ≡ things) (λ site. Unit {0}) seen o quiet
    (λ s r q st. derive_well p things s r derives st)
    (λ ts same s q st. expose_well name kinds p.plan ts s o (ap (expose_faults kinds p.plan.slots) same ∙ fits) st) stage

pub run_on_well : (name : List ℕ) (kinds : List Kind) (budget : ℕ) (read : Inputs) (things : List (List ℕ × Json)) (seen : List Deed) (o : Outcome (Unit {0})) → derived_of read.planned ≡ Ok things → expose_faults kinds read.planned.plan.slots things ≡ [] → length (run_events read.events) ≤ budget → ¬ (HasTrouble seen)
    → RunsOn name kinds budget read seen o → EndsWell o
run_on_well name kinds budget read things seen o derives fits few quiet stage =
    then_well EndsWell by_memory (Opens name kinds read.planned) (RunsScript budget read.events read.planned.plan.exchanges read.planned.plan.epoch) (λ site. Unit {0}) seen o quiet
    (λ s r q st. open_well name kinds read.planned things s r derives fits q st)
    (λ site any s q st. run_well budget read.events read.planned.plan.exchanges read.planned.plan.epoch site s o few st) stage
