-- A stage that reads files or opens Things ends with status 3 or 6 only where a file or the network failed.
use Rattle.std.proofs.Common.{◌≡◌, ◌≤◌, ℕ, List, [], ◌∷◌, ◌++◌, Option, Some, None, refl, sym, subst, arith, inl, inr}
use Rattle.std.specs.Prelude.{◌⊎◌, Contains}
use Rattle.std.proofs.lemmas.List.Elements.{Contains-append_right, filter_map-append}
use Rattle.wot_json.specs.Tree.{Json}
use Rattle.wot_json.specs.declared.tree.Tree.{Tree}
use Rattle.wot_terms.specs.declared.kind.Kind.{Kind}
use Rattle.tm_parts.specs.Library.{Models}
use Rattle.servient_outside.specs.declared.files.FileRead.{FileRead}
use Rattle.servient_outside.specs.declared.files.HeldFile.{HeldFile}
use Rattle.servient_outside.specs.declared.net.EventWithBytes.{EventWithBytes}
use Rattle.servient_outside.specs.Network.{heard, did, broke, break_count}
use Rattle.servient_plan.specs.declared.plan.Plan.{Plan}
use Rattle.servient_trace.specs.Trace.{at_network, at_handler, happened_in}
use Rattle.servient_core.specs.Machine.{Site}
use Rattle.command_stages.specs.declared.derivation.Planned.{Planned}
use Rattle.command_stages.specs.Stages.{Deed, did_read, did_fail, did_see, did_forget, did_write, read_in, reads_in, sightings_in, HasFailed, Outcome, goes_on, ends, AndThen, ends_first, goes_further}
use Rattle.command_stages.specs.Reading.{ReadsFile, is_read, is_absent, is_unreadable, is_long, file_memory, file_read, ReadsTree, is_tree, has_no_tree, tree_memory, longest_json}
use Rattle.servient_script.specs.Script.{longest_script}
use Rattle.command_stages.specs.Inputs.{Plans, TakesBuiltIn, is_built_in, built_in_memory, ReadsEvents, ReadsInputs, HasRead, has_read, ReadsScript, is_script, is_no_script, script_memory}
use Rattle.servient_cli.specs.Replaying.{RunsScript, is_whole, is_spent, run_memory}
use Rattle.servient_cli.specs.Storming.{RunsStorm, is_counted, storm_memory}
use Rattle.servient_cli.specs.Opening.{Exposes, is_exposed, is_misfit, expose_memory, Opens}
use Rattle.command_stages.specs.Checking.{Judges, is_valid, is_refused, judge_memory}
use Rattle.command_stages.specs.Deriving.{ReadsPlan, is_plan, is_no_plan, plan_memory, AddsModel, is_added, is_not_added, add_memory, TakesModel, TakesModels, IsPlanned, is_planned, ReadsPlanned, Derives, is_derived, derive_memory, Prints, is_printed, print_memory, DerivesAndPrints}
use Rattle.command_stages.specs.Deriving as plans
use Rattle.command_stages.specs.Tabling.{PrintsTable, is_tabled, is_tabled_with, table_memory}
use Rattle.servient_laws.specs.Failures.{IsMissing}

-- ---- what is known of an end

abbrev pub FileFails : Option (List HeldFile) → List Deed → Type 0
FileFails held seen = HasFailed seen ⊎ IsMissing held seen

abbrev pub NetFails : List Deed → Type 0
NetFails seen = 1 ≤ break_count (happened_in (sightings_in seen))

abbrev pub Tells : Option (List HeldFile) → List Deed → ℕ → Type 0
Tells held seen status = (status ≡ 3 → FileFails held seen) × (status ≡ 6 → NetFails seen)

-- a stage that ends so tells it
abbrev pub Telling : {A : Type 0} → Option (List HeldFile) → (List Deed → Outcome A → Type 0) → Type 0
Telling {A} held P = (seen : List Deed) (status : ℕ) → P seen (ends status) → Tells held seen status

pub same_status : {A : Type 0} (m n : ℕ) → ◌≡◌ {A = Outcome A} (ends m) (ends n) → m ≡ n
same_status m n e = cc

no_end : {A : Type 0} (a : A) (status : ℕ) → ends status ≡ goes_on a → ⊥
no_end a status e = cc

-- neither of both
abbrev IsOther : ℕ → Type 0
IsOther n = (¬ (n ≡ 3)) × (¬ (n ≡ 6))

other : (held : Option (List HeldFile)) (seen : List Deed) (n : ℕ) → IsOther n → Tells held seen n
other held seen n isnt = ((λ three. absurd (isnt.0 three)), (λ six. absurd (isnt.1 six)))

pub ended : {A : Type 0} (held : Option (List HeldFile)) (seen : List Deed) (status n : ℕ) → ◌≡◌ {A = Outcome A} (ends status) (ends n) → IsOther n → Tells held seen status
ended held seen status n is isnt = subst (λ (m : ℕ). Tells held seen m) (sym (same_status status n is)) (other held seen n isnt)

pub went : {A : Type 0} (held : Option (List HeldFile)) (seen : List Deed) (status : ℕ) (value : A) → ends status ≡ goes_on value → Tells held seen status
went held seen status value is = absurd (no_end value status is)

-- ---- one stage after another

failed_later : (a b : List Deed) → HasFailed b → HasFailed (a ++ b)
failed_later [] b failed = failed
failed_later (did_read file ∷ a) b failed = failed_later a b failed
failed_later (did_fail file ∷ a) b failed = tt
failed_later (did_see sighting ∷ a) b failed = failed_later a b failed
failed_later (did_forget ∷ a) b failed = failed_later a b failed
failed_later (did_write text ∷ a) b failed = failed_later a b failed

file_later : (held : Option (List HeldFile)) (a b : List Deed) → FileFails held b → FileFails held (a ++ b)
file_later held a b (inl failed) = inl (failed_later a b failed)
file_later held a b (inr (file, read, none)) =
    inr (file, subst (λ (files : List FileRead). Contains files file) (sym (filter_map-append read_in a b)) (Contains-append_right (reads_in a) (reads_in b) file read), none)

net_later : (a b : List Deed) → NetFails b → NetFails (a ++ b)
net_later [] b fails = fails
net_later (did_read file ∷ a) b fails = net_later a b fails
net_later (did_fail file ∷ a) b fails = net_later a b fails
net_later (did_see (at_network (heard e)) ∷ a) b fails = net_later a b fails
net_later (did_see (at_network (did act)) ∷ a) b fails = net_later a b fails
net_later (did_see (at_network (broke call)) ∷ a) b fails = omega arith
net_later (did_see (at_handler call) ∷ a) b fails = net_later a b fails
net_later (did_forget ∷ a) b fails = net_later a b fails
net_later (did_write text ∷ a) b fails = net_later a b fails

later : (held : Option (List HeldFile)) (a b : List Deed) (status : ℕ) → Tells held b status → Tells held (a ++ b) status
later held a b status tells = ((λ three. file_later held a b (tells.0 three)), (λ six. net_later a b (tells.1 six)))

pub then_tells : {A B : Type 0} (held : Option (List HeldFile)) (P : List Deed → Outcome A → Type 0) (Q : A → List Deed → Outcome B → Type 0) → Telling held P → ((x : A) → Telling held (Q x)) → Telling held (AndThen P Q)
then_tells held P Q one others seen status (ends_first n stage is) = subst (λ (m : ℕ). Tells held seen m) (sym (same_status status n is)) (one seen n stage)
then_tells held P Q one others seen status (goes_further (x, w)) =
    subst (λ (ds : List Deed). Tells held ds status) (sym w.whole) (later held w.first w.second status (others x w.second status w.other))

-- ---- files

three_only : (held : Option (List HeldFile)) (seen : List Deed) (status : ℕ) → status ≡ 3 → FileFails held seen → Tells held seen status
three_only held seen status is fails = ((λ three. fails), (λ six. absurd (omega (arith, is, six))))

pub six_only : (held : Option (List HeldFile)) (seen : List Deed) (status : ℕ) → status ≡ 6 → NetFails seen → Tells held seen status
six_only held seen status is fails = ((λ three. absurd (omega (arith, is, three))), (λ six. fails))

pub file_tells : (held : Option (List HeldFile)) (limit : ℕ) (name : List ℕ) → Telling held (ReadsFile held limit name)
file_tells held limit name seen status (is_read content short holds saw is) = went held seen status content is
file_tells held limit name seen status (is_absent none e) =
    three_only held seen status (same_status status 3 e.1)
    (inr (file_read limit name, subst (λ (ds : List Deed). Contains (reads_in ds) (file_read limit name)) (sym e.0) (0, omega arith, refl), none))
file_tells held limit name seen status (is_unreadable e) = three_only held seen status (same_status status 3 e.1) (inl (subst HasFailed (sym e.0) tt))
file_tells held limit name seen status (is_long a e) = ended held seen status 4 e.1 (omega arith, omega arith)
file_tells held limit name seen status (file_memory first a e) = ended held seen status 9 e.1 (omega arith, omega arith)

pub tree_tells : (held : Option (List HeldFile)) (name content : List ℕ) → Telling held (ReadsTree name content)
tree_tells held name content seen status (is_tree tree a b is) = went held seen status tree is
tree_tells held name content seen status (has_no_tree what a b e) = ended held seen status 4 e.1 (omega arith, omega arith)
tree_tells held name content seen status (tree_memory e) = ended held seen status 9 e.1 (omega arith, omega arith)

script_tells : (held : Option (List HeldFile)) (name content : List ℕ) → Telling held (ReadsScript name content)
script_tells held name content seen status (is_script events a b d is) = went held seen status events is
script_tells held name content seen status (is_no_script line a b e) = ended held seen status 4 e.1 (omega arith, omega arith)
script_tells held name content seen status (script_memory e) = ended held seen status 9 e.1 (omega arith, omega arith)

plan_tells : (held : Option (List HeldFile)) (name : List ℕ) (tree : Tree) → Telling held (ReadsPlan name tree)
plan_tells held name tree seen status (is_plan plan a b is) = went held seen status plan is
plan_tells held name tree seen status (is_no_plan pointer a e) = ended held seen status 4 e.1 (omega arith, omega arith)
plan_tells held name tree seen status (plan_memory e) = ended held seen status 9 e.1 (omega arith, omega arith)

add_tells : (held : Option (List HeldFile)) (models : Models) (url file : List ℕ) (tree : Tree) → Telling held (AddsModel models url file tree)
add_tells held models url file tree seen status (is_added a b is) = went held seen status _ is
add_tells held models url file tree seen status (is_not_added what a e) = ended held seen status 4 e.1 (omega arith, omega arith)
add_tells held models url file tree seen status (add_memory e) = ended held seen status 9 e.1 (omega arith, omega arith)

take_tells : (held : Option (List HeldFile)) (model : List ℕ × List ℕ) (models : Models) → Telling held (TakesModel held model models)
take_tells held model models =
    then_tells held (ReadsFile held longest_json model.1) (λ content. AndThen (ReadsTree model.1 content) (AddsModel models model.0 model.1)) (file_tells held longest_json model.1)
    (λ content. then_tells held (ReadsTree model.1 content) (AddsModel models model.0 model.1) (tree_tells held model.1 content) (add_tells held models model.0 model.1))

models_tell : (held : Option (List HeldFile)) (left : List (List ℕ × List ℕ)) (models : Models) → Telling held (TakesModels held left models)
models_tell held [] models seen status stage = went held seen status models stage.1
models_tell held (model ∷ left) models seen status stage =
    then_tells held (TakesModel held model models) (TakesModels held left) (take_tells held model models) (models_tell held left) seen status stage

whole_tells : (held : Option (List HeldFile)) (plan : Plan) (models : Models) → Telling held (IsPlanned plan models)
whole_tells held plan models seen status (is_planned a is) = went held seen status _ is

pub planned_tells : (held : Option (List HeldFile)) (name : List ℕ) → Telling held (ReadsPlanned held name)
planned_tells held name =
    then_tells held (ReadsFile held longest_json name) (λ content. AndThen (ReadsTree name content) (λ tree. AndThen (ReadsPlan name tree) (λ plan. AndThen (TakesModels held plan.models []) (IsPlanned plan)))) (file_tells held longest_json name)
    (λ content. then_tells held (ReadsTree name content) (λ tree. AndThen (ReadsPlan name tree) (λ plan. AndThen (TakesModels held plan.models []) (IsPlanned plan))) (tree_tells held name content)
    (λ tree. then_tells held (ReadsPlan name tree) (λ plan. AndThen (TakesModels held plan.models []) (IsPlanned plan)) (plan_tells held name tree)
    (λ plan. then_tells held (TakesModels held plan.models []) (IsPlanned plan) (models_tell held plan.models []) (whole_tells held plan))))

pub built_in_tells : (held : Option (List HeldFile)) → Telling held TakesBuiltIn
built_in_tells held seen status (is_built_in a is) = went held seen status _ is
built_in_tells held seen status (built_in_memory e) = ended held seen status 9 e.1 (omega arith, omega arith)

plans_tell : (held : Option (List HeldFile)) (plan : Option (List ℕ)) → Telling held (Plans held plan)
plans_tell held None = built_in_tells held
plans_tell held (Some name) = planned_tells held name

read_tells : (held : Option (List HeldFile)) (p : Planned) (events : List EventWithBytes) → Telling held (HasRead p events)
read_tells held p events seen status (has_read a is) = went held seen status _ is

pub inputs_tell : (held : Option (List HeldFile)) (plan : Option (List ℕ)) (script : List ℕ) → Telling held (ReadsInputs held plan script)
inputs_tell held plan script =
    then_tells held (Plans held plan) (λ p. AndThen (ReadsEvents held script) (HasRead p)) (plans_tell held plan)
    (λ p. then_tells held (ReadsEvents held script) (HasRead p) (then_tells held (ReadsFile held longest_script script) (ReadsScript script) (file_tells held longest_script script) (script_tells held script)) (read_tells held p))

-- ---- Things

pub derive_tells : (held : Option (List HeldFile)) (p : Planned) → Telling held (Derives p)
derive_tells held p seen status (is_derived things a b is) = went held seen status things is
derive_tells held p seen status (plans.is_refused fault a e) = ended held seen status 5 e.1 (omega arith, omega arith)
derive_tells held p seen status (derive_memory e) = ended held seen status 9 e.1 (omega arith, omega arith)

pub print_tells : (held : Option (List HeldFile)) (things : List (List ℕ × Json)) → Telling held (Prints things)
print_tells held things seen status (is_printed e) = ended held seen status 0 e.1 (omega arith, omega arith)
print_tells held things seen status (print_memory e) = ended held seen status 9 e.1 (omega arith, omega arith)

pub table_tells : (held : Option (List HeldFile)) (name : List ℕ) (kinds : List Kind) (plan : Plan) (things : List (List ℕ × Json)) → Telling held (PrintsTable name kinds plan things)
table_tells held name kinds plan things seen status (is_tabled a e) = ended held seen status 0 e.1 (omega arith, omega arith)
table_tells held name kinds plan things seen status (is_tabled_with fault a b e) = ended held seen status 4 e.1 (omega arith, omega arith)
table_tells held name kinds plan things seen status (table_memory e) = ended held seen status 9 e.1 (omega arith, omega arith)

expose_tells : (held : Option (List HeldFile)) (name : List ℕ) (kinds : List Kind) (plan : Plan) (things : List (List ℕ × Json)) → Telling held (Exposes name kinds plan things)
expose_tells held name kinds plan things seen status (is_exposed a b is) = went held seen status _ is
expose_tells held name kinds plan things seen status (is_misfit fault a b e) = ended held seen status 4 e.1 (omega arith, omega arith)
expose_tells held name kinds plan things seen status (expose_memory e) = ended held seen status 9 e.1 (omega arith, omega arith)

pub open_tells : (held : Option (List HeldFile)) (name : List ℕ) (kinds : List Kind) (p : Planned) → Telling held (Opens name kinds p)
open_tells held name kinds p = then_tells held (Derives p) (Exposes name kinds p.plan) (derive_tells held p) (expose_tells held name kinds p.plan)

pub judge_tells : (held : Option (List HeldFile)) (tree : Tree) → Telling held (Judges tree)
judge_tells held tree seen status (is_valid a e) = ended held seen status 0 e.1 (omega arith, omega arith)
judge_tells held tree seen status (is_refused number pointer a e) = ended held seen status 5 e.1 (omega arith, omega arith)
judge_tells held tree seen status (judge_memory e) = ended held seen status 9 e.1 (omega arith, omega arith)

pub run_tells : (held : Option (List HeldFile)) (budget : ℕ) (events : List EventWithBytes) (exchanges : ℕ) (epoch : Option ℕ) (site : Site) → Telling held (RunsScript budget events exchanges epoch site)
run_tells held budget events exchanges epoch site seen status (is_whole ran end a b e) = ended held seen status 0 e.1 (omega arith, omega arith)
run_tells held budget events exchanges epoch site seen status (is_spent ran end a b e) = ended held seen status 8 e.1 (omega arith, omega arith)
run_tells held budget events exchanges epoch site seen status (run_memory ran end count b e) = ended held seen status 9 e.1 (omega arith, omega arith)

pub storm_tells : (held : Option (List HeldFile)) (seed n exchanges : ℕ) (epoch : Option ℕ) (site : Site) → Telling held (RunsStorm seed n exchanges epoch site)
storm_tells held seed n exchanges epoch site seen status (is_counted ran end a e) = ended held seen status 0 e.1 (omega arith, omega arith)
storm_tells held seed n exchanges epoch site seen status (storm_memory ran end count a e) = ended held seen status 9 e.1 (omega arith, omega arith)
