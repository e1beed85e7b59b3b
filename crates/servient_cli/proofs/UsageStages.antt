-- No stage of a command ends with status 2, so that this status is left to words that are no command; nor does one end
-- with 7, but where others are asked and what they answer can't be printed, so that this status is left to the output.
use Rattle.std.proofs.Common.{◌≡◌, ◌*◌, subst, refl, true, false, ◌⊎◌, ◌∙◌, ℕ, List, [], ◌∷◌, Option, Some, None, ap, arith, inl, inr, sym}
use Rattle.command_words.specs.declared.command.Command.{Command}
use Rattle.command_words.specs.declared.command.Command.TheVariants.{Replay, Serve, ServeLogged, Derive, Table, Check, Consume, Storm, Discover}
use Rattle.wot_json.specs.declared.tree.Tree.{Tree}
use Rattle.tm_parts.specs.Library.{Models}
use Rattle.wot_json.specs.Tree.{Json}
use Rattle.wot_terms.specs.declared.kind.Kind.{Kind}
use Rattle.thing_site.specs.Exposing.{kinds_of}
use Rattle.servient_outside.specs.declared.place.Place.{Place}
use Rattle.servient_core.specs.declared.serving.Served.TheVariants as served
use Rattle.servient_plan.specs.Plan.{place_of}
use Rattle.servient_core.specs.Machine.{Site}
use Rattle.servient_plan.specs.declared.plan.Plan.{Plan}
use Rattle.command_stages.specs.declared.derivation.Planned.{Planned}
use Rattle.command_stages.specs.declared.inputs.Inputs.{Inputs}
use Rattle.servient_outside.specs.declared.files.HeldFile.{HeldFile}
use Rattle.servient_outside.specs.declared.net.EventWithBytes.{EventWithBytes}
use Rattle.command_stages.specs.Stages.{Around, Deed, Outcome, goes_on, ends, AndThen, ends_first, goes_further}
use Rattle.command_stages.specs.Reading.{ReadsFile, is_read, is_absent, is_unreadable, is_long, file_memory, ReadsTree, is_tree, has_no_tree, tree_memory, longest_json}
use Rattle.servient_script.specs.Script.{longest_script}
use Rattle.command_stages.specs.Inputs.{Plans, TakesBuiltIn, is_built_in, built_in_memory, plan_name, ReadsEvents, ReadsInputs, HasRead, has_read, ReadsScript, is_script, is_no_script, script_memory}
use Rattle.servient_cli.specs.Replaying.{RunsOn, RunsScript, is_whole, is_spent, run_memory}
use Rattle.servient_cli.specs.declared.storming.TheConstants.{STORM_EXCHANGES}
use Rattle.servient_cli.specs.Storming.{RunsStorm, is_counted, storm_memory, Storms, StormsOn, with_few_exchanges}
use Rattle.command_words.specs.declared.command.Consumption.{Consumption}
use Rattle.command_words.specs.Operations.{form_operation}
use Rattle.wot_terms.specs.declared.op.Op.{Op}
use Rattle.wot_forms.specs.declared.scheme.Scheme.{Scheme}
use Rattle.wot_consumer.specs.declared.chosen.Chosen.{Chosen}
use Rattle.network_consumer.specs.declared.consumed.Consumed.{Consumed}
use Rattle.network_consumer.specs.declared.consumed.Consumed.TheVariants as consumed
use Rattle.network_consumer.specs.Deeds as operation
use Rattle.command_stages.specs.Describing.{TakesDescription, is_taken, has_fault, description_memory, DescriptionIn, ReadsDescription, ReadsValue, HasInput, has_input, has_no_input, ReadsInput}
use Rattle.servient_cli.specs.Consuming.{Chooses, is_chosen, has_no_affordance, has_no_form, choose_memory, status_after, EndsAfter, has_ended, line_memory, Operates, OperatesOn, ConsumesBy, ConsumesThing}
use Rattle.servient_cli.specs.Opening.{Exposes, is_exposed, is_misfit, expose_memory, Opens}
use Rattle.servient_cli.specs.Listening.{Listens, is_listening, cannot_listen, place_memory, listen_memory, ServesEvents, has_served, Endures, has_endured, ServesBy, ServesPlanned}
use Rattle.servient_core.specs.declared.sections.SectionsEnd.TheVariants as ending
use Rattle.servient_core.specs.declared.sections.RunBounds.{RunBounds}
use Rattle.logged_serving.specs.declared.serving.LoggedEnd.{LoggedEnd}
use Rattle.logged_serving.specs.declared.serving.LoggedEnd.TheVariants as logged
use Rattle.servient_cli.specs.LoggedServing.{status_at_log_end, bounds_of, TakesLog, log_taken, log_memory, ServesWithLog, heading_unwritten, has_logged, ListensAndLogs, LogsPlanned, LogsPlan}
use Rattle.command_words.specs.declared.command.Budget.{Budget}
use Rattle.command_words.specs.declared.command.Budget.TheVariants as budgets
use Rattle.command_stages.specs.Checking.{Checks, Judges, is_valid, is_refused, judge_memory}
use Rattle.command_stages.specs.Deriving.{IsPlanned, is_planned, ReadsPlanned, Prints, is_printed, print_memory, DerivesAndPrints, ReadsPlan, is_plan, is_no_plan, plan_memory, AddsModel, is_added, is_not_added, add_memory, TakesModel, TakesModels, Derives, is_derived, derive_memory}
use Rattle.command_stages.specs.Deriving as plans
use Rattle.command_stages.specs.Tabling.{PrintsTable, is_tabled, is_tabled_with, table_memory, Tables}
use Rattle.servient_outside.specs.Out.{OutSeen}
use Rattle.servient_base.specs.Count.{Rose}
use Rattle.command_words.specs.Grammar.{meaning_of}
use Rattle.command_words.specs.declared.fault.WordsFault.{WordsFault}
use Rattle.command_words.specs.declared.fault.WordsFault.TheVariants.{Usage, NoMemory}
use Rattle.command_stages.specs.declared.ending.Ended.{Ended}
use Rattle.command_stages.specs.Words.{EndsAs}
use Rattle.command_stages.specs.Ending.{status_of as ended_status}
use Rattle.servient_cli.specs.Command.{Commands, Does, Ends, IsNoCommand, IsReported, MayDiscover, is_discovering, is_writing, is_command, is_no_command, words_memory}

abbrev pub status_of : {A : Type 0} → Outcome A → ℕ
status_of (goes_on value) = 0
status_of (ends status) = status

-- none of these two
abbrev pub IsPlain : ℕ → Type 0
IsPlain n = (¬ (n ≡ 2)) × (¬ (n ≡ 7))

abbrev NotTwo : ℕ → Type 0
NotTwo n = ¬ (n ≡ 2)

-- the stage ends with none of them
abbrev pub EndsPlainly : {A : Type 0} → Outcome A → Type 0
EndsPlainly o = IsPlain (status_of o)

by_status : {A : Type 0} (o : Outcome A) (n : ℕ) → o ≡ ends n → IsPlain n → EndsPlainly o
by_status o n is plain = subst IsPlain (sym (ap status_of is)) plain

goes_by : {A : Type 0} (o : Outcome A) (value : A) → o ≡ goes_on value → EndsPlainly o
goes_by o value is = by_value (status_of o) (ap status_of is)
  where
    by_value : (n : ℕ) → n ≡ 0 → IsPlain n
    by_value n zero = ((λ two. absurd (omega (arith, two, zero))), (λ seven. absurd (omega (arith, seven, zero))))

then_so : {A B : Type 0} (Good : ℕ → Type 0) (P : List Deed → Outcome A → Type 0) (Q : A → List Deed → Outcome B → Type 0) (seen : List Deed) (o : Outcome B)
    → ((s : List Deed) (r : Outcome A) → P s r → Good (status_of r)) → ((value : A) (s : List Deed) (r : Outcome B) → Q value s r → Good (status_of r))
    → AndThen P Q seen o → Good (status_of o)
then_so Good P Q seen o first next (ends_first status p is) = subst Good (sym (ap status_of is)) (first seen (ends status) p)
then_so Good P Q seen o first next (goes_further (value, both)) = next value both.second o both.other

then_not : {A B : Type 0} (P : List Deed → Outcome A → Type 0) (Q : A → List Deed → Outcome B → Type 0) (seen : List Deed) (o : Outcome B)
    → ((s : List Deed) (r : Outcome A) → P s r → EndsPlainly r) → ((value : A) (s : List Deed) (r : Outcome B) → Q value s r → EndsPlainly r)
    → AndThen P Q seen o → EndsPlainly o
then_not P Q seen o first next stage = then_so IsPlain P Q seen o first next stage

file_not : (held : Option (List HeldFile)) (limit : ℕ) (name : List ℕ) (seen : List Deed) (o : Outcome (List ℕ)) → ReadsFile held limit name seen o → EndsPlainly o
file_not held limit name seen o (is_read content a b d is) = goes_by o content is
file_not held limit name seen o (is_absent a e) = by_status o 3 e.1 (omega arith, omega arith)
file_not held limit name seen o (is_unreadable e) = by_status o 3 e.1 (omega arith, omega arith)
file_not held limit name seen o (is_long a e) = by_status o 4 e.1 (omega arith, omega arith)
file_not held limit name seen o (file_memory first a e) = by_status o 9 e.1 (omega arith, omega arith)

tree_not : (name content : List ℕ) (seen : List Deed) (o : Outcome Tree) → ReadsTree name content seen o → EndsPlainly o
tree_not name content seen o (is_tree tree a b is) = goes_by o tree is
tree_not name content seen o (has_no_tree what a b e) = by_status o 4 e.1 (omega arith, omega arith)
tree_not name content seen o (tree_memory e) = by_status o 9 e.1 (omega arith, omega arith)

script_not : (name content : List ℕ) (seen : List Deed) (o : Outcome (List EventWithBytes)) → ReadsScript name content seen o → EndsPlainly o
script_not name content seen o (is_script events a b d is) = goes_by o events is
script_not name content seen o (is_no_script line a b e) = by_status o 4 e.1 (omega arith, omega arith)
script_not name content seen o (script_memory e) = by_status o 9 e.1 (omega arith, omega arith)

run_not : (budget : ℕ) (events : List EventWithBytes) (exchanges : ℕ) (epoch : Option ℕ) (site : Site) (seen : List Deed) (o : Outcome (Unit {0})) → RunsScript budget events exchanges epoch site seen o → EndsPlainly o
run_not budget events exchanges epoch site seen o (is_whole ran end a b e) = by_status o 0 e.1 (omega arith, omega arith)
run_not budget events exchanges epoch site seen o (is_spent ran end a b e) = by_status o 8 e.1 (omega arith, omega arith)
run_not budget events exchanges epoch site seen o (run_memory ran end count b e) = by_status o 9 e.1 (omega arith, omega arith)

expose_not : (name : List ℕ) (kinds : List Kind) (plan : Plan) (things : List (List ℕ × Json)) (seen : List Deed) (o : Outcome Site) → Exposes name kinds plan things seen o → EndsPlainly o
expose_not name kinds plan things seen o (is_exposed a b is) = goes_by o _ is
expose_not name kinds plan things seen o (is_misfit fault a b e) = by_status o 4 e.1 (omega arith, omega arith)
expose_not name kinds plan things seen o (expose_memory e) = by_status o 9 e.1 (omega arith, omega arith)

judge_not : (tree : Tree) (seen : List Deed) (o : Outcome (Unit {0})) → Judges tree seen o → EndsPlainly o
judge_not tree seen o (is_valid a e) = by_status o 0 e.1 (omega arith, omega arith)
judge_not tree seen o (is_refused number pointer a e) = by_status o 5 e.1 (omega arith, omega arith)
judge_not tree seen o (judge_memory e) = by_status o 9 e.1 (omega arith, omega arith)

plan_not : (name : List ℕ) (tree : Tree) (seen : List Deed) (o : Outcome Plan) → ReadsPlan name tree seen o → EndsPlainly o
plan_not name tree seen o (is_plan plan a b is) = goes_by o plan is
plan_not name tree seen o (is_no_plan pointer a e) = by_status o 4 e.1 (omega arith, omega arith)
plan_not name tree seen o (plan_memory e) = by_status o 9 e.1 (omega arith, omega arith)

add_not : (models : Models) (url file : List ℕ) (tree : Tree) (seen : List Deed) (o : Outcome Models) → AddsModel models url file tree seen o → EndsPlainly o
add_not models url file tree seen o (is_added a b is) = goes_by o _ is
add_not models url file tree seen o (is_not_added what a e) = by_status o 4 e.1 (omega arith, omega arith)
add_not models url file tree seen o (add_memory e) = by_status o 9 e.1 (omega arith, omega arith)

take_not : (held : Option (List HeldFile)) (model : List ℕ × List ℕ) (models : Models) (seen : List Deed) (o : Outcome Models) → TakesModel held model models seen o → EndsPlainly o
take_not held model models seen o stage =
    then_not (ReadsFile held longest_json model.1) (λ content. AndThen (ReadsTree model.1 content) (AddsModel models model.0 model.1)) seen o
    (file_not held longest_json model.1)
    (λ content s r p. then_not (ReadsTree model.1 content) (AddsModel models model.0 model.1) s r (tree_not model.1 content) (add_not models model.0 model.1) p) stage

models_not : (held : Option (List HeldFile)) (left : List (List ℕ × List ℕ)) (models : Models) (seen : List Deed) (o : Outcome Models) → TakesModels held left models seen o → EndsPlainly o
models_not held [] models seen o stage = goes_by o models stage.1
models_not held (model ∷ left) models seen o stage =
    then_not (TakesModel held model models) (TakesModels held left) seen o (take_not held model models) (models_not held left) stage

derive_not : (p : Planned) (seen : List Deed) (o : Outcome (List (List ℕ × Json))) → Derives p seen o → EndsPlainly o
derive_not p seen o (is_derived things a b is) = goes_by o things is
derive_not p seen o (plans.is_refused fault a e) = by_status o 5 e.1 (omega arith, omega arith)
derive_not p seen o (derive_memory e) = by_status o 9 e.1 (omega arith, omega arith)

print_not : (things : List (List ℕ × Json)) (seen : List Deed) (o : Outcome (Unit {0})) → Prints things seen o → EndsPlainly o
print_not things seen o (is_printed e) = by_status o 0 e.1 (omega arith, omega arith)
print_not things seen o (print_memory e) = by_status o 9 e.1 (omega arith, omega arith)

table_not : (name : List ℕ) (kinds : List Kind) (plan : Plan) (things : List (List ℕ × Json)) (seen : List Deed) (o : Outcome (Unit {0})) → PrintsTable name kinds plan things seen o → EndsPlainly o
table_not name kinds plan things seen o (is_tabled a e) = by_status o 0 e.1 (omega arith, omega arith)
table_not name kinds plan things seen o (is_tabled_with fault a b e) = by_status o 4 e.1 (omega arith, omega arith)
table_not name kinds plan things seen o (table_memory e) = by_status o 9 e.1 (omega arith, omega arith)

whole_not : (plan : Plan) (models : Models) (seen : List Deed) (o : Outcome Planned) → IsPlanned plan models seen o → EndsPlainly o
whole_not plan models seen o (is_planned a is) = goes_by o _ is

pub planned_not : (held : Option (List HeldFile)) (name : List ℕ) (seen : List Deed) (o : Outcome Planned) → ReadsPlanned held name seen o → EndsPlainly o
planned_not held name seen o stage =
    then_not (ReadsFile held longest_json name) (λ content. AndThen (ReadsTree name content) (λ tree. AndThen (ReadsPlan name tree) (λ plan. AndThen (TakesModels held plan.models []) (IsPlanned plan)))) seen o (file_not held longest_json name)
    (λ content s r p. then_not (ReadsTree name content) (λ tree. AndThen (ReadsPlan name tree) (λ plan. AndThen (TakesModels held plan.models []) (IsPlanned plan))) s r (tree_not name content)
    (λ tree s2 r2 p2. then_not (ReadsPlan name tree) (λ plan. AndThen (TakesModels held plan.models []) (IsPlanned plan)) s2 r2 (plan_not name tree)
    (λ plan s3 r3 p3. then_not (TakesModels held plan.models []) (IsPlanned plan) s3 r3 (models_not held plan.models []) (whole_not plan) p3) p2) p) stage

plans_not : (held : Option (List HeldFile)) (plan : Option (List ℕ)) (seen : List Deed) (o : Outcome Planned) → Plans held plan seen o → EndsPlainly o
plans_not held None seen o (is_built_in a is) = goes_by o _ is
plans_not held None seen o (built_in_memory e) = by_status o 9 e.1 (omega arith, omega arith)
plans_not held (Some name) seen o stage = planned_not held name seen o stage

read_not : (p : Planned) (events : List EventWithBytes) (seen : List Deed) (o : Outcome Inputs) → HasRead p events seen o → EndsPlainly o
read_not p events seen o (has_read a is) = goes_by o _ is

inputs_not : (held : Option (List HeldFile)) (plan : Option (List ℕ)) (script : List ℕ) (seen : List Deed) (o : Outcome Inputs) → ReadsInputs held plan script seen o → EndsPlainly o
inputs_not held plan script seen o stage =
    then_not (Plans held plan) (λ p. AndThen (ReadsEvents held script) (HasRead p)) seen o (plans_not held plan)
    (λ p s r st. then_not (ReadsEvents held script) (HasRead p) s r
    (λ s2 r2 st2. then_not (ReadsFile held longest_script script) (ReadsScript script) s2 r2 (file_not held longest_script script) (script_not script) st2) (read_not p) st) stage

pub open_not : (name : List ℕ) (kinds : List Kind) (p : Planned) (seen : List Deed) (o : Outcome Site) → Opens name kinds p seen o → EndsPlainly o
open_not name kinds p seen o stage = then_not (Derives p) (Exposes name kinds p.plan) seen o (derive_not p) (expose_not name kinds p.plan) stage

run_on_not : (name : List ℕ) (kinds : List Kind) (budget : ℕ) (read : Inputs) (seen : List Deed) (o : Outcome (Unit {0})) → RunsOn name kinds budget read seen o → EndsPlainly o
run_on_not name kinds budget read seen o stage =
    then_not (Opens name kinds read.planned) (RunsScript budget read.events read.planned.plan.exchanges read.planned.plan.epoch) seen o (open_not name kinds read.planned) (run_not budget read.events read.planned.plan.exchanges read.planned.plan.epoch) stage

pub listen_not : (place : Place) (seen : List Deed) (o : Outcome (Unit {0})) → Listens place seen o → EndsPlainly o
listen_not place seen o (is_listening a is) = goes_by o tt is
listen_not place seen o (cannot_listen e) = by_status o 6 e.1 (omega arith, omega arith)
listen_not place seen o (place_memory e) = by_status o 9 e.1 (omega arith, omega arith)
listen_not place seen o (listen_memory e) = by_status o 9 e.1 (omega arith, omega arith)

serve_not : (budget exchanges : ℕ) (epoch : Option ℕ) (site : Site) (seen : List Deed) (o : Outcome (Unit {0})) → ServesEvents budget exchanges epoch site seen o → EndsPlainly o
serve_not budget exchanges epoch site seen o (has_served served.Stopped ran end serves e) = by_status o 0 e.1 (omega arith, omega arith)
serve_not budget exchanges epoch site seen o (has_served served.Failed ran end serves e) = by_status o 6 e.1 (omega arith, omega arith)
serve_not budget exchanges epoch site seen o (has_served served.Spent ran end serves e) = by_status o 8 e.1 (omega arith, omega arith)

endure_not : (exchanges : ℕ) (epoch : Option ℕ) (site : Site) (seen : List Deed) (o : Outcome (Unit {0})) → Endures exchanges epoch site seen o → EndsPlainly o
endure_not exchanges epoch site seen o (has_endured ending.Stopped ran end serves e) = by_status o 0 e.1 (omega arith, omega arith)
endure_not exchanges epoch site seen o (has_endured ending.Failed ran end serves e) = by_status o 6 e.1 (omega arith, omega arith)
endure_not exchanges epoch site seen o (has_endured ending.Spent ran end serves e) = by_status o 8 e.1 (omega arith, omega arith)

serve_by_not : (budget : Budget) (exchanges : ℕ) (epoch : Option ℕ) (site : Site) (seen : List Deed) (o : Outcome (Unit {0})) → ServesBy budget exchanges epoch site seen o → EndsPlainly o
serve_by_not (budgets.Events n) exchanges epoch site seen o stage = serve_not n exchanges epoch site seen o stage
serve_by_not budgets.Endless exchanges epoch site seen o stage = endure_not exchanges epoch site seen o stage

serving_not : (name : List ℕ) (kinds : List Kind) (budget : Budget) (idle : ℕ) (p : Planned) (seen : List Deed) (o : Outcome (Unit {0})) → ServesPlanned name kinds budget idle p seen o → EndsPlainly o
serving_not name kinds budget idle p seen o stage =
    then_not (Opens name kinds p) (λ site. AndThen (Listens (place_of p.plan (idle * 1000))) (λ _. ServesBy budget p.plan.exchanges p.plan.epoch site)) seen o (open_not name kinds p)
    (λ site s r st. then_not (Listens (place_of p.plan (idle * 1000))) (λ _. ServesBy budget p.plan.exchanges p.plan.epoch site) s r (listen_not (place_of p.plan (idle * 1000)))
    (λ u. serve_by_not budget p.plan.exchanges p.plan.epoch site) st) stage

storm_run_not : (seed n exchanges : ℕ) (epoch : Option ℕ) (site : Site) (seen : List Deed) (o : Outcome (Unit {0})) → RunsStorm seed n exchanges epoch site seen o → EndsPlainly o
storm_run_not seed n exchanges epoch site seen o (is_counted ran end a e) = by_status o 0 e.1 (omega arith, omega arith)
storm_run_not seed n exchanges epoch site seen o (storm_memory ran end count a e) = by_status o 9 e.1 (omega arith, omega arith)

storm_not : (kinds : List Kind) (seed n : ℕ) (seen : List Deed) (o : Outcome (Unit {0})) → Storms kinds seed n seen o → EndsPlainly o
storm_not kinds seed n seen o stage =
    then_not TakesBuiltIn (λ p. StormsOn kinds seed n (with_few_exchanges p)) seen o (plans_not None None)
    (λ p s r st. then_not (Opens (plan_name None) kinds (with_few_exchanges p)) (RunsStorm seed n STORM_EXCHANGES p.plan.epoch) s r (open_not (plan_name None) kinds (with_few_exchanges p)) (storm_run_not seed n STORM_EXCHANGES p.plan.epoch) st) stage

described_not : (tree : Tree) (seen : List Deed) (o : Outcome Tree) → TakesDescription tree seen o → EndsPlainly o
described_not tree seen o (is_taken a b is) = goes_by o tree is
described_not tree seen o (has_fault number pointer a e) = by_status o 5 e.1 (omega arith, omega arith)
described_not tree seen o (description_memory e) = by_status o 9 e.1 (omega arith, omega arith)

pub description_not : (held : Option (List HeldFile)) (name : List ℕ) (seen : List Deed) (o : Outcome Tree) → ReadsDescription held name seen o → EndsPlainly o
description_not held name seen o stage =
    then_not (ReadsFile held longest_json name) (DescriptionIn name) seen o (file_not held longest_json name)
    (λ content s r p. then_not (ReadsTree name content) TakesDescription s r (tree_not name content) described_not p) stage

has_input_not : (tree : Tree) (seen : List Deed) (o : Outcome (Option Tree)) → HasInput tree seen o → EndsPlainly o
has_input_not tree seen o (has_input a is) = goes_by o (Some tree) is

pub input_not : (held : Option (List HeldFile)) (name : Option (List ℕ)) (seen : List Deed) (o : Outcome (Option Tree)) → ReadsInput held name seen o → EndsPlainly o
input_not held None seen o (has_no_input a is) = goes_by o None is
input_not held (Some name) seen o stage =
    then_not (ReadsValue held name) HasInput seen o
    (λ s r p. then_not (ReadsFile held longest_json name) (ReadsTree name) s r (file_not held longest_json name) (tree_not name) p) has_input_not stage

pub choose_not : (tree : Tree) (op : Op) (name : List ℕ) (only : Option Scheme) (seen : List Deed) (o : Outcome Chosen) → Chooses tree op name only seen o → EndsPlainly o
choose_not tree op name only seen o (is_chosen c a b is) = goes_by o c is
choose_not tree op name only seen o (has_no_affordance a e) = by_status o 12 e.1 (omega arith, omega arith)
choose_not tree op name only seen o (has_no_form a e) = by_status o 12 e.1 (omega arith, omega arith)
choose_not tree op name only seen o (choose_memory e) = by_status o 9 e.1 (omega arith, omega arith)

status_not : (r : Consumed) → ¬ (status_after r ≡ 2)
status_not consumed.Done = λ two. absurd (omega (arith, two))
status_not (consumed.Other x) = λ two. absurd (omega (arith, two))
status_not consumed.Silent = λ two. absurd (omega (arith, two))
status_not consumed.Failed = λ two. absurd (omega (arith, two))
status_not consumed.Unprinted = λ two. absurd (omega (arith, two))
status_not consumed.Spent = λ two. absurd (omega (arith, two))
status_not consumed.NoMemory = λ two. absurd (omega (arith, two))

-- of what is asked of others only the first is said
asked_not : (P : List operation.Deed → Consumed → Type 0) (seen : List Deed) (o : Outcome (Unit {0})) → EndsAfter P seen o → NotTwo (status_of o)
asked_not P seen o (has_ended r deeds a e) = subst NotTwo (sym (ap status_of e.1)) (status_not r)
asked_not P seen o (line_memory r deeds a e) = (by_status o 9 e.1 (omega arith, omega arith)).0

operate_not : (k : Consumption) (tree : Tree) (input : Option Tree) (c : Chosen) (seen : List Deed) (o : Outcome (Unit {0})) → Operates k tree input c seen o → NotTwo (status_of o)
operate_not k tree input c seen o stage = asked_not _ seen o stage

consume_not : (held : Option (List HeldFile)) (k : Consumption) (seen : List Deed) (o : Outcome (Unit {0})) → ConsumesThing held k seen o → NotTwo (status_of o)
consume_not held k seen o stage =
    then_so NotTwo (ReadsDescription held k.description) (ConsumesBy held k) seen o (λ s r p. (description_not held k.description s r p).0)
    (λ tree s r p. then_so NotTwo (ReadsInput held k.input) (OperatesOn k tree) s r (λ s2 r2 p2. (input_not held k.input s2 r2 p2).0)
    (λ input s2 r2 p2. then_so NotTwo (Chooses tree (form_operation k.operation) k.name k.scheme) (Operates k tree input) s2 r2
    (λ s3 r3 p3. (choose_not tree (form_operation k.operation) k.name k.scheme s3 r3 p3).0) (operate_not k tree input) p2) p) stage

-- ---- `serve --log`, which ends with 7 where a write of its log failed

pub take_log_not : (seen : List Deed) (o : Outcome (Unit {0})) → TakesLog seen o → EndsPlainly o
take_log_not seen o (log_taken a is) = goes_by o tt is
take_log_not seen o (log_memory e) = by_status o 9 e.1 (omega arith, omega arith)

logged_not : (r : LoggedEnd) → ¬ (status_at_log_end r ≡ 2)
logged_not logged.Stopped two = absurd (omega (arith, two))
logged_not logged.Failed two = absurd (omega (arith, two))
logged_not logged.Spent two = absurd (omega (arith, two))
logged_not logged.Unwritten two = absurd (omega (arith, two))

with_log_not : (bounds : RunBounds) (plan : Plan) (site : Site) (seen : List Deed) (o : Outcome (Unit {0})) → ServesWithLog bounds plan site seen o → NotTwo (status_of o)
with_log_not bounds plan site seen o (heading_unwritten e) = subst NotTwo (sym (ap status_of e.1)) (λ two. absurd (omega (arith, two)))
with_log_not bounds plan site seen o (has_logged r shown end a e) = subst NotTwo (sym (ap status_of e.1)) (logged_not r)

log_not : (held : Option (List HeldFile)) (kinds : List Kind) (plan : List ℕ) (budget : Budget) (idle : ℕ) (seen : List Deed) (o : Outcome (Unit {0})) → LogsPlan held kinds plan budget idle seen o → NotTwo (status_of o)
log_not held kinds plan budget idle seen o stage =
    then_so NotTwo (ReadsPlanned held plan) (LogsPlanned plan kinds budget idle) seen o (λ s r p. (planned_not held plan s r p).0)
    (λ p s r st. then_so NotTwo (Opens plan kinds p) (λ site. AndThen TakesLog (λ _. ListensAndLogs budget idle p.plan site)) s r (λ s2 r2 p2. (open_not plan kinds p s2 r2 p2).0)
    (λ site s2 r2 st2. then_so NotTwo TakesLog (λ _. ListensAndLogs budget idle p.plan site) s2 r2 (λ s3 r3 p3. (take_log_not s3 r3 p3).0)
    (λ _ s3 r3 st3. then_so NotTwo (Listens (place_of p.plan (idle * 1000))) (λ _. ServesWithLog (bounds_of budget site) p.plan site) s3 r3 (λ s4 r4 p4. (listen_not (place_of p.plan (idle * 1000)) s4 r4 p4).0)
    (λ _. with_log_not (bounds_of budget site) p.plan site) st3) st2) st) stage

ends_plainly : (held : Option (List HeldFile)) (kinds : List Kind) (command : Command) (seen : List Deed) (o : Outcome (Unit {0})) → is_writing (Some command) ≡ false → Does held kinds command seen o → EndsPlainly o
ends_plainly held kinds (Replay script plan events) seen o other stage =
    then_not (ReadsInputs held plan script) (RunsOn (plan_name plan) kinds events) seen o (inputs_not held plan script) (run_on_not (plan_name plan) kinds events) stage
ends_plainly held kinds (Check description) seen o other stage =
    then_not (ReadsFile held longest_json description) (Checks description) seen o (file_not held longest_json description)
    (λ content s r p. then_not (ReadsTree description content) Judges s r (tree_not description content) judge_not p) stage
ends_plainly held kinds (Derive plan) seen o other stage =
    then_not (ReadsPlanned held plan) DerivesAndPrints seen o (planned_not held plan)
    (λ p s r st. then_not (Derives p) Prints s r (derive_not p) print_not st) stage
ends_plainly held kinds (Table plan) seen o other stage =
    then_not (ReadsPlanned held plan) (Tables plan kinds) seen o (planned_not held plan)
    (λ p s r st. then_not (Derives p) (PrintsTable plan kinds p.plan) s r (derive_not p) (table_not plan kinds p.plan) st) stage
ends_plainly held kinds (Serve plan budget idle) seen o other stage =
    then_not (ReadsPlanned held plan) (ServesPlanned plan kinds budget idle) seen o (planned_not held plan) (serving_not plan kinds budget idle) stage
ends_plainly held kinds (ServeLogged plan budget idle) seen o other stage = absurd cc
ends_plainly held kinds (Storm seed events) seen o other stage = storm_not kinds seed events seen o stage
ends_plainly held kinds (Consume consumption) seen o other stage = absurd cc
ends_plainly held kinds (Discover host port) seen o other stage = absurd cc

does_not_end_so : (held : Option (List HeldFile)) (kinds : List Kind) (command : Command) (seen : List Deed) (o : Outcome (Unit {0})) → Does held kinds command seen o → NotTwo (status_of o)
does_not_end_so held kinds (Replay script plan events) seen o stage = (ends_plainly held kinds (Replay script plan events) seen o refl stage).0
does_not_end_so held kinds (Check description) seen o stage = (ends_plainly held kinds (Check description) seen o refl stage).0
does_not_end_so held kinds (Derive plan) seen o stage = (ends_plainly held kinds (Derive plan) seen o refl stage).0
does_not_end_so held kinds (Table plan) seen o stage = (ends_plainly held kinds (Table plan) seen o refl stage).0
does_not_end_so held kinds (Serve plan budget idle) seen o stage = (ends_plainly held kinds (Serve plan budget idle) seen o refl stage).0
does_not_end_so held kinds (ServeLogged plan budget idle) seen o stage = log_not held kinds plan budget idle seen o stage
does_not_end_so held kinds (Storm seed events) seen o stage = (ends_plainly held kinds (Storm seed events) seen o refl stage).0
does_not_end_so held kinds (Consume consumption) seen o stage = consume_not held consumption seen o stage
does_not_end_so held kinds (Discover host port) seen o stage = asked_not _ seen o stage

-- the words lead to status 2 exactly where they are no command, unless it is out of memory for them
two_is_no_command : (held : Option (List HeldFile)) (kinds : List Kind) (words : List (List ℕ)) (seen : List Deed) (status : ℕ) → Commands held kinds words seen (ends status)
    → (status ≡ 2 → IsNoCommand words) × (IsNoCommand words → (status ≡ 2) ⊎ (status ≡ 9))
two_is_no_command held kinds words seen status (is_no_command none e) = (λ two. none, λ n. inl (ap status_of e.1))
two_is_no_command held kinds words seen status (is_command command meaning stage) = (
  (λ two. absurd (does_not_end_so held kinds command seen (ends status) stage two)),
  (λ none. let no : None ≡ Some command = sym none ∙ meaning in absurd cc),
)
two_is_no_command held kinds words seen status (words_memory e) =
    ((λ two. let bad : 9 ≡ 2 = sym (ap status_of e.1) ∙ two in absurd (omega (arith, bad))), λ n. inr (ap status_of e.1))

-- and so does the whole call, unless the output fails
pub usage_is_exact : (words : List (List ℕ)) (before now : Around) (out out_now : OutSeen) (result : ℕ) → Ends words before now out out_now result
    → (result ≡ 2 → IsNoCommand words) × (IsNoCommand words → (result ≡ 2) ⊎ (result ≡ 7) ⊎ (result ≡ 9))
usage_is_exact words before now out out_now result e =
    let exact = two_is_no_command before.files.held (kinds_of before.outside.slots) words e.seen e.status e.stage in
    elim e.reported [
      | inl done ↦ (
        (λ two. exact.0 (sym done.0 ∙ two)),
        (λ none. elim (exact.1 none) [ inl two ↦ inl (done.0 ∙ two) | inr nine ↦ inr (inr (done.0 ∙ nine)) ]),
      )
      | inr failed ↦ (
        (λ two. let bad : 7 ≡ 2 = sym failed.0 ∙ two in absurd (omega (arith, bad))),
        (λ none. inr (inl failed.0)),
      )
    ]

-- ---- status 7

never_seven : (held : Option (List HeldFile)) (kinds : List Kind) (words : List (List ℕ)) (seen : List Deed) (status : ℕ) → is_writing (meaning_of words) ≡ false → Commands held kinds words seen (ends status) → ¬ (status ≡ 7)
never_seven held kinds words seen status other (is_no_command none e) = λ seven. let bad : 2 ≡ 7 = sym (ap status_of e.1) ∙ seven in absurd (omega (arith, bad))
never_seven held kinds words seen status other (is_command command meaning stage) =
    (ends_plainly held kinds command seen (ends status) (sym (ap is_writing meaning) ∙ other) stage).1
never_seven held kinds words seen status other (words_memory e) = λ seven. let bad : 9 ≡ 7 = sym (ap status_of e.1) ∙ seven in absurd (omega (arith, bad))

-- where nothing is asked of others, that is the output's
pub output_failed : (words : List (List ℕ)) (before now : Around) (out out_now : OutSeen) (result : ℕ) → Ends words before now out out_now result → is_writing (meaning_of words) ≡ false → result ≡ 7 → Rose out.faults out_now.faults
output_failed words before now out out_now result e other seven = elim e.reported [
  | inl done ↦ absurd (never_seven before.files.held (kinds_of before.outside.slots) words e.seen e.status other e.stage (sym done.0 ∙ seven))
  | inr failed ↦ failed.1
]

-- nor is a refusal of words reported so, but by the output
pub refusal_failed : (out out_now : OutSeen) (fault : WordsFault) (e : Ended) (text : List ℕ) (result : ℕ) → EndsAs fault e → IsReported (ended_status e) text out out_now result → result ≡ 7 → Rose out.faults out_now.faults
refusal_failed out out_now Usage e text result is (inl done) seven = let bad : 2 ≡ 7 = sym (ap ended_status is) ∙ sym done.0 ∙ seven in absurd (omega (arith, bad))
refusal_failed out out_now NoMemory e text result is (inl done) seven = let bad : 9 ≡ 7 = sym (ap ended_status is) ∙ sym done.0 ∙ seven in absurd (omega (arith, bad))
refusal_failed out out_now Usage e text result is (inr failed) seven = failed.1
refusal_failed out out_now NoMemory e text result is (inr failed) seven = failed.1

-- ---- a discovery

discovered_status : (r : Consumed) → MayDiscover (status_after r)
discovered_status consumed.Done = (λ bad. absurd (omega (arith, bad)), λ bad. absurd (omega (arith, bad)), λ bad. absurd (omega (arith, bad)), λ bad. absurd (omega (arith, bad)))
discovered_status (consumed.Other x) = (λ bad. absurd (omega (arith, bad)), λ bad. absurd (omega (arith, bad)), λ bad. absurd (omega (arith, bad)), λ bad. absurd (omega (arith, bad)))
discovered_status consumed.Silent = (λ bad. absurd (omega (arith, bad)), λ bad. absurd (omega (arith, bad)), λ bad. absurd (omega (arith, bad)), λ bad. absurd (omega (arith, bad)))
discovered_status consumed.Failed = (λ bad. absurd (omega (arith, bad)), λ bad. absurd (omega (arith, bad)), λ bad. absurd (omega (arith, bad)), λ bad. absurd (omega (arith, bad)))
discovered_status consumed.Unprinted = (λ bad. absurd (omega (arith, bad)), λ bad. absurd (omega (arith, bad)), λ bad. absurd (omega (arith, bad)), λ bad. absurd (omega (arith, bad)))
discovered_status consumed.Spent = (λ bad. absurd (omega (arith, bad)), λ bad. absurd (omega (arith, bad)), λ bad. absurd (omega (arith, bad)), λ bad. absurd (omega (arith, bad)))
discovered_status consumed.NoMemory = (λ bad. absurd (omega (arith, bad)), λ bad. absurd (omega (arith, bad)), λ bad. absurd (omega (arith, bad)), λ bad. absurd (omega (arith, bad)))

may_discover : (n m : ℕ) → n ≡ m → MayDiscover m → MayDiscover n
may_discover n m same may = subst MayDiscover (sym same) may

discovered_so : (P : List operation.Deed → Consumed → Type 0) (seen : List Deed) (o : Outcome (Unit {0})) → EndsAfter P seen o → MayDiscover (status_of o)
discovered_so P seen o (has_ended r deeds a e) = may_discover (status_of o) (status_after r) (ap status_of e.1) (discovered_status r)
discovered_so P seen o (line_memory r deeds a e) = may_discover (status_of o) 9 (ap status_of e.1) (discovered_status consumed.NoMemory)

does_discover : (held : Option (List HeldFile)) (kinds : List Kind) (command : Command) (seen : List Deed) (o : Outcome (Unit {0})) → is_discovering (Some command) ≡ true → Does held kinds command seen o → MayDiscover (status_of o)
does_discover held kinds (Replay script plan events) seen o is stage = absurd cc
does_discover held kinds (Serve plan budget idle) seen o is stage = absurd cc
does_discover held kinds (ServeLogged plan budget idle) seen o is stage = absurd cc
does_discover held kinds (Check description) seen o is stage = absurd cc
does_discover held kinds (Derive plan) seen o is stage = absurd cc
does_discover held kinds (Table plan) seen o is stage = absurd cc
does_discover held kinds (Storm seed events) seen o is stage = absurd cc
does_discover held kinds (Consume consumption) seen o is stage = absurd cc
does_discover held kinds (Discover host port) seen o is stage = discovered_so _ seen o stage

words_discover : (held : Option (List HeldFile)) (kinds : List Kind) (words : List (List ℕ)) (seen : List Deed) (status : ℕ) → is_discovering (meaning_of words) ≡ true → Commands held kinds words seen (ends status) → MayDiscover status
words_discover held kinds words seen status is (is_no_command none e) = may_discover status 2 (ap status_of e.1) (λ bad. absurd (omega (arith, bad)), λ bad. absurd (omega (arith, bad)), λ bad. absurd (omega (arith, bad)), λ bad. absurd (omega (arith, bad)))
words_discover held kinds words seen status is (is_command command meaning stage) = does_discover held kinds command seen (ends status) (sym (ap is_discovering meaning) ∙ is) stage
words_discover held kinds words seen status is (words_memory e) = may_discover status 9 (ap status_of e.1) (discovered_status consumed.NoMemory)

-- the whole call ends as a discovery may
pub discovery_ends : (words : List (List ℕ)) (before now : Around) (out out_now : OutSeen) (result : ℕ) → Ends words before now out out_now result → is_discovering (meaning_of words) ≡ true → MayDiscover result
discovery_ends words before now out out_now result e is = elim e.reported [
  | inl done ↦ may_discover result e.status done.0 (words_discover before.files.held (kinds_of before.outside.slots) words e.seen e.status is e.stage)
  | inr failed ↦ may_discover result 7 failed.0 (discovered_status consumed.Unprinted)
]
