-- Stages before serving: nothing is seen of them, and so no event is taken.
use Rattle.std.proofs.Common.{◌≡◌, ℕ, Option, List, [], ◌∷◌, ◌++◌, ap, ap₂, sym, ◌∙◌}
use Rattle.std.proofs.lemmas.List.Elements.{filter_map-append}
use Rattle.wot_terms.specs.declared.kind.Kind.{Kind}
use Rattle.servient_outside.specs.declared.files.HeldFile.{HeldFile}
use Rattle.servient_outside.specs.declared.place.Place.{Place}
use Rattle.servient_outside.specs.Network.{events_in}
use Rattle.tm_parts.specs.Library.{Models}
use Rattle.servient_trace.specs.Trace.{Sighting, happened_in}
use Rattle.servient_trace.specs.ShownSections.{Shown, seen_in}
use Rattle.command_stages.specs.declared.derivation.Planned.{Planned}
use Rattle.command_stages.specs.Lines.{memory_line}
use Rattle.command_stages.specs.Stages.{Deed, did_write, showing_in, showings_in, sightings_in, Outcome, goes_on, ends, AndThen, ends_first, goes_further}
use Rattle.command_stages.specs.Reading.{ReadsFile, is_read, is_absent, is_unreadable, is_long, file_memory, is_not_read, has_been_read, has_failed, ReadsTree, is_tree, has_no_tree, tree_memory, longest_json}
use Rattle.command_stages.specs.Deriving.{ReadsPlan, is_plan, is_no_plan, plan_memory, AddsModel, is_added, is_not_added, add_memory, TakesModel, TakesModels, IsPlanned, is_planned, ReadsPlanned, Derives, is_derived, is_refused, derive_memory}
use Rattle.command_stages.proofs.StageLaws.{seen_among}
use Rattle.servient_cli.specs.Opening.{Exposes, is_exposed, is_misfit, expose_memory, Opens}
use Rattle.servient_cli.specs.Listening.{Listens, is_listening, cannot_listen, place_memory, listen_memory}
use Rattle.servient_cli.specs.LoggedServing.{TakesLog, log_taken, log_memory, TookNothing}

-- ---- deeds of which nothing is seen

abbrev pub IsUnseen : List Deed → Type 0
IsUnseen seen = showings_in seen ≡ []

pub unseen_then : (a b seen : List Deed) → seen ≡ a ++ b → IsUnseen a → IsUnseen b → IsUnseen seen
unseen_then a b seen whole one other = ap showings_in whole ∙ filter_map-append showing_in a b ∙ ap₂ (λ (x y : List Shown). x ++ y) one other

-- a stage of which nothing is seen
abbrev pub Quiet : {A : Type 0} → (List Deed → Outcome A → Type 0) → Type 0
Quiet {A} P = (seen : List Deed) (o : Outcome A) → P seen o → IsUnseen seen

pub then_unseen : {A B : Type 0} (P : List Deed → Outcome A → Type 0) (Q : A → List Deed → Outcome B → Type 0) → Quiet P → ((x : A) → Quiet (Q x)) → Quiet (AndThen P Q)
then_unseen P Q one other seen o (ends_first status stage is) = one seen (ends status) stage
then_unseen P Q one other seen o (goes_further (x, w)) = unseen_then w.first w.second seen w.whole (one w.first (goes_on x) w.one) (other x w.second o w.other)

pub file_unseen : (held : Option (List HeldFile)) (limit : ℕ) (name : List ℕ) → Quiet (ReadsFile held limit name)
file_unseen held limit name seen o (is_read content short holds saw goes) = ap showings_in saw
file_unseen held limit name seen o (is_absent holds end) = ap showings_in end.0
file_unseen held limit name seen o (is_unreadable end) = ap showings_in end.0
file_unseen held limit name seen o (is_long holds end) = ap showings_in end.0
file_unseen held limit name seen o (file_memory first (is_not_read none) end) = ap showings_in end.0 ∙ ap (λ (ds : List Deed). showings_in (ds ++ did_write memory_line ∷ [])) none
file_unseen held limit name seen o (file_memory first (has_been_read is) end) = ap showings_in end.0 ∙ ap (λ (ds : List Deed). showings_in (ds ++ did_write memory_line ∷ [])) is
file_unseen held limit name seen o (file_memory first (has_failed is) end) = ap showings_in end.0 ∙ ap (λ (ds : List Deed). showings_in (ds ++ did_write memory_line ∷ [])) is

pub tree_unseen : (name content : List ℕ) → Quiet (ReadsTree name content)
tree_unseen name content seen o (is_tree tree read saw goes) = ap showings_in saw
tree_unseen name content seen o (has_no_tree what none why end) = ap showings_in end.0
tree_unseen name content seen o (tree_memory end) = ap showings_in end.0

pub plan_unseen : (name : List ℕ) (tree : _) → Quiet (ReadsPlan name tree)
plan_unseen name tree seen o (is_plan plan is saw goes) = ap showings_in saw
plan_unseen name tree seen o (is_no_plan pointer isnt end) = ap showings_in end.0
plan_unseen name tree seen o (plan_memory end) = ap showings_in end.0

pub added_unseen : (models : Models) (url file : List ℕ) (tree : _) → Quiet (AddsModel models url file tree)
added_unseen models url file tree seen o (is_added may saw goes) = ap showings_in saw
added_unseen models url file tree seen o (is_not_added what why end) = ap showings_in end.0
added_unseen models url file tree seen o (add_memory end) = ap showings_in end.0

pub models_unseen : (held : Option (List HeldFile)) (left : List (List ℕ × List ℕ)) (models : Models) → Quiet (TakesModels held left models)
models_unseen held [] models seen o is = ap showings_in is.0
models_unseen held (model ∷ left) models seen o stage =
    then_unseen (TakesModel held model models) (TakesModels held left)
    (then_unseen (ReadsFile held longest_json model.1) (λ content. AndThen (ReadsTree model.1 content) (AddsModel models model.0 model.1)) (file_unseen held longest_json model.1)
    (λ content. then_unseen (ReadsTree model.1 content) (AddsModel models model.0 model.1) (tree_unseen model.1 content) (added_unseen models model.0 model.1)))
    (models_unseen held left) seen o stage

pub planned_unseen : (held : Option (List HeldFile)) (name : List ℕ) → Quiet (ReadsPlanned held name)
planned_unseen held name =
    then_unseen (ReadsFile held longest_json name) (λ content. AndThen (ReadsTree name content) (λ tree. AndThen (ReadsPlan name tree) (λ plan. AndThen (TakesModels held plan.models []) (IsPlanned plan))))
    (file_unseen held longest_json name) (λ content.
    then_unseen (ReadsTree name content) (λ tree. AndThen (ReadsPlan name tree) (λ plan. AndThen (TakesModels held plan.models []) (IsPlanned plan))) (tree_unseen name content) (λ tree.
    then_unseen (ReadsPlan name tree) (λ plan. AndThen (TakesModels held plan.models []) (IsPlanned plan)) (plan_unseen name tree) (λ plan.
    then_unseen (TakesModels held plan.models []) (IsPlanned plan) (models_unseen held plan.models []) (λ models seen o end. put_together plan models seen o end))))
  where
    put_together : (plan : _) (models : Models) → Quiet (IsPlanned plan models)
    put_together plan models seen o (is_planned saw goes) = ap showings_in saw

pub derived_unseen : (p : Planned) → Quiet (Derives p)
derived_unseen p seen o (is_derived things is saw goes) = ap showings_in saw
derived_unseen p seen o (is_refused fault is end) = ap showings_in end.0
derived_unseen p seen o (derive_memory end) = ap showings_in end.0

pub exposed_unseen : (name : List ℕ) (kinds : List Kind) (plan : _) (things : _) → Quiet (Exposes name kinds plan things)
exposed_unseen name kinds plan things seen o (is_exposed none saw goes) = ap showings_in saw
exposed_unseen name kinds plan things seen o (is_misfit fault isnt first end) = ap showings_in end.0
exposed_unseen name kinds plan things seen o (expose_memory end) = ap showings_in end.0

-- ---- deeds by which no event is taken

pub untaken : (seen : List Deed) → IsUnseen seen → TookNothing seen
untaken seen unseen = ap (λ (x : List Sighting). events_in (happened_in x)) (sym (seen_among seen) ∙ ap seen_in unseen)

pub taken_unseen : Quiet TakesLog
taken_unseen seen o (log_taken saw goes) = ap showings_in saw
taken_unseen seen o (log_memory end) = ap showings_in end.0

-- listening takes none
pub listens_untaken : (place : Place) (seen : List Deed) (o : Outcome (Unit {0})) → Listens place seen o → TookNothing seen
listens_untaken place seen o (is_listening saw goes) = ap (λ (ds : List Deed). events_in (happened_in (sightings_in ds))) saw
listens_untaken place seen o (cannot_listen end) = ap (λ (ds : List Deed). events_in (happened_in (sightings_in ds))) end.0
listens_untaken place seen o (place_memory end) = ap (λ (ds : List Deed). events_in (happened_in (sightings_in ds))) end.0
listens_untaken place seen o (listen_memory end) = ap (λ (ds : List Deed). events_in (happened_in (sightings_in ds))) end.0

-- and so is opening a servient
pub opens_unseen : (name : List ℕ) (kinds : List Kind) (p : Planned) → Quiet (Opens name kinds p)
opens_unseen name kinds p = then_unseen (Derives p) (Exposes name kinds p.plan) (derived_unseen p) (exposed_unseen name kinds p.plan)
