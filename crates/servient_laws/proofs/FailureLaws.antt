-- A stage ends with status 3 or 6 only where a file or the network failed: stage by stage.
use Rattle.std.proofs.Common.{◌≡◌, ◌≤◌, ◌*◌, ℕ, List, [], ◌∷◌, ◌++◌, Option, Some, None, sym, ap, subst, ◌∙◌, arith, inl, inr}
use Rattle.std.specs.Prelude.{◌⊎◌}
use Rattle.servient_base.specs.Count.{Rose, RoseBy}
use Rattle.wot_json.specs.declared.tree.Tree.{Tree}
use Rattle.wot_terms.specs.declared.kind.Kind.{Kind}
use Rattle.wot_terms.specs.declared.op.Op.{Op}
use Rattle.wot_forms.specs.declared.scheme.Scheme.{Scheme}
use Rattle.wot_consumer.specs.declared.chosen.Chosen.{Chosen}
use Rattle.wot_consumer.specs.Discovery.{links_of}
use Rattle.thing_site.specs.Exposing.{kinds_of}
use Rattle.command_words.specs.declared.command.Command.{Command}
use Rattle.command_words.specs.declared.command.Command.TheVariants.{Replay, Serve, ServeLogged, Check, Derive, Table, Storm, Consume, Discover}
use Rattle.command_words.specs.declared.command.Consumption.{Consumption}
use Rattle.command_words.specs.Operations.{form_operation}
use Rattle.servient_outside.specs.declared.files.HeldFile.{HeldFile}
use Rattle.servient_outside.specs.declared.place.Place.{Place}
use Rattle.servient_outside.specs.Network.{heard, did, broke, next_event, break_count}
use Rattle.servient_plan.specs.declared.plan.Plan.{Plan}
use Rattle.servient_plan.specs.Plan.{place_of}
use Rattle.network_consumer.specs.declared.consumed.Consumed.{Consumed}
use Rattle.network_consumer.specs.declared.consumed.Consumed.TheVariants as consumed
use Rattle.network_consumer.specs.Deeds.{happens, prints}
use Rattle.network_consumer.specs.Deeds as operation
use Rattle.network_consumer.specs.Consuming.{Discovers}
use Rattle.network_consumer.proofs.FailureLaws.{failing_breaks_the_network}
use Rattle.servient_core.specs.declared.serving.Served.TheVariants as served
use Rattle.servient_trace.specs.Trace.{Sighting, at_network, at_handler, happened_in}
use Rattle.servient_core.specs.Machine.{Site}
use Rattle.command_stages.specs.declared.derivation.Planned.{Planned}
use Rattle.command_stages.specs.declared.inputs.Inputs.{Inputs}
use Rattle.servient_cli.specs.declared.storming.TheConstants.{STORM_EXCHANGES}
use Rattle.command_stages.specs.Lines.{network_line}
use Rattle.command_stages.specs.Stages.{Deed, did_write, sees, shows_all, text_in, Outcome, ends, AndThen}
use Rattle.command_stages.specs.Reading.{ReadsFile, ReadsTree, longest_json}
use Rattle.command_stages.specs.Inputs.{TakesBuiltIn, plan_name, ReadsInputs}
use Rattle.servient_cli.specs.Replaying.{RunsOn, RunsScript}
use Rattle.servient_cli.specs.Storming.{RunsStorm, StormsOn, with_few_exchanges}
use Rattle.command_stages.specs.Describing.{TakesDescription, is_taken, has_fault, description_memory, DescriptionIn, ReadsDescription, ReadsValue, HasInput, has_input, HasNoInput, has_no_input, ReadsInput}
use Rattle.servient_cli.specs.Consuming.{Chooses, is_chosen, has_no_affordance, has_no_form, choose_memory, deeds_of, status_after, line_after, EndsAfter, has_ended, line_memory, IsOperated, Operates, OperatesOn, ConsumesBy}
use Rattle.servient_cli.specs.Opening.{Opens}
use Rattle.servient_core.specs.declared.sections.RunBounds.{RunBounds}
use Rattle.logged_serving.specs.declared.serving.LoggedEnd.TheVariants as logged
use Rattle.servient_cli.specs.LoggedServing.{bounds_of, heading_of, TakesLog, log_taken, log_memory, ServesWithLog, heading_unwritten, has_logged, ListensAndLogs, LogsPlanned}
use Rattle.servient_cli.proofs.LoggedStages.{sightings_logged}
use Rattle.servient_cli.specs.Listening.{Listens, is_listening, cannot_listen, place_memory, listen_memory, ServesEvents, has_served, Endures, has_endured, ServesBy, ServesPlanned}
use Rattle.command_stages.proofs.StageLaws.{shows_net}
use Rattle.servient_trace.specs.ShownSections.{Shown, saw as was_seen, forgot, seen_in}
use Rattle.servient_core.specs.declared.sections.SectionsEnd.TheVariants as ending
use Rattle.command_words.specs.declared.command.Budget.{Budget}
use Rattle.command_words.specs.declared.command.Budget.TheVariants as budgets
use Rattle.command_stages.specs.Checking.{Checks, Judges}
use Rattle.command_stages.specs.Deriving.{ReadsPlanned, Derives, Prints, DerivesAndPrints}
use Rattle.command_stages.specs.Tabling.{PrintsTable, Tables}
use Rattle.servient_cli.specs.Command.{Does, Commands, is_no_command, is_command, words_memory, IsReported}
use Rattle.servient_laws.specs.Failures.{IsMissing, FailuresAreCounted}
use Rattle.servient_laws.proofs.FailureStages.{FileFails, NetFails, Tells, Telling, same_status, ended, went, then_tells, six_only, file_tells, tree_tells, planned_tells, built_in_tells, inputs_tell, derive_tells, print_tells, table_tells, open_tells, judge_tells, run_tells, storm_tells}

-- ---- the network

listen_tells : (held : Option (List HeldFile)) (place : Place) → Telling held (Listens place)
listen_tells held place seen status (is_listening a is) = went held seen status tt is
listen_tells held place seen status (cannot_listen e) = six_only held seen status (same_status status 6 e.1) (subst NetFails (sym e.0) (omega arith))
listen_tells held place seen status (place_memory e) = ended held seen status 9 e.1 (omega arith, omega arith)
listen_tells held place seen status (listen_memory e) = ended held seen status 9 e.1 (omega arith, omega arith)

breaks_last : (a : List Sighting) (rest : List Deed) → NetFails (sees (a ++ at_network (broke next_event) ∷ []) ++ rest)
breaks_last [] rest = omega arith
breaks_last (at_network (heard e) ∷ a) rest = breaks_last a rest
breaks_last (at_network (did act) ∷ a) rest = breaks_last a rest
breaks_last (at_network (broke call) ∷ a) rest = omega arith
breaks_last (at_handler call ∷ a) rest = breaks_last a rest

serve_tells : (held : Option (List HeldFile)) (budget exchanges : ℕ) (epoch : Option ℕ) (site : Site) → Telling held (ServesEvents budget exchanges epoch site)
serve_tells held budget exchanges epoch site seen status (has_served served.Stopped ran end serves e) = ended held seen status 0 e.1 (omega arith, omega arith)
serve_tells held budget exchanges epoch site seen status (has_served served.Failed ran end serves e) =
    six_only held seen status (same_status status 6 e.1)
    (subst NetFails (sym (e.0 ∙ ap (λ (x : List Sighting). sees x ++ did_write network_line ∷ []) (serves.run.whole ∙ ap (λ (x : List Sighting). serves.run.first ++ x) serves.run.other.saw))) (breaks_last serves.run.first (did_write network_line ∷ [])))
serve_tells held budget exchanges epoch site seen status (has_served served.Spent ran end serves e) = ended held seen status 8 e.1 (omega arith, omega arith)

-- the same of a run that is shown in sections
breaks_shown : (shown : List Shown) (rest : List Deed) → 1 ≤ break_count (happened_in (seen_in shown)) → NetFails (shows_all shown ++ rest)
breaks_shown [] rest breaks = absurd (omega (arith, breaks))
breaks_shown (forgot ∷ shown) rest breaks = breaks_shown shown rest breaks
breaks_shown (was_seen (at_handler call) ∷ shown) rest breaks = breaks_shown shown rest breaks
breaks_shown (was_seen (at_network (heard e)) ∷ shown) rest breaks = breaks_shown shown rest breaks
breaks_shown (was_seen (at_network (did act)) ∷ shown) rest breaks = breaks_shown shown rest breaks
breaks_shown (was_seen (at_network (broke call)) ∷ shown) rest breaks = omega arith

breaks_at_end : (a : List Sighting) → 1 ≤ break_count (happened_in (a ++ at_network (broke next_event) ∷ []))
breaks_at_end [] = omega arith
breaks_at_end (at_network (heard e) ∷ a) = breaks_at_end a
breaks_at_end (at_network (did act) ∷ a) = breaks_at_end a
breaks_at_end (at_network (broke call) ∷ a) = omega arith
breaks_at_end (at_handler call ∷ a) = breaks_at_end a

endure_tells : (held : Option (List HeldFile)) (exchanges : ℕ) (epoch : Option ℕ) (site : Site) → Telling held (Endures exchanges epoch site)
endure_tells held exchanges epoch site seen status (has_endured ending.Stopped shown end serves e) = ended held seen status 0 e.1 (omega arith, omega arith)
endure_tells held exchanges epoch site seen status (has_endured ending.Failed shown end serves e) =
    six_only held seen status (same_status status 6 e.1)
    (subst NetFails (sym e.0) (breaks_shown shown (did_write network_line ∷ [])
    (subst (λ (x : List Sighting). 1 ≤ break_count (happened_in x)) (sym (serves.run.whole ∙ ap (λ (x : List Sighting). serves.run.first ++ x) serves.run.other.saw)) (breaks_at_end serves.run.first))))
endure_tells held exchanges epoch site seen status (has_endured ending.Spent shown end serves e) = ended held seen status 8 e.1 (omega arith, omega arith)

serve_by_tells : (held : Option (List HeldFile)) (budget : Budget) (exchanges : ℕ) (epoch : Option ℕ) (site : Site) → Telling held (ServesBy budget exchanges epoch site)
serve_by_tells held (budgets.Events n) exchanges epoch site = serve_tells held n exchanges epoch site
serve_by_tells held budgets.Endless exchanges epoch site = endure_tells held exchanges epoch site

-- with a log; the output's failure is none of the network
log_tells : (held : Option (List HeldFile)) (bounds : RunBounds) (plan : Plan) (site : Site) → Telling held (ServesWithLog bounds plan site)
log_tells held bounds plan site seen status (heading_unwritten e) = ended held seen status 7 e.1 (omega arith, omega arith)
log_tells held bounds plan site seen status (has_logged logged.Stopped shown end ran e) = ended held seen status 0 e.1 (omega arith, omega arith)
log_tells held bounds plan site seen status (has_logged logged.Failed shown end ran e) =
    six_only held seen status (same_status status 6 e.1)
    (subst NetFails (sym e.0) (subst (λ (x : List Sighting). 1 ≤ break_count (happened_in x)) (sym (sightings_logged (heading_of plan site) network_line shown))
    (subst (λ (x : List Sighting). 1 ≤ break_count (happened_in x)) (sym (ran.run.whole ∙ ap (λ (x : List Sighting). ran.run.first ++ x) ran.run.other.saw)) (breaks_at_end ran.run.first))))
log_tells held bounds plan site seen status (has_logged logged.Spent shown end ran e) = ended held seen status 8 e.1 (omega arith, omega arith)
log_tells held bounds plan site seen status (has_logged logged.Unwritten shown end ran e) = ended held seen status 7 e.1 (omega arith, omega arith)

taken_tells : (held : Option (List HeldFile)) → Telling held TakesLog
taken_tells held seen status (log_taken a is) = went held seen status tt is
taken_tells held seen status (log_memory e) = ended held seen status 9 e.1 (omega arith, omega arith)

breaks_among : (deeds : List operation.Deed) (rest : List Deed) → 1 ≤ break_count (operation.happened_in deeds) → NetFails (deeds_of deeds ++ rest)
breaks_among [] rest breaks = absurd (omega (arith, breaks))
breaks_among (happens (heard e) ∷ deeds) rest breaks = breaks_among deeds rest breaks
breaks_among (happens (did act) ∷ deeds) rest breaks = breaks_among deeds rest breaks
breaks_among (happens (broke call) ∷ deeds) rest breaks = omega arith
breaks_among (prints text ∷ deeds) rest breaks = breaks_among deeds rest breaks

-- a failure of what is asked of others breaks the network
abbrev BreaksSo : (List operation.Deed → Consumed → Type 0) → Type 0
BreaksSo P = (deeds : List operation.Deed) → P deeds consumed.Failed → 1 ≤ break_count (operation.happened_in deeds)

done_tells : (held : Option (List HeldFile)) (P : List operation.Deed → Consumed → Type 0) (r : Consumed) (deeds : List operation.Deed) (seen : List Deed) (status : ℕ) → BreaksSo P → P deeds r
    → seen ≡ deeds_of deeds ++ did_write (line_after r) ∷ [] → ◌≡◌ {A = Outcome (Unit {0})} (ends status) (ends (status_after r)) → Tells held seen status
done_tells held P consumed.Done deeds seen status breaks did_so saw is = ended held seen status 0 is (omega arith, omega arith)
done_tells held P (consumed.Other outcome) deeds seen status breaks did_so saw is = ended held seen status 10 is (omega arith, omega arith)
done_tells held P consumed.Silent deeds seen status breaks did_so saw is = ended held seen status 11 is (omega arith, omega arith)
done_tells held P consumed.Failed deeds seen status breaks did_so saw is =
    six_only held seen status (same_status status 6 is) (subst NetFails (sym saw) (breaks_among deeds (did_write (line_after consumed.Failed) ∷ []) (breaks deeds did_so)))
done_tells held P consumed.Unprinted deeds seen status breaks did_so saw is = ended held seen status 7 is (omega arith, omega arith)
done_tells held P consumed.Spent deeds seen status breaks did_so saw is = ended held seen status 8 is (omega arith, omega arith)
done_tells held P consumed.NoMemory deeds seen status breaks did_so saw is = ended held seen status 9 is (omega arith, omega arith)

asked_tells : (held : Option (List HeldFile)) (P : List operation.Deed → Consumed → Type 0) → BreaksSo P → Telling held (EndsAfter P)
asked_tells held P breaks seen status (has_ended r deeds did_so e) = done_tells held P r deeds seen status breaks did_so e.0 e.1
asked_tells held P breaks seen status (line_memory r deeds did_so e) = ended held seen status 9 e.1 (omega arith, omega arith)

operate_tells : (held : Option (List HeldFile)) (k : Consumption) (tree : Tree) (input : Option Tree) (c : Chosen) → Telling held (Operates k tree input c)
operate_tells held k tree input c = asked_tells held (IsOperated k tree input c) (λ deeds did_so. failing_breaks_the_network.consumes did_so.request c deeds did_so.consumes)

described_tells : (held : Option (List HeldFile)) (tree : Tree) → Telling held (TakesDescription tree)
described_tells held tree seen status (is_taken a b is) = went held seen status tree is
described_tells held tree seen status (has_fault number pointer a e) = ended held seen status 5 e.1 (omega arith, omega arith)
described_tells held tree seen status (description_memory e) = ended held seen status 9 e.1 (omega arith, omega arith)

has_input_tells : (held : Option (List HeldFile)) (tree : Tree) → Telling held (HasInput tree)
has_input_tells held tree seen status (has_input a is) = went held seen status (Some tree) is

no_input_tells : (held : Option (List HeldFile)) → Telling held HasNoInput
no_input_tells held seen status (has_no_input a is) = went held seen status None is

input_tells : (held : Option (List HeldFile)) (name : Option (List ℕ)) → Telling held (ReadsInput held name)
input_tells held None = no_input_tells held
input_tells held (Some name) =
    then_tells held (ReadsValue held name) HasInput (then_tells held (ReadsFile held longest_json name) (ReadsTree name) (file_tells held longest_json name) (tree_tells held name)) (has_input_tells held)

choose_tells : (held : Option (List HeldFile)) (tree : Tree) (op : Op) (name : List ℕ) (only : Option Scheme) → Telling held (Chooses tree op name only)
choose_tells held tree op name only seen status (is_chosen c a b is) = went held seen status c is
choose_tells held tree op name only seen status (has_no_affordance a e) = ended held seen status 12 e.1 (omega arith, omega arith)
choose_tells held tree op name only seen status (has_no_form a e) = ended held seen status 12 e.1 (omega arith, omega arith)
choose_tells held tree op name only seen status (choose_memory e) = ended held seen status 9 e.1 (omega arith, omega arith)

-- ---- commands

does_tell : (held : Option (List HeldFile)) (kinds : List Kind) (command : Command) → Telling held (Does held kinds command)
does_tell held kinds (Replay script plan events) =
    then_tells held (ReadsInputs held plan script) (RunsOn (plan_name plan) kinds events) (inputs_tell held plan script)
    (λ (read : Inputs). then_tells held (Opens (plan_name plan) kinds read.planned) (RunsScript events read.events read.planned.plan.exchanges read.planned.plan.epoch) (open_tells held (plan_name plan) kinds read.planned)
    (run_tells held events read.events read.planned.plan.exchanges read.planned.plan.epoch))
does_tell held kinds (Serve plan budget idle) =
    then_tells held (ReadsPlanned held plan) (ServesPlanned plan kinds budget idle) (planned_tells held plan)
    (λ (p : Planned). then_tells held (Opens plan kinds p) (λ site. AndThen (Listens (place_of p.plan (idle * 1000))) (λ _. ServesBy budget p.plan.exchanges p.plan.epoch site)) (open_tells held plan kinds p)
    (λ site. then_tells held (Listens (place_of p.plan (idle * 1000))) (λ _. ServesBy budget p.plan.exchanges p.plan.epoch site) (listen_tells held (place_of p.plan (idle * 1000))) (λ _. serve_by_tells held budget p.plan.exchanges p.plan.epoch site)))
does_tell held kinds (ServeLogged plan budget idle) =
    then_tells held (ReadsPlanned held plan) (LogsPlanned plan kinds budget idle) (planned_tells held plan)
    (λ (p : Planned). then_tells held (Opens plan kinds p) (λ site. AndThen TakesLog (λ _. ListensAndLogs budget idle p.plan site)) (open_tells held plan kinds p)
    (λ site. then_tells held TakesLog (λ _. ListensAndLogs budget idle p.plan site) (taken_tells held)
    (λ _. then_tells held (Listens (place_of p.plan (idle * 1000))) (λ _. ServesWithLog (bounds_of budget site) p.plan site) (listen_tells held (place_of p.plan (idle * 1000))) (λ _. log_tells held (bounds_of budget site) p.plan site))))
does_tell held kinds (Check description) =
    then_tells held (ReadsFile held longest_json description) (Checks description) (file_tells held longest_json description)
    (λ content. then_tells held (ReadsTree description content) Judges (tree_tells held description content) (judge_tells held))
does_tell held kinds (Derive plan) =
    then_tells held (ReadsPlanned held plan) DerivesAndPrints (planned_tells held plan) (λ (p : Planned). then_tells held (Derives p) Prints (derive_tells held p) (print_tells held))
does_tell held kinds (Table plan) =
    then_tells held (ReadsPlanned held plan) (Tables plan kinds) (planned_tells held plan) (λ (p : Planned). then_tells held (Derives p) (PrintsTable plan kinds p.plan) (derive_tells held p) (table_tells held plan kinds p.plan))
does_tell held kinds (Storm seed events) =
    then_tells held TakesBuiltIn (λ (p : Planned). StormsOn kinds seed events (with_few_exchanges p)) (built_in_tells held)
    (λ (p : Planned). then_tells held (Opens (plan_name None) kinds (with_few_exchanges p)) (RunsStorm seed events STORM_EXCHANGES p.plan.epoch) (open_tells held (plan_name None) kinds (with_few_exchanges p)) (storm_tells held seed events STORM_EXCHANGES p.plan.epoch))
does_tell held kinds (Consume k) =
    then_tells held (ReadsDescription held k.description) (ConsumesBy held k)
    (then_tells held (ReadsFile held longest_json k.description) (DescriptionIn k.description) (file_tells held longest_json k.description)
    (λ content. then_tells held (ReadsTree k.description content) TakesDescription (tree_tells held k.description content) (described_tells held)))
    (λ tree. then_tells held (ReadsInput held k.input) (OperatesOn k tree) (input_tells held k.input)
    (λ input. then_tells held (Chooses tree (form_operation k.operation) k.name k.scheme) (Operates k tree input) (choose_tells held tree (form_operation k.operation) k.name k.scheme) (operate_tells held k tree input)))
does_tell held kinds (Discover host port) = asked_tells held (Discovers (links_of host port)) (failing_breaks_the_network.discovers (links_of host port))

commands_tell : (held : Option (List HeldFile)) (kinds : List Kind) (words : List (List ℕ)) → Telling held (Commands held kinds words)
commands_tell held kinds words seen status (is_no_command none e) = ended held seen status 2 e.1 (omega arith, omega arith)
commands_tell held kinds words seen status (is_command command meaning does) = does_tell held kinds command seen status does
commands_tell held kinds words seen status (words_memory e) = ended held seen status 9 e.1 (omega arith, omega arith)

-- ---- the law

rose_some : (more before now : ℕ) → 1 ≤ more → RoseBy more before now → Rose before now
rose_some more before now some rose = omega (arith, some, rose)

pub failures_are_counted : FailuresAreCounted
failures_are_counted words before now out out_now result e = ((λ three. of_file three e.reported), (λ six. of_network six e.reported))
  where
    tells : Tells before.files.held e.seen e.status
    tells = commands_tell before.files.held (kinds_of before.outside.slots) words e.seen e.status e.stage

    by_file : FileFails before.files.held e.seen → Rose before.files.faults now.files.faults ⊎ IsMissing before.files.held e.seen
    by_file (inl failed) = inl (e.shows.failed failed)
    by_file (inr missing) = inr missing

    of_file : result ≡ 3 → IsReported e.status (text_in e.seen) out out_now result → Rose before.files.faults now.files.faults ⊎ IsMissing before.files.held e.seen
    of_file three (inl same) = by_file (tells.0 (sym same.0 ∙ three))
    of_file three (inr broke_off) = absurd (omega (arith, three, broke_off.0))

    of_network : result ≡ 6 → IsReported e.status (text_in e.seen) out out_now result → Rose before.outside.net.faults now.outside.net.faults
    of_network six (inl same) = rose_some _ _ _ (tells.1 (sym same.0 ∙ six)) (shows_net before now e.seen e.shows).faults
    of_network six (inr broke_off) = absurd (omega (arith, six, broke_off.0))
