-- A storm: its events end with the one Stop, the counts are those of the run, and how it may end.
use Rattle.std.proofs.Common.{◌≡◌, ◌≢◌, ◌∙◌, ℕ, true, false, ◌+◌, List, [], ◌∷◌, Option, Some, None, length, refl, sym, ap, arith, inl, inr, length-append}
use Rattle.std.specs.List.{AllByRecursion}
use Rattle.std.proofs.lemmas.List.{append-nil}
use Rattle.std.proofs.lemmas.List.Elements.{filter-append}
use Rattle.wot_json.specs.Tree.{Json}
use Rattle.wot_terms.specs.declared.kind.Kind.{Kind}
use Rattle.thing_site.specs.Site.{expose_faults}
use Rattle.servient_plan.specs.declared.plan.Plan.{Plan}
use Rattle.thing_site.specs.Exposing.{kinds_of}
use Rattle.command_words.specs.Grammar.{meaning_of}
use Rattle.command_words.specs.declared.command.Command.{Command}
use Rattle.command_words.specs.declared.command.Command.TheVariants.{Replay, Serve, ServeLogged, Derive, Table, Check, Consume, Storm, Discover}
use Rattle.thing_handler.specs.Turns.{turns_in}
use Rattle.servient_outside.specs.declared.files.HeldFile.{HeldFile}
use Rattle.servient_outside.specs.declared.net.What.{What}
use Rattle.servient_outside.specs.declared.net.What.TheVariants as what
use Rattle.servient_outside.specs.declared.net.EventWithBytes.{EventWithBytes}
use Rattle.servient_outside.specs.Network.{Leaves, acts_in, events_in}
use Rattle.servient_outside.specs.declared.net_memory.NetMemory.{NetMemory}
use Rattle.servient_outside.specs.NetMemory.{left_events, told_history}
use Rattle.servient_outside.specs.Ending.{last_moment, stop_event, with_stop}
use Rattle.servient_outside.specs.Out.{OutSeen}
use Rattle.servient_trace.specs.Trace.{Sighting, happened_in, calls_in}
use Rattle.servient_core.specs.Machine.{Site, State}
use Rattle.servient_core.specs.Serving.{Serves}
use Rattle.servient_core.specs.declared.serving.Served.TheVariants as served
use Rattle.storm_events.specs.Storm.{events_of}
use Rattle.storm_events.proofs.StormLaws.{count_is, never_stops}
use Rattle.command_stages.specs.declared.derivation.Planned.{Planned}
use Rattle.servient_cli.specs.declared.storming.TheConstants.{STORM_EXCHANGES}
use Rattle.servient_cli.specs.declared.storming.Load.{Load}
use Rattle.servient_cli.specs.Counting.{is_datagram, came, counts_by, counts_in}
use Rattle.servient_script.specs.Script.{has_stop, is_stop, StopsAtEnd}
use Rattle.command_stages.specs.Stages.{Around, Deed, Outcome, goes_on, ends, AndThen, ends_first, goes_further}
use Rattle.command_stages.specs.Inputs.{TakesBuiltIn, is_built_in, built_in_memory, built_in, plan_name}
use Rattle.servient_cli.specs.Replaying.{run_events}
use Rattle.servient_cli.specs.Opening.{Exposes, is_exposed, is_misfit, expose_memory, Opens}
use Rattle.command_stages.specs.Deriving.{Derives, is_derived, derive_memory, derived_of}
use Rattle.command_stages.specs.Deriving as plans
use Rattle.servient_cli.specs.Storming.{HasStorm, RunsStorm, is_counted, storm_memory, storm_run, Storms, StormsOn, with_few_exchanges}
use Rattle.servient_cli.specs.Command.{Commands, Does, Ends, IsFaultlessStorm, is_storm, is_command, is_no_command, words_memory}
use Rattle.servient_cli.proofs.RunLaws.{is_the_stop, serving_is_served, spent_took}
use Rattle.command_stages.proofs.FaultlessReading.{GoesOn, EndsWell, same_status, on_no_end, HasTrouble, by_memory, then_well}
use Rattle.servient_cli.proofs.FaultlessStages.{open_well}

-- ---- the events

abbrev stop_of : List EventWithBytes → EventWithBytes
stop_of events = record { event = stop_event (last_moment events); bytes = [] }

is_going : (w : What) → w ≢ what.Stop → is_stop w ≡ false
is_going (what.Opened c) no_stop = refl
is_going (what.Bytes c count) no_stop = refl
is_going (what.Ended c) no_stop = refl
is_going (what.Datagram from count) no_stop = refl
is_going what.Tick no_stop = refl
is_going what.Stop no_stop = absurd (no_stop refl)

none_stop : (events : List EventWithBytes) → AllByRecursion (λ (e : EventWithBytes). e.event.what ≢ what.Stop) events → has_stop events ≡ false
none_stop [] all = refl
none_stop (e ∷ events) all = rw (is_going e.event.what all.0) (none_stop events all.1)

stop_last : (events : List EventWithBytes) → AllByRecursion (λ (e : EventWithBytes). e.event.what ≢ what.Stop) events → StopsAtEnd events
stop_last [] all = tt
stop_last (e ∷ events) all = ((λ is. absurd (all.0 (is_the_stop e.event.what is))), stop_last events all.1)

pub storm_ends : (seed n : ℕ) → StopsAtEnd (events_of seed n)
storm_ends seed n = stop_last (events_of seed n) (never_stops seed n)

pub run_is : (seed n : ℕ) → run_events (events_of seed n) ≡ storm_run seed n
run_is seed n = rw (none_stop (events_of seed n) (never_stops seed n)) refl

storm_long : (seed n : ℕ) → length (storm_run seed n) ≡ n + 1
storm_long seed n = omega (arith, length-append (events_of seed n) (stop_of (events_of seed n) ∷ []), count_is seed n)

-- a network in memory that was made of the events has them to give
pub has_storm : (seed n : ℕ) (load : Load) (net : NetMemory) (events : List EventWithBytes) → events ≡ events_of seed n → left_events net ≡ Some (with_stop events) → told_history net ≡ Some [] → load.events ≡ n + 1 → load.datagrams ≡ length (came events) → HasStorm seed n load net
has_storm seed n load net events same left history all counted = record {
  script = record { ends = storm_ends seed n; left = left ∙ ap (λ (es : List EventWithBytes). Some (with_stop es)) same; history = history };
  events = all ∙ sym (storm_long seed n);
  datagrams = counted ∙ ap (λ (es : List EventWithBytes). length (came es)) same;
}

-- serving them doesn't spend the budget
pub never_over : (seed n budget : ℕ) (site : Site) (s t : State) (seen : List Sighting) (left now : Option (List EventWithBytes)) → left ≡ Some (with_stop (events_of seed n)) → Leaves (happened_in seen) left now → budget ≡ length (storm_run seed n) → Serves site budget served.Spent s seen t → ⊥
never_over seed n budget site s t seen left now known leaves all serves =
    let events = events_of seed n in
    let over = spent_took events budget site s t seen (storm_ends seed n) (serving_is_served events budget served.Spent site s t seen left now (storm_ends seed n) known leaves serves) in
    omega (arith, over.1, all, ap (λ (es : List EventWithBytes). length es) (run_is seed n))

-- ---- the counts

came_stop : (seed n : ℕ) → came (storm_run seed n) ≡ came (events_of seed n)
came_stop seed n = filter-append (λ (e : EventWithBytes). is_datagram e.event.what) (events_of seed n) _ ∙ append-nil (came (events_of seed n))

pub counts_are : (seed n datagrams turns : ℕ) (ran : List Sighting) → events_in (happened_in ran) ≡ storm_run seed n → datagrams ≡ length (came (events_of seed n)) → turns ≡ length (turns_in (calls_in ran))
    → counts_by datagrams (acts_in (happened_in ran)) turns ≡ counts_in ran
counts_are seed n datagrams turns ran heard all made =
    let same : datagrams ≡ length (came (events_in (happened_in ran))) =
    all ∙ ap (λ (es : List EventWithBytes). length es) (sym (ap came heard ∙ came_stop seed n)) in
    ap (λ (d : ℕ). counts_by d (acts_in (happened_in ran)) turns) same
    ∙ ap (λ (t : ℕ). counts_by (length (came (events_in (happened_in ran)))) (acts_in (happened_in ran)) t) made

-- ---- how it ends

run_well : (seed n exchanges : ℕ) (epoch : Option ℕ) (site : Site) (seen : List Deed) (o : Outcome (Unit {0})) → RunsStorm seed n exchanges epoch site seen o → EndsWell o
run_well seed n exchanges epoch site seen o (is_counted ran end run end_is) = inl end_is.1
run_well seed n exchanges epoch site seen o (storm_memory ran end count run end_is) = inr end_is.1

thing_well : (seen : List Deed) (o : Outcome Planned) → TakesBuiltIn seen o → GoesOn (λ p. p ≡ built_in) o
thing_well seen o (is_built_in saw goes) = inl (built_in, refl, goes)
thing_well seen o (built_in_memory end) = inr end.1

-- a storm with which nothing is wrong
pub storm_well : (kinds : List Kind) (seed n : ℕ) (fine : IsFaultlessStorm kinds) (seen : List Deed) (o : Outcome (Unit {0})) → ¬ (HasTrouble seen) → Storms kinds seed n seen o → EndsWell o
storm_well kinds seed n fine seen o quiet stage =
    then_well EndsWell by_memory TakesBuiltIn (λ p. StormsOn kinds seed n (with_few_exchanges p)) (λ p. p ≡ built_in) seen o quiet
    (λ s r q st. thing_well s r st)
    (λ p same s q st. then_well EndsWell by_memory (Opens (plan_name None) kinds (with_few_exchanges p)) (RunsStorm seed n STORM_EXCHANGES p.plan.epoch) (λ site. Unit {0}) s o q
    (λ s2 r q2 st2. open_well (plan_name None) kinds (with_few_exchanges p) fine.things s2 r
    (ap (λ (x : Planned). derived_of (with_few_exchanges x)) same ∙ fine.derived_is)
    (ap (λ (x : Planned). expose_faults kinds (with_few_exchanges x).plan.slots fine.things) same ∙ fine.fits) q2 st2)
    (λ site any s2 q2 st2. run_well seed n STORM_EXCHANGES p.plan.epoch site s2 o st2) st) stage

-- ---- it never spends its budget

-- the stage doesn't end so
abbrev NotSpent : {A : Type 0} → Outcome A → Type 0
NotSpent o = ¬ (o ≡ ends 8)

ends_other : {A : Type 0} (o : Outcome A) (status : ℕ) → o ≡ ends status → status ≢ 8 → NotSpent o
ends_other {A} o status is other = λ eight. other (same_status {A = A} status 8 (sym is ∙ eight))

goes_further_on : {A : Type 0} (o : Outcome A) (value : A) → o ≡ goes_on value → NotSpent o
goes_further_on o value is = λ eight. on_no_end value 8 (sym eight ∙ is)

then_not : {A B : Type 0} (P : List Deed → Outcome A → Type 0) (Q : A → List Deed → Outcome B → Type 0) (seen : List Deed) (o : Outcome B)
    → ((s : List Deed) (r : Outcome A) → P s r → NotSpent r) → ((value : A) (s : List Deed) (r : Outcome B) → Q value s r → NotSpent r)
    → AndThen P Q seen o → NotSpent o
then_not {A} {B} P Q seen o first next (ends_first status p is) = λ eight.
    first seen (ends status) p (ap (λ (n : ℕ). ends n) (same_status {A = B} status 8 (sym is ∙ eight)))
then_not P Q seen o first next (goes_further (value, both)) = next value both.second o both.other

thing_not : (seen : List Deed) (o : Outcome Planned) → TakesBuiltIn seen o → NotSpent o
thing_not seen o (is_built_in saw goes) = goes_further_on o built_in goes
thing_not seen o (built_in_memory end) = ends_other o 9 end.1 (omega arith)

derive_not : (p : Planned) (seen : List Deed) (o : Outcome (List (List ℕ × Json))) → Derives p seen o → NotSpent o
derive_not p seen o (is_derived things a b is) = goes_further_on o things is
derive_not p seen o (plans.is_refused fault a end) = ends_other o 5 end.1 (omega arith)
derive_not p seen o (derive_memory end) = ends_other o 9 end.1 (omega arith)

expose_not : (name : List ℕ) (kinds : List Kind) (plan : Plan) (things : List (List ℕ × Json)) (seen : List Deed) (o : Outcome Site) → Exposes name kinds plan things seen o → NotSpent o
expose_not name kinds plan things seen o (is_exposed a b is) = goes_further_on o _ is
expose_not name kinds plan things seen o (is_misfit fault a b end) = ends_other o 4 end.1 (omega arith)
expose_not name kinds plan things seen o (expose_memory end) = ends_other o 9 end.1 (omega arith)

run_not : (seed n exchanges : ℕ) (epoch : Option ℕ) (site : Site) (seen : List Deed) (o : Outcome (Unit {0})) → RunsStorm seed n exchanges epoch site seen o → NotSpent o
run_not seed n exchanges epoch site seen o (is_counted ran end run end_is) = ends_other o 0 end_is.1 (omega arith)
run_not seed n exchanges epoch site seen o (storm_memory ran end count run end_is) = ends_other o 9 end_is.1 (omega arith)

storm_not : (kinds : List Kind) (seed n : ℕ) (seen : List Deed) (o : Outcome (Unit {0})) → Storms kinds seed n seen o → NotSpent o
storm_not kinds seed n seen o stage =
    then_not TakesBuiltIn (λ p. StormsOn kinds seed n (with_few_exchanges p)) seen o thing_not
    (λ p s r st. then_not (Opens (plan_name None) kinds (with_few_exchanges p)) (RunsStorm seed n STORM_EXCHANGES p.plan.epoch) s r
    (λ s2 r2 st2. then_not (Derives (with_few_exchanges p)) (Exposes (plan_name None) kinds (with_few_exchanges p).plan) s2 r2 (derive_not (with_few_exchanges p)) (expose_not (plan_name None) kinds (with_few_exchanges p).plan) st2)
    (run_not seed n STORM_EXCHANGES p.plan.epoch) st) stage

command_not : (held : Option (List HeldFile)) (kinds : List Kind) (command : Command) (seen : List Deed) (o : Outcome (Unit {0})) → is_storm (Some command) ≡ true → Does held kinds command seen o → NotSpent o
command_not held kinds (Replay script plan events) seen o is stage = absurd cc
command_not held kinds (Serve plan budget idle) seen o is stage = absurd cc
command_not held kinds (ServeLogged plan budget idle) seen o is stage = absurd cc
command_not held kinds (Check description) seen o is stage = absurd cc
command_not held kinds (Derive plan) seen o is stage = absurd cc
command_not held kinds (Table plan) seen o is stage = absurd cc
command_not held kinds (Consume consumption) seen o is stage = absurd cc
command_not held kinds (Discover host port) seen o is stage = absurd cc
command_not held kinds (Storm seed n) seen o is stage = storm_not kinds seed n seen o stage

words_not : (held : Option (List HeldFile)) (kinds : List Kind) (words : List (List ℕ)) (seen : List Deed) (o : Outcome (Unit {0})) → is_storm (meaning_of words) ≡ true → Commands held kinds words seen o → NotSpent o
words_not held kinds words seen o storm (is_no_command none end) = ends_other o 2 end.1 (omega arith)
words_not held kinds words seen o storm (is_command command meaning stage) = command_not held kinds command seen o (ap is_storm (sym meaning) ∙ storm) stage
words_not held kinds words seen o storm (words_memory end) = ends_other o 9 end.1 (omega arith)

-- the whole call doesn't
pub never_spent : (words : List (List ℕ)) (before now : Around) (out out_now : OutSeen) (result : ℕ) → Ends words before now out out_now result → is_storm (meaning_of words) ≡ true → result ≢ 8
never_spent words before now out out_now result e storm = λ eight. elim e.reported [
  | inl done ↦ words_not before.files.held (kinds_of before.outside.slots) words e.seen (ends e.status) storm e.stage (ap (λ (n : ℕ). ends n) (sym done.0 ∙ eight))
  | inr failed ↦ absurd (omega (arith, failed.0, eight))
]
