-- Before a servient listens it takes no event and calls no handler, and where nothing is called the rack is as it was.
use Rattle.std.proofs.Common.{◌≡◌, ◌*◌, ℕ, suc, true, List, [], ◌∷◌, ◌++◌, append-nil, Option, Some, None, refl, sym, ap, ap₂, subst, ◌∙◌, arith, inl, inr}
use Rattle.std.specs.Prelude.{◌⊎◌}
use Rattle.std.proofs.lemmas.List.Elements.{filter_map-append}
use Rattle.servient_base.specs.Count.{raised}
use Rattle.wot_terms.specs.declared.kind.Kind.{Kind}
use Rattle.thing_handler.specs.Handler.{Seen}
use Rattle.thing_handler.specs.declared.handler.Turn.{Turn}
use Rattle.thing_handler.specs.Turns.{GrewBy, CountMisses, RackShows}
use Rattle.thing_site.specs.Exposing.{kinds_of}
use Rattle.command_words.specs.Grammar.{meaning_of}
use Rattle.command_words.specs.declared.command.Command.{Command}
use Rattle.command_words.specs.declared.command.Command.TheVariants.{Replay, Serve, ServeLogged, Check, Derive, Table, Consume, Storm, Discover}
use Rattle.servient_outside.specs.declared.files.HeldFile.{HeldFile}
use Rattle.servient_outside.specs.declared.place.Place.{Place}
use Rattle.servient_outside.specs.Network.{event_in, events_in}
use Rattle.servient_plan.specs.Plan.{place_of}
use Rattle.servient_core.specs.declared.serving.Served.TheVariants as served
use Rattle.servient_trace.specs.Trace.{Sighting, happening_in, happened_in}
use Rattle.servient_core.specs.Machine.{Site}
use Rattle.command_stages.specs.Stages.{Deed, showings_in, sighting_in, sightings_in, text_in, Outcome, goes_on, ends, AndThen, ends_first, goes_further}
use Rattle.command_stages.specs.Reading.{ReadsFile, ReadsTree, longest_json}
use Rattle.command_stages.specs.Checking.{Judges, is_valid, is_refused as is_judged, judge_memory, Checks}
use Rattle.command_stages.specs.Deriving.{ReadsPlanned, Derives, Prints, is_printed, print_memory, DerivesAndPrints}
use Rattle.command_stages.specs.Tabling.{PrintsTable, is_tabled, is_tabled_with, table_memory, Tables}
use Rattle.servient_cli.specs.Opening.{Exposes, Opens}
use Rattle.servient_cli.specs.Listening.{Listens, ServesEvents, has_served, Endures, has_endured, ServesBy, ServesPlanned}
use Rattle.servient_core.specs.declared.sections.RunBounds.{RunBounds}
use Rattle.servient_plan.specs.declared.plan.Plan.{Plan}
use Rattle.logged_serving.specs.declared.serving.LoggedEnd.TheVariants as logged
use Rattle.servient_cli.specs.LoggedServing.{bounds_of, TakesLog, ServesWithLog, heading_unwritten, has_logged, ListensAndLogs, LogsPlanned}
use Rattle.servient_cli.specs.Command.{Does, Commands, is_no_command, is_command, words_memory, IsNoCommand, is_serving, IsReported}
use Rattle.servient_trace.specs.ShownSections.{Shown, ShowsInSections}
use Rattle.servient_core.specs.declared.sections.SectionsEnd.TheVariants as ending
use Rattle.servient_trace.proofs.ShownLaws.{nothing_shown}
use Rattle.command_words.specs.declared.command.Budget.{Budget}
use Rattle.command_words.specs.declared.command.Budget.TheVariants as budgets
use Rattle.servient_cli.specs.LoggedServing.{TookNothing}
use Rattle.servient_cli.proofs.UnseenStages.{IsUnseen, Quiet, then_unseen, file_unseen, tree_unseen, planned_unseen, derived_unseen, exposed_unseen, untaken, taken_unseen, listens_untaken}
use Rattle.servient_laws.specs.Untouched.{EndsSo, MayHaveServed, FaultsTakeNoEvent, calls_nothing, HandlersStay}

printed_unseen : (things : _) → Quiet (Prints things)
printed_unseen things seen o (is_printed end) = ap showings_in end.0
printed_unseen things seen o (print_memory end) = ap showings_in end.0

tabled_unseen : (name : List ℕ) (kinds : List Kind) (plan : _) (things : _) → Quiet (PrintsTable name kinds plan things)
tabled_unseen name kinds plan things seen o (is_tabled none end) = ap showings_in end.0
tabled_unseen name kinds plan things seen o (is_tabled_with fault isnt first end) = ap showings_in end.0
tabled_unseen name kinds plan things seen o (table_memory end) = ap showings_in end.0

judged_unseen : (tree : _) → Quiet (Judges tree)
judged_unseen tree seen o (is_valid none end) = ap showings_in end.0
judged_unseen tree seen o (is_judged number pointer first end) = ap showings_in end.0
judged_unseen tree seen o (judge_memory end) = ap showings_in end.0

-- ---- commands that call nothing

quiet_command : (held : Option (List HeldFile)) (kinds : List Kind) (command : Command) → calls_nothing (Some command) ≡ true → Quiet (Does held kinds command)
quiet_command held kinds (Check description) is =
    then_unseen (ReadsFile held longest_json description) (Checks description) (file_unseen held longest_json description)
    (λ content. then_unseen (ReadsTree description content) Judges (tree_unseen description content) judged_unseen)
quiet_command held kinds (Derive plan) is =
    then_unseen (ReadsPlanned held plan) DerivesAndPrints (planned_unseen held plan) (λ p. then_unseen (Derives p) Prints (derived_unseen p) printed_unseen)
quiet_command held kinds (Table plan) is =
    then_unseen (ReadsPlanned held plan) (Tables plan kinds) (planned_unseen held plan) (λ p. then_unseen (Derives p) (PrintsTable plan kinds p.plan) (derived_unseen p) (tabled_unseen plan kinds p.plan))
quiet_command held kinds (Replay script plan events) is = absurd cc
quiet_command held kinds (Serve plan budget idle) is = absurd cc
quiet_command held kinds (ServeLogged plan budget idle) is = absurd cc
quiet_command held kinds (Storm seed events) is = absurd cc
quiet_command held kinds (Consume consumption) is = absurd cc
quiet_command held kinds (Discover host port) is = absurd cc

quiet_words : (held : Option (List HeldFile)) (kinds : List Kind) (words : List (List ℕ)) (seen : List Deed) (o : Outcome (Unit {0})) → IsNoCommand words ⊎ (calls_nothing (meaning_of words) ≡ true)
    → Commands held kinds words seen o → IsUnseen seen
quiet_words held kinds words seen o known (is_no_command none end) = ap showings_in end.0
quiet_words held kinds words seen o known (words_memory end) = ap showings_in end.0
quiet_words held kinds words seen o (inl none) (is_command command meaning does) = absurd (let apart : None ≡ Some command = sym none ∙ meaning in cc)
quiet_words held kinds words seen o (inr quiet) (is_command command meaning does) =
    quiet_command held kinds command (sym (ap calls_nothing meaning) ∙ quiet) seen o does

-- ---- a rack that shows no call

not_raised : (n : ℕ) → raised 0 n ≡ n
not_raised n = grind arith

same_seen : (a b : Seen) → a.kind ≡ b.kind → a.turns ≡ b.turns → a.misses ≡ b.misses → a ≡ b
same_seen a b kind turns misses =
    ap (λ (k : Kind). record { kind = k; turns = a.turns; misses = a.misses }) kind ∙ ap₂ (λ (ts : List Turn) (m : ℕ). record { kind = b.kind; turns = ts; misses = m }) turns misses

same_slots : (slot : ℕ) (before now : List Seen) → GrewBy [] slot before now → CountMisses [] slot before now → now ≡ before
same_slots slot [] [] grew missed = refl
same_slots slot (old ∷ before) (new ∷ now) grew missed =
    ap₂ (λ (x : Seen) (xs : List Seen). x ∷ xs) (same_seen new old grew.0 (grew.1 ∙ append-nil old.turns) (missed.0 ∙ not_raised old.misses)) (same_slots (suc slot) before now grew.2 missed.1)
same_slots slot [] (new ∷ now) grew missed = absurd grew
same_slots slot (old ∷ before) [] grew missed = absurd grew

pub handlers_stay : HandlersStay
handlers_stay words before now out out_now result ended known =
    let unseen = quiet_words before.files.held (kinds_of before.outside.slots) words ended.seen (ends ended.status) known ended.stage in
    let shows : RackShows before.outside.slots now.outside.slots [] =
    (nothing_shown before.outside now.outside (subst (λ (x : List Shown). ShowsInSections before.outside now.outside x) unseen ended.shows.outside)).rack in
    same_slots 0 before.outside.slots now.outside.slots shows.turns shows.misses

-- ---- serving

untaken_then : (a b seen : List Deed) → seen ≡ a ++ b → TookNothing a → TookNothing b → TookNothing seen
untaken_then a b seen whole one other =
    ap (λ (ds : List Deed). events_in (happened_in (sightings_in ds))) whole
    ∙ ap (λ (x : List Sighting). events_in (happened_in x)) (filter_map-append sighting_in a b)
    ∙ ap events_in (filter_map-append happening_in (sightings_in a) (sightings_in b))
    ∙ filter_map-append event_in (happened_in (sightings_in a)) (happened_in (sightings_in b))
    ∙ ap₂ (λ x y. x ++ y) one other

-- a stage that takes no event, or ends as serving may
abbrev Settles : {A : Type 0} → (List Deed → Outcome A → Type 0) → Type 0
Settles {A} P = (seen : List Deed) (o : Outcome A) → P seen o → TookNothing seen ⊎ ((status : ℕ) × (o ≡ ends status) × MayHaveServed status)

after_unseen : {A B : Type 0} (P : List Deed → Outcome A → Type 0) (Q : A → List Deed → Outcome B → Type 0) → Quiet P → ((x : A) → Settles (Q x)) → Settles (AndThen P Q)
after_unseen P Q one other seen o (ends_first status stage is) = inl (untaken seen (one seen (ends status) stage))
after_unseen P Q one other seen o (goes_further (x, w)) = elim (other x w.second o w.other) [
  | inl none ↦ inl (untaken_then w.first w.second seen w.whole (untaken w.first (one w.first (goes_on x) w.one)) none)
  | inr served ↦ inr served
]

events_settle : (budget exchanges : ℕ) (epoch : Option ℕ) (site : Site) → Settles (ServesEvents budget exchanges epoch site)
events_settle budget exchanges epoch site seen o (has_served served.Stopped ran end serves out) = inr (0, out.1, inl refl)
events_settle budget exchanges epoch site seen o (has_served served.Failed ran end serves out) = inr (6, out.1, inr (inl refl))
events_settle budget exchanges epoch site seen o (has_served served.Spent ran end serves out) = inr (8, out.1, inr (inr (inl refl)))

endure_settles : (exchanges : ℕ) (epoch : Option ℕ) (site : Site) → Settles (Endures exchanges epoch site)
endure_settles exchanges epoch site seen o (has_endured ending.Stopped shown end serves out) = inr (0, out.1, inl refl)
endure_settles exchanges epoch site seen o (has_endured ending.Failed shown end serves out) = inr (6, out.1, inr (inl refl))
endure_settles exchanges epoch site seen o (has_endured ending.Spent shown end serves out) = inr (8, out.1, inr (inr (inl refl)))

budgets_settle : (budget : Budget) (exchanges : ℕ) (epoch : Option ℕ) (site : Site) → Settles (ServesBy budget exchanges epoch site)
budgets_settle (budgets.Events n) exchanges epoch site = events_settle n exchanges epoch site
budgets_settle budgets.Endless exchanges epoch site = endure_settles exchanges epoch site

listens_then : (place : Place) (budget : Budget) (exchanges : ℕ) (epoch : Option ℕ) (site : Site) → Settles (AndThen (Listens place) (λ _. ServesBy budget exchanges epoch site))
listens_then place budget exchanges epoch site seen o (ends_first status stage is) = inl (listens_untaken place seen (ends status) stage)
listens_then place budget exchanges epoch site seen o (goes_further (x, w)) = elim (budgets_settle budget exchanges epoch site w.second o w.other) [
  | inl none ↦ inl (untaken_then w.first w.second seen w.whole (listens_untaken place w.first (goes_on x) w.one) none)
  | inr served ↦ inr served
]

serve_settles : (held : Option (List HeldFile)) (kinds : List Kind) (plan : List ℕ) (budget : Budget) (idle : ℕ) → Settles (Does held kinds (Serve plan budget idle))
serve_settles held kinds plan budget idle =
    after_unseen (ReadsPlanned held plan) (ServesPlanned plan kinds budget idle) (planned_unseen held plan)
    (λ p. after_unseen (Opens plan kinds p) (λ site. AndThen (Listens (place_of p.plan (idle * 1000))) (λ _. ServesBy budget p.plan.exchanges p.plan.epoch site))
    (then_unseen (Derives p) (Exposes plan kinds p.plan) (derived_unseen p) (exposed_unseen plan kinds p.plan))
    (λ site. listens_then (place_of p.plan (idle * 1000)) budget p.plan.exchanges p.plan.epoch site))

-- the same with a log
log_settles : (bounds : RunBounds) (plan : Plan) (site : Site) → Settles (ServesWithLog bounds plan site)
log_settles bounds plan site seen o (heading_unwritten out) = inr (7, out.1, inr (inr (inr refl)))
log_settles bounds plan site seen o (has_logged logged.Stopped shown end ran out) = inr (0, out.1, inl refl)
log_settles bounds plan site seen o (has_logged logged.Failed shown end ran out) = inr (6, out.1, inr (inl refl))
log_settles bounds plan site seen o (has_logged logged.Spent shown end ran out) = inr (8, out.1, inr (inr (inl refl)))
log_settles bounds plan site seen o (has_logged logged.Unwritten shown end ran out) = inr (7, out.1, inr (inr (inr refl)))

logs_then : (budget : Budget) (idle : ℕ) (plan : Plan) (site : Site) → Settles (ListensAndLogs budget idle plan site)
logs_then budget idle plan site seen o (ends_first status stage is) = inl (listens_untaken (place_of plan (idle * 1000)) seen (ends status) stage)
logs_then budget idle plan site seen o (goes_further (x, w)) = elim (log_settles (bounds_of budget site) plan site w.second o w.other) [
  | inl none ↦ inl (untaken_then w.first w.second seen w.whole (listens_untaken (place_of plan (idle * 1000)) w.first (goes_on x) w.one) none)
  | inr served ↦ inr served
]

logging_settles : (held : Option (List HeldFile)) (kinds : List Kind) (plan : List ℕ) (budget : Budget) (idle : ℕ) → Settles (Does held kinds (ServeLogged plan budget idle))
logging_settles held kinds plan budget idle =
    after_unseen (ReadsPlanned held plan) (LogsPlanned plan kinds budget idle) (planned_unseen held plan)
    (λ p. after_unseen (Opens plan kinds p) (λ site. AndThen TakesLog (λ _. ListensAndLogs budget idle p.plan site))
    (then_unseen (Derives p) (Exposes plan kinds p.plan) (derived_unseen p) (exposed_unseen plan kinds p.plan))
    (λ site. after_unseen TakesLog (λ _. ListensAndLogs budget idle p.plan site) taken_unseen (λ _. logs_then budget idle p.plan site)))

abbrev ends_as : ℕ → Outcome (Unit {0})
ends_as status = ends status

same_end : (m n : ℕ) → ends_as m ≡ ends_as n → m ≡ n
same_end m n e = cc

serving_settles : (held : Option (List HeldFile)) (kinds : List Kind) (command : Command) (seen : List Deed) (status : ℕ) → is_serving (Some command) ≡ true → Does held kinds command seen (ends status)
    → TookNothing seen ⊎ MayHaveServed status
serving_settles held kinds (Serve plan budget idle) seen status is does = elim (serve_settles held kinds plan budget idle seen (ends status) does) [
  | inl none ↦ inl none
  | inr (other, same, served) ↦ inr (subst MayHaveServed (same_end other status (sym same)) served)
]
serving_settles held kinds (ServeLogged plan budget idle) seen status is does = elim (logging_settles held kinds plan budget idle seen (ends status) does) [
  | inl none ↦ inl none
  | inr (other, same, served) ↦ inr (subst MayHaveServed (same_end other status (sym same)) served)
]
serving_settles held kinds (Check description) seen status is does = absurd cc
serving_settles held kinds (Derive plan) seen status is does = absurd cc
serving_settles held kinds (Table plan) seen status is does = absurd cc
serving_settles held kinds (Replay script plan events) seen status is does = absurd cc
serving_settles held kinds (Storm seed events) seen status is does = absurd cc
serving_settles held kinds (Consume consumption) seen status is does = absurd cc
serving_settles held kinds (Discover host port) seen status is does = absurd cc

words_settle : (held : Option (List HeldFile)) (kinds : List Kind) (words : List (List ℕ)) (seen : List Deed) (status : ℕ) → is_serving (meaning_of words) ≡ true → Commands held kinds words seen (ends status)
    → TookNothing seen ⊎ MayHaveServed status
words_settle held kinds words seen status is (is_no_command none end) = inl (untaken seen (ap showings_in end.0))
words_settle held kinds words seen status is (words_memory end) = inl (untaken seen (ap showings_in end.0))
words_settle held kinds words seen status is (is_command command meaning does) = serving_settles held kinds command seen status (sym (ap is_serving meaning) ∙ is) does

pub faults_take_no_event : FaultsTakeNoEvent
faults_take_no_event words before now out out_now result ended serving none = by (words_settle before.files.held (kinds_of before.outside.slots) words ended.seen ended.status serving ended.stage) ended.reported
  where
    by : TookNothing ended.seen ⊎ MayHaveServed ended.status → IsReported ended.status (text_in ended.seen) out out_now result → EndsSo TookNothing words before now out out_now result
    by (inl untook) reported = record { seen = ended.seen; status = ended.status; stage = (ended.stage, untook); shows = ended.shows; reported = ended.reported; no_failure = ended.no_failure; in_turn = ended.in_turn }
    by (inr may) (inl same) = absurd (none (subst MayHaveServed (sym same.0) may))
    by (inr may) (inr seven) = absurd (none (inr (inr (inr seven.0))))
