-- The whole call: what its words lead to, and how it ends where nothing is wrong.
use Rattle.std.proofs.Common.{Bool, true, false, ◌≡◌, ◌≤◌, ◌⊎◌, ℕ, List, [], ◌∷◌, length, Result, Err, Option, Some, None, refl, sym, ap, ◌∙◌, subst, arith, inl, inr}
use Rattle.std.proofs.lemmas.Option.{same_Some}
use Rattle.wot_json.specs.Tree.{Json}
use Rattle.wot_json.specs.Meaning.{json_of}
use Rattle.wot_terms.specs.Faults.{faults_of}
use Rattle.servient_outside.specs.declared.files.HeldFile.{HeldFile}
use Rattle.servient_outside.specs.Network.{break_count}
use Rattle.wot_terms.specs.declared.kind.Kind.{Kind}
use Rattle.thing_site.specs.Site.{expose_faults}
use Rattle.thing_site.specs.Exposing.{kinds_of}
use Rattle.servient_trace.specs.Trace.{happened_in}
use Rattle.command_stages.specs.declared.inputs.Inputs.{Inputs}
use Rattle.command_words.specs.Grammar.{meaning_of}
use Rattle.command_words.specs.declared.command.Command.{Command}
use Rattle.command_words.specs.declared.command.Command.TheVariants.{Replay, Serve, ServeLogged, Derive, Table, Check, Consume, Storm, Discover}
use Rattle.command_stages.specs.Stages.{Deed, did_write, sightings_in, HasFailed, Outcome, ends, Around}
use Rattle.command_stages.specs.declared.ending.Ending.{Ending}
use Rattle.command_stages.specs.declared.ending.Ended.{Ended}
use Rattle.command_words.specs.declared.command.Budget.{Budget}
use Rattle.command_words.specs.declared.fault.WordsFault.{WordsFault}
use Rattle.command_words.specs.declared.fault.WordsFault.TheVariants.{Usage, NoMemory}
use Rattle.command_words.specs.Parts.{Reads}
use Rattle.command_stages.specs.Words.{EndsAs}
use Rattle.command_stages.specs.Lines.{memory_line, usage_line}
use Rattle.command_stages.specs.Ending.{EndsBy, final_status, final_text, status_of, text_of}
use Rattle.command_stages.proofs.StageLaws.{ends_so, line_alone, shows_wrote, shows_net}
use Rattle.command_stages.specs.Reading.{ReadsFile, ReadsTree, longest_json}
use Rattle.command_stages.specs.Inputs.{plan_name, ReadsInputs}
use Rattle.servient_cli.specs.Replaying.{run_events, RunsOn}
use Rattle.command_stages.specs.Checking.{Checks, IsFaultlessDescription, Judges}
use Rattle.command_stages.specs.Deriving.{ReadsPlanned, Derives, derived_of, Prints, DerivesAndPrints}
use Rattle.command_stages.specs.Tabling.{PrintsTable, Tables}
use Rattle.servient_outside.specs.declared.out.Put.TheVariants as put
use Rattle.servient_outside.specs.Out.{OutSeen, NoWriteFailed}
use Rattle.servient_cli.specs.Command.{reads_files, IsFaultless, HasFaultlessFiles, IsReported, Ends, NothingFailed, IsAnswered, IsWell, Does, Commands, EndsAndReports, is_asking, is_discovering, is_logging, is_networked, is_serving, is_writing, is_no_command, is_command, words_memory}
use Rattle.command_stages.proofs.FaultlessReading.{GoesOn, EndsWell, by_memory, same_status, HasTrouble, what_trouble, rose_some, then_well, read_well, tree_well, judge_well, derive_well, print_well}
use Rattle.command_stages.specs.declared.derivation.Planned.{Planned}
use Rattle.servient_cli.proofs.FaultlessStages.{planned_well, with_events, inputs_well, run_on_well, table_well}
use Rattle.servient_base.specs.Count.{Rose}
use Rattle.servient_cli.proofs.FaultlessConsuming.{IsConsumed, MayEnd, consume_well, discover_well}
use Rattle.servient_cli.proofs.ServedStages.{IsServed, serving_well}
use Rattle.servient_cli.proofs.LoggedStages.{IsLogged, logging_well}
use Rattle.servient_cli.proofs.ConsumingStages.{line_in_turn, turn_reported}
use Rattle.servient_cli.proofs.StormStages.{storm_well}

-- the command did what it is for, was out of memory, served and has spent its budget, asked others, or couldn't write its log
abbrev IsDoneBy : Option Command → Outcome (Unit {0}) → Type 0
IsDoneBy command o = EndsWell o ⊎ ((is_serving command ≡ true) × (o ≡ ends 8)) ⊎ ((is_asking command ≡ true) × IsConsumed o) ⊎ ((is_logging command ≡ true) × (o ≡ ends 7))

abbrev IsDone : Command → Outcome (Unit {0}) → Type 0
IsDone command o = IsDoneBy (Some command) o

served_done : (plan : List ℕ) (budget : Budget) (idle : ℕ) (o : Outcome (Unit {0})) → IsServed o → IsDone (Serve plan budget idle) o
served_done plan budget idle o (inl zero_is) = inl (inl zero_is)
served_done plan budget idle o (inr (inl nine)) = inl (inr nine)
served_done plan budget idle o (inr (inr eight)) = inr (inl (refl, eight))

logged_done : (plan : List ℕ) (budget : Budget) (idle : ℕ) (o : Outcome (Unit {0})) → IsLogged o → IsDone (ServeLogged plan budget idle) o
logged_done plan budget idle o (inl (inl zero_is)) = inl (inl zero_is)
logged_done plan budget idle o (inl (inr (inl nine))) = inl (inr nine)
logged_done plan budget idle o (inl (inr (inr eight))) = inr (inl (refl, eight))
logged_done plan budget idle o (inr seven) = inr (inr (inr (refl, seven)))

-- a command with whose files nothing is wrong
does_well : (held : Option (List HeldFile)) (files : List HeldFile) (kinds : List Kind) (command : Command) (seen : List Deed) (o : Outcome (Unit {0})) → (reads_files command ≡ true → held ≡ Some files) → HasFaultlessFiles files kinds command → ¬ (HasTrouble seen) → Does held kinds command seen o → IsDone command o
does_well held files kinds (Replay script plan events) seen o is_held fine quiet stage = inl (
    then_well EndsWell by_memory (ReadsInputs held plan script) (RunsOn (plan_name plan) kinds events) (λ read. read ≡ with_events fine.planned fine.script_is.good.0) seen o quiet
    (λ s r q st. inputs_well held files kinds script plan events fine s r (is_held refl) q st)
    (λ read same s q st. run_on_well (plan_name plan) kinds events read fine.things s o
    (ap (λ (x : Inputs). derived_of x.planned) same ∙ fine.derived_is)
    (ap (λ (x : Inputs). expose_faults kinds x.planned.plan.slots fine.things) same ∙ fine.fits)
    (subst (λ (x : Inputs). length (run_events x.events) ≤ events) (sym same) fine.script_is.good.2) q st) stage)
does_well held files kinds (Check description) seen o is_held fine quiet stage = inl (
    then_well EndsWell by_memory (ReadsFile held longest_json description) (Checks description) (λ c. c ≡ fine.content) seen o quiet
    (λ s r q p. read_well held longest_json description fine.content files s r (is_held refl) fine.holds fine.short q p)
    (λ content same s q p. let good = subst IsFaultlessDescription (sym same) fine.good in
    then_well EndsWell by_memory (ReadsTree description content) Judges (λ tree. json_of tree ≡ good.0) s o q (λ s2 r q2 p2. tree_well description content good.0 s2 r good.1 p2)
    (λ tree is s2 q2 p2. judge_well tree s2 o (ap faults_of is ∙ good.2) p2) p) stage)
does_well held files kinds (Derive plan) seen o is_held fine quiet stage = inl (
    then_well EndsWell by_memory (ReadsPlanned held plan) DerivesAndPrints (λ p. p ≡ fine.planned) seen o quiet
    (λ s r q st. planned_well held files plan fine.planned s r (is_held refl) fine.by_plan q st)
    (λ p same s q st. then_well EndsWell by_memory (Derives p) Prints (λ ts. Unit {0}) s o q
    (λ s2 r q2 st2. any_things r (derive_well p fine.things s2 r (ap derived_of same ∙ fine.derived_is) st2))
    (λ ts any s2 q2 st2. print_well ts s2 o st2) st) stage)
  where
    any_things : (r : Outcome (List (List ℕ × Json))) → GoesOn (λ ts. ts ≡ fine.things) r → GoesOn (λ ts. Unit {0}) r
    any_things r (inl goes) = inl (goes.0, tt, goes.2)
    any_things r (inr nine) = inr nine
does_well held files kinds (Table plan) seen o is_held fine quiet stage = inl (
    then_well EndsWell by_memory (ReadsPlanned held plan) (Tables plan kinds) (λ p. p ≡ fine.planned) seen o quiet
    (λ s r q st. planned_well held files plan fine.planned s r (is_held refl) fine.by_plan q st)
    (λ p same s q st. then_well EndsWell by_memory (Derives p) (PrintsTable plan kinds p.plan) (λ ts. ts ≡ fine.things) s o q
    (λ s2 r q2 st2. derive_well p fine.things s2 r (ap derived_of same ∙ fine.derived_is) st2)
    (λ ts are s2 q2 st2. table_well plan kinds p.plan ts s2 o
    (ap (expose_faults kinds p.plan.slots) are ∙ ap (λ (x : Planned). expose_faults kinds x.plan.slots fine.things) same ∙ fine.fits) st2) st) stage)
does_well held files kinds (Serve plan budget idle) seen o is_held fine quiet stage = served_done plan budget idle o (serving_well held files kinds plan budget idle fine seen o (is_held refl) quiet stage)
does_well held files kinds (ServeLogged plan budget idle) seen o is_held fine quiet stage = logged_done plan budget idle o (logging_well held files kinds plan budget idle fine seen o (is_held refl) quiet stage)
does_well held files kinds (Consume consumption) seen o is_held fine quiet stage = inr (inr (inl (refl, consume_well held files consumption fine seen o (is_held refl) quiet stage)))
does_well held files kinds (Discover host port) seen o is_held fine quiet stage = inr (inr (inl (refl, discover_well host port seen o quiet stage)))
does_well held files kinds (Storm seed events) seen o is_held fine quiet stage = inl (storm_well kinds seed events fine seen o quiet stage)

command_well : (held : Option (List HeldFile)) (kinds : List Kind) (words : List (List ℕ)) (seen : List Deed) (o : Outcome (Unit {0})) → IsFaultless words held kinds → ¬ (HasTrouble seen) → Commands held kinds words seen o
    → IsDoneBy (meaning_of words) o
command_well held kinds words seen o fine quiet (is_no_command none end) =
    let no : None ≡ Some fine.command = sym none ∙ fine.meaning in absurd cc
command_well held kinds words seen o fine quiet (is_command command meaning does) =
    let same : command ≡ fine.command = same_Some command fine.command (sym meaning ∙ fine.meaning) in
    subst (λ (x : Option Command). IsDoneBy x o) (sym fine.meaning)
    (does_well held fine.files kinds fine.command seen o fine.told fine.faultless quiet (subst (λ (x : Command). Does held kinds x seen o) same does))
command_well held kinds words seen o fine quiet (words_memory out) = inl (inr out.1)

-- the end of stages, and the report of it
pub stages_reported : (logs : Bool) (P : List Deed → Outcome (Unit {0}) → Type 0) (before now : Around) (out out_now : OutSeen) (r : Result Ending Ended) (result : ℕ) → logs ≡ false → EndsBy P before now r → IsReported (final_status r) (final_text r) out out_now result → NoWriteFailed out out_now (final_text r) → EndsAndReports logs P before now out out_now result
stages_reported logs P before now out out_now r result none ended reported fits =
    let comes = ends_so P before now r ended in
    record {
      seen = comes.seen;
      status = final_status r;
      stage = comes.stage;
      shows = comes.shows;
      reported = subst (λ (t : List ℕ). IsReported (final_status r) t out out_now result) (sym comes.text_is) reported;
      no_failure = subst (λ (t : List ℕ). NoWriteFailed out out_now t) (sym comes.text_is) fits;
      in_turn = λ is. absurd (not_both logs none is);
    }
  where
    not_both : (b : Bool) → b ≡ false → b ≡ true → ⊥
    not_both false is isnt = cc
    not_both true is isnt = cc

-- the whole call, from what was done with its command
pub command_ends : (words : List (List ℕ)) (before now : Around) (out out_now : OutSeen) (command : Command) (result : ℕ) → meaning_of words ≡ Some command → EndsAndReports (is_logging (Some command)) (Does before.files.held (kinds_of before.outside.slots) command) before now out out_now result → Ends words before now out out_now result
command_ends words before now out out_now command result meaning e = record { seen = e.seen; status = e.status; stage = is_command command meaning e.stage; shows = e.shows; reported = e.reported; no_failure = e.no_failure; in_turn = λ is. e.in_turn (ap is_logging (sym meaning) ∙ is) }

logs_not : (command : Command) → is_writing (Some command) ≡ false → is_logging (Some command) ≡ false
logs_not (Replay script plan events) is = refl
logs_not (Serve plan budget idle) is = refl
logs_not (ServeLogged plan budget idle) is = absurd cc
logs_not (Check description) is = refl
logs_not (Derive plan) is = refl
logs_not (Table plan) is = refl
logs_not (Storm seed events) is = refl
logs_not (Consume consumption) is = refl
logs_not (Discover host port) is = refl

-- of a command that writes at its end alone
pub built_ends : (words : List (List ℕ)) (before now : Around) (out out_now : OutSeen) (command : Command) (r : Result Ending Ended) (result : ℕ) → meaning_of words ≡ Some command → is_writing (Some command) ≡ false → EndsBy (Does before.files.held (kinds_of before.outside.slots) command) before now r → IsReported (final_status r) (final_text r) out out_now result
    → NoWriteFailed out out_now (final_text r) → Ends words before now out out_now result
built_ends words before now out out_now command r result meaning other ended reported fits =
    command_ends words before now out out_now command result meaning (stages_reported (is_logging (Some command)) (Does before.files.held (kinds_of before.outside.slots) command) before now out out_now r result (logs_not command other) ended reported fits)

writing_networked : (command : Command) → is_writing (Some command) ≡ true → is_networked (Some command) ≡ true
writing_networked (Replay script plan events) is = absurd cc
writing_networked (Serve plan budget idle) is = absurd cc
writing_networked (ServeLogged plan budget idle) is = refl
writing_networked (Check description) is = absurd cc
writing_networked (Derive plan) is = absurd cc
writing_networked (Table plan) is = absurd cc
writing_networked (Storm seed events) is = absurd cc
writing_networked (Consume consumption) is = refl
writing_networked (Discover host port) is = refl

pub writing_uses_network : (words : List (List ℕ)) (command : Command) → meaning_of words ≡ Some command → is_writing (Some command) ≡ true → is_networked (meaning_of words) ≡ false → ⊥
writing_uses_network words command meaning is none = let bad : true ≡ false = sym (writing_networked command is) ∙ ap is_networked (sym meaning) ∙ none in cc

discovering_writes : (command : Command) → is_discovering (Some command) ≡ true → is_writing (Some command) ≡ true
discovering_writes (Replay script plan events) is = absurd cc
discovering_writes (Serve plan budget idle) is = absurd cc
discovering_writes (ServeLogged plan budget idle) is = absurd cc
discovering_writes (Check description) is = absurd cc
discovering_writes (Derive plan) is = absurd cc
discovering_writes (Table plan) is = absurd cc
discovering_writes (Storm seed events) is = absurd cc
discovering_writes (Consume consumption) is = refl
discovering_writes (Discover host port) is = refl

pub other_is_not : (words : List (List ℕ)) (command : Command) → meaning_of words ≡ Some command → is_writing (Some command) ≡ false → is_writing (meaning_of words) ≡ false
other_is_not words command meaning is = ap is_writing meaning ∙ is

pub other_discovers_not : (words : List (List ℕ)) (command : Command) → meaning_of words ≡ Some command → is_writing (Some command) ≡ false → is_discovering (meaning_of words) ≡ true → ⊥
other_discovers_not words command meaning is discovers =
    let bad : true ≡ false = sym (discovering_writes command (ap is_discovering (sym meaning) ∙ discovers)) ∙ is in cc

-- of words that are refused
pub refusal_ends : (words : List (List ℕ)) (a : Around) (out out_now : OutSeen) (fault : WordsFault) (e : Ended) (result : ℕ) → Reads {A = Command} (meaning_of words) (Err fault) → EndsAs fault e → IsReported (status_of e) (text_of e) out out_now result → NoWriteFailed out out_now (text_of e) → Ends words a a out out_now result
refusal_ends words a out out_now Usage e result refused ends_as reported fits = record {
  seen = did_write usage_line ∷ [];
  status = 2;
  stage = is_no_command refused (refl, refl);
  shows = shows_wrote a usage_line;
  reported = subst (λ (t : List ℕ). IsReported 2 t out out_now result) (sym (line_alone usage_line)) (subst (λ (x : Ended). IsReported (status_of x) (text_of x) out out_now result) ends_as reported);
  no_failure = subst (λ (t : List ℕ). NoWriteFailed out out_now t) (sym (line_alone usage_line)) (subst (λ (x : Ended). NoWriteFailed out out_now (text_of x)) ends_as fits);
  in_turn = λ is. turn_reported (did_write usage_line ∷ []) usage_line 2 put.Done out out out_now result (line_in_turn out usage_line) (λ fails. absurd cc) (λ seven. absurd (omega (arith, seven)))
      (subst (λ (x : Ended). IsReported (status_of x) (text_of x) out out_now result) ends_as reported);
}
refusal_ends words a out out_now NoMemory e result refused ends_as reported fits = record {
  seen = did_write memory_line ∷ [];
  status = 9;
  stage = words_memory (refl, refl);
  shows = shows_wrote a memory_line;
  reported = subst (λ (t : List ℕ). IsReported 9 t out out_now result) (sym (line_alone memory_line)) (subst (λ (x : Ended). IsReported (status_of x) (text_of x) out out_now result) ends_as reported);
  no_failure = subst (λ (t : List ℕ). NoWriteFailed out out_now t) (sym (line_alone memory_line)) (subst (λ (x : Ended). NoWriteFailed out out_now (text_of x)) ends_as fits);
  in_turn = λ is. turn_reported (did_write memory_line ∷ []) memory_line 9 put.Done out out out_now result (line_in_turn out memory_line) (λ fails. absurd cc) (λ seven. absurd (omega (arith, seven)))
      (subst (λ (x : Ended). IsReported (status_of x) (text_of x) out out_now result) ends_as reported);
}

pub refusal_is : (words : List (List ℕ)) (fault : WordsFault) → Reads {A = Command} (meaning_of words) (Err fault) → fault ≡ Usage → meaning_of words ≡ None
refusal_is words fault refused is = subst (λ (x : WordsFault). Reads {A = Command} (meaning_of words) (Err x)) is refused

-- where nothing is wrong and nothing failed, the whole call ends well
pub ends_well : (words : List (List ℕ)) (before now : Around) (out out_now : OutSeen) (result : ℕ) → Ends words before now out out_now result → IsFaultless words before.files.held (kinds_of before.outside.slots) → NothingFailed before now out out_now
    → (result ≡ 7 → Rose out.faults out_now.faults) → IsWell words result
ends_well words before now out out_now result e fine kept output = elim e.reported [
  | inl done ↦ elim (command_well before.files.held (kinds_of before.outside.slots) words e.seen (ends e.status) fine (λ trouble. quiet (what_trouble e.seen trouble)) e.stage) [
    | inl (inl well) ↦ inl (done.0 ∙ same_status e.status 0 well)
    | inl (inr nine) ↦ inr (inl (done.0 ∙ same_status e.status 9 nine))
    | inr (inl spent) ↦ inr (inr (inl (spent.0, done.0 ∙ same_status e.status 8 spent.1)))
    | inr (inr (inl (consumes, (n, is, may)))) ↦ consumed_well consumes n (done.0 ∙ same_status e.status n is) may
    | inr (inr (inr seven)) ↦ absurd (kept.no_write (output (done.0 ∙ same_status e.status 7 seven.1)))
  ]
  | inr failed ↦ absurd (kept.no_write failed.1)
]
  where
    consumed_well : is_asking (meaning_of words) ≡ true → (n : ℕ) → result ≡ n → MayEnd n → IsWell words result
    consumed_well consumes n same (inl zero) = inl (same ∙ zero)
    consumed_well consumes n same (inr (inl nine)) = inr (inl (same ∙ nine))
    consumed_well consumes n same (inr (inr (inl seven))) = absurd (kept.no_write (output (same ∙ seven)))
    consumed_well consumes n same (inr (inr (inr answered))) = inr (inr (inr (consumes, subst IsAnswered (sym same) answered)))

    quiet : HasFailed e.seen ⊎ (1 ≤ break_count (happened_in (sightings_in e.seen))) → ⊥
    quiet (inl failed) = kept.no_read (e.shows.failed failed)
    quiet (inr broken) = kept.no_call (rose_some _ _ _ broken (shows_net before now e.seen e.shows).faults)
