-- The commands, and what the program reports of them.
--
-- The grammar gives the meaning of the words, `meaning_of` of `command_words`.
-- `replay SCRIPT [PLAN]` reads the plan and its models, if a plan is named, and the script, runs its events, and prints
-- the acts and the turns. `serve PLAN` reads a plan and its models, listens at the plan's place, and serves what comes
-- there, as many events as its budget has; with `--log` it writes a line for each turn besides. `check TD` reads a Thing
-- Description and says whether it is valid, or its first fault. `derive PLAN` reads a plan and its models, and prints the descriptions of its Things, or the first
-- fault; with `--table` it prints what the plan gives each affordance in their place. `storm SEED N` runs events that are
-- drawn from a seed on the built-in Thing, and counts what came of them. `consume TD OPERATION NAME` reads a description,
-- and does an operation on the Thing that it describes. `discover HOST:PORT` asks a server which Things it has. Each is a
-- row of stages, in a file of its own. A further command adds its file and a row.
use Rattle.std.specs.Prelude.{◌≡◌, ◌≢◌, ◌≤◌, ◌⊎◌, ℕ, Bool, true, false, List, [], ◌++◌, Option, Some, None, Result, Ok, length}
use Rattle.servient_base.specs.Count.{Rose}
use Rattle.wot_json.specs.Tree.{Json}
use Rattle.wot_json.specs.Reading.{tree_of}
use Rattle.wot_terms.specs.Faults.{faults_of}
use Rattle.wot_terms.specs.declared.kind.Kind.{Kind}
use Rattle.wot_consumer.specs.declared.chosen.Chosen.{Chosen}
use Rattle.wot_consumer.specs.Choice.{IsChosen, wanted}
use Rattle.thing_site.specs.Site.{expose_faults}
use Rattle.thing_site.specs.Exposing.{kinds_of}
use Rattle.command_words.specs.Grammar.{meaning_of}
use Rattle.command_words.specs.declared.command.Command.{Command}
use Rattle.command_words.specs.declared.command.Consumption.{Consumption}
use Rattle.command_words.specs.Operations.{form_operation}
use Rattle.command_words.specs.declared.command.Command.TheVariants.{Replay, Serve, ServeLogged, Check, Derive, Table, Consume, Storm, Discover}
use Rattle.servient_outside.specs.declared.files.HeldFile.{HeldFile}
use Rattle.servient_outside.specs.Told.{Continues}
use Rattle.servient_outside.specs.Files.{content_of}
use Rattle.servient_outside.specs.Out.{OutSeen, NoWriteFailed}
use Rattle.command_stages.specs.declared.derivation.Planned.{Planned}
use Rattle.command_stages.specs.declared.ending.Ending.{Ending}
use Rattle.command_stages.specs.declared.ending.Ended.{Ended}
use Rattle.command_stages.specs.Ending.{final_text}
use Rattle.command_stages.specs.Lines.{usage_line}
use Rattle.command_stages.specs.Stages.{Deed, text_in, Outcome, ends, EndsWith, RunsOut, AndThen, Around, ShowsDeeds}
use Rattle.command_stages.specs.Reading.{ReadsFile, longest_json}
use Rattle.servient_script.specs.Script.{longest_script}
use Rattle.command_stages.specs.Inputs.{built_in}
use Rattle.servient_cli.specs.Replaying.{Replays, IsFaultlessScript}
use Rattle.servient_cli.specs.Storming.{Storms}
use Rattle.servient_cli.specs.Listening.{ServesPlan}
use Rattle.servient_cli.specs.LoggedServing.{LogsPlan, IsInTurn, WritesInTurn}
use Rattle.servient_cli.specs.Consuming.{ConsumesThing, EndsPrinting}
use Rattle.servient_cli.specs.Discovering.{DiscoversThings}
use Rattle.command_stages.specs.Checking.{Checks, IsFaultlessDescription}
use Rattle.command_stages.specs.Deriving.{ReadsPlanned, DerivesAndPrints, IsFaultlessPlan, derived_of}
use Rattle.command_stages.specs.Tabling.{TablesPlan}

-- ---- the table of commands

-- The work of each of them, where this is the content of the files, so far as that is recorded, and the rack has
-- handlers of these kinds.
abbrev pub Does : Option (List HeldFile) → List Kind → Command → List Deed → Outcome (Unit {0}) → Type 0
Does held kinds (Replay script plan events) = Replays held kinds script plan events
Does held kinds (Serve plan budget idle) = ServesPlan held kinds plan budget idle
Does held kinds (ServeLogged plan budget idle) = LogsPlan held kinds plan budget idle
Does held kinds (Check description) = AndThen (ReadsFile held longest_json description) (Checks description)
Does held kinds (Derive plan) = AndThen (ReadsPlanned held plan) DerivesAndPrints
Does held kinds (Table plan) = TablesPlan held kinds plan
Does held kinds (Storm seed events) = Storms kinds seed events
Does held kinds (Consume consumption) = ConsumesThing held consumption
Does held kinds (Discover host port) = DiscoversThings host port

-- the words mean that a plan is served
abbrev pub is_serving : Option Command → Bool
is_serving (Some (Serve plan budget idle)) = true
is_serving (Some (ServeLogged plan budget idle)) = true
is_serving command = false

-- the words mean that a plan is served with a log
abbrev pub is_logging : Option Command → Bool
is_logging (Some (ServeLogged plan budget idle)) = true
is_logging command = false

-- the words mean a storm
abbrev pub is_storm : Option Command → Bool
is_storm (Some (Storm seed events)) = true
is_storm command = false

-- the words mean that others are asked: another Thing is consumed, or a server is asked for its Things
abbrev pub is_asking : Option Command → Bool
is_asking (Some (Consume consumption)) = true
is_asking (Some (Discover host port)) = true
is_asking command = false

-- the words mean a command that writes as it goes: one that asks others, or one with a log
abbrev pub is_writing : Option Command → Bool
is_writing (Some (ServeLogged plan budget idle)) = true
is_writing (Some (Consume consumption)) = true
is_writing (Some (Discover host port)) = true
is_writing command = false

-- the words mean that a server is asked for its Things
abbrev pub is_discovering : Option Command → Bool
is_discovering (Some (Discover host port)) = true
is_discovering command = false

-- the words mean a command that uses the network
abbrev pub is_networked : Option Command → Bool
is_networked (Some (Serve plan budget idle)) = true
is_networked (Some (ServeLogged plan budget idle)) = true
is_networked (Some (Consume consumption)) = true
is_networked (Some (Discover host port)) = true
is_networked command = false

-- the words mean a command that calls handlers
abbrev pub calls_handlers : Option Command → Bool
calls_handlers (Some (Replay script plan events)) = true
calls_handlers (Some (Serve plan budget idle)) = true
calls_handlers (Some (ServeLogged plan budget idle)) = true
calls_handlers (Some (Storm seed events)) = true
calls_handlers command = false

-- the words are outside the grammar
abbrev pub IsNoCommand : List (List ℕ) → Type 0
IsNoCommand words = meaning_of words ≡ None

-- The command of the words of the command line.
pub data Commands (held : Option (List HeldFile)) (kinds : List Kind) (words : List (List ℕ)) (seen : List Deed) (o : Outcome (Unit {0})) : Type 0 where
  is_no_command : IsNoCommand words → EndsWith [] 2 usage_line seen o → Commands held kinds words seen o
  is_command : (command : Command) → meaning_of words ≡ Some command → Does held kinds command seen o → Commands held kinds words seen o
  words_memory : RunsOut [] seen o → Commands held kinds words seen o

-- ---- the whole call

-- The text was written and the status is its own; or there was a text to write and the output failed, which its count
-- records, a prefix of the text was written, and the status is 7.
abbrev pub IsReported : ℕ → List ℕ → OutSeen → OutSeen → ℕ → Type 0
IsReported status text out out_now result =
    (result ≡ status) × Continues out.written out_now.written text
    ⊎ (result ≡ 7) × Rose out.faults out_now.faults × (text ≢ [])
    × (prefix : List ℕ) × (rest : List ℕ) × (text ≡ prefix ++ rest) × Continues out.written out_now.written prefix

-- Stages came out with a status, the files, the network and the handlers show what was done, and the output shows what
-- was written, which it was where it had room for it; with a log, in turn with what was done.
pub record EndsAndReports (logs : Bool) (P : List Deed → Outcome (Unit {0}) → Type 0) (before now : Around) (out out_now : OutSeen) (result : ℕ) : Type 0 where
  pub seen : List Deed
  pub status : ℕ
  pub stage : P seen (ends status)
  pub shows : ShowsDeeds before now seen
  pub reported : IsReported status (text_in seen) out out_now result
  pub no_failure : NoWriteFailed out out_now (text_in seen)
  pub in_turn : logs ≡ true → WritesInTurn out out_now seen result

-- A command that writes as it goes ended so, before the text of its end is written.
abbrev pub EndsWriting : Bool → (List Deed → Outcome (Unit {0}) → Type 0) → Around → Around → OutSeen → OutSeen → Result Ending Ended → Type 0
EndsWriting logs P before now out out_now result =
    (ended : EndsPrinting P before now out out_now result) × (logs ≡ true → IsInTurn out out_now ended.seen (final_text result) ended.answer)

-- The top call did this: the command of its words.
abbrev pub Ends : List (List ℕ) → Around → Around → OutSeen → OutSeen → ℕ → Type 0
Ends words before now out out_now result =
    EndsAndReports (is_logging (meaning_of words)) (Commands before.files.held (kinds_of before.outside.slots) words) before now out out_now result

-- Nothing is wrong with a file: the files hold it, it is not too long, and nothing is wrong with what it holds.
pub record HoldsFaultless (files : List HeldFile) (limit : ℕ) (name : List ℕ) (Good : List ℕ → Type 0) : Type 0 where
  pub content : List ℕ
  pub holds : content_of files name ≡ Some content
  pub short : length content ≤ limit
  pub good : Good content

-- This plan with its models is that of the file, with which nothing is wrong, or the built-in
-- Thing where no plan is named.
abbrev pub IsPlannedBy : List HeldFile → Option (List ℕ) → Planned → Type 0
IsPlannedBy files None p = p ≡ built_in
IsPlannedBy files (Some name) p = HoldsFaultless files longest_json name (IsFaultlessPlan files p)

-- Nothing is wrong with a replay: its root is derived, its Things fit the rack, and the budget
-- is enough for the script.
pub record IsFaultlessReplay (files : List HeldFile) (kinds : List Kind) (script : List ℕ) (plan : Option (List ℕ)) (budget : ℕ) : Type 0 where
  pub planned : Planned
  pub things : List (List ℕ × Json)
  pub by_plan : IsPlannedBy files plan planned
  pub derived_is : derived_of planned ≡ Ok things
  pub fits : expose_faults kinds planned.plan.slots things ≡ []
  pub script_is : HoldsFaultless files longest_script script (IsFaultlessScript budget)

-- nothing is wrong with a plan, its root is derived, and its Things fit the rack
pub record IsFaultlessServing (files : List HeldFile) (kinds : List Kind) (plan : List ℕ) : Type 0 where
  pub planned : Planned
  pub things : List (List ℕ × Json)
  pub by_plan : HoldsFaultless files longest_json plan (IsFaultlessPlan files planned)
  pub derived_is : derived_of planned ≡ Ok things
  pub fits : expose_faults kinds planned.plan.slots things ≡ []

-- nothing is wrong with a plan, and its root is derived
pub record IsFaultlessDerivation (files : List HeldFile) (plan : List ℕ) : Type 0 where
  pub planned : Planned
  pub things : List (List ℕ × Json)
  pub by_plan : HoldsFaultless files longest_json plan (IsFaultlessPlan files planned)
  pub derived_is : derived_of planned ≡ Ok things

-- nothing is wrong with a storm: the built-in Thing is derived, and fits the rack
pub record IsFaultlessStorm (kinds : List Kind) : Type 0 where
  pub things : List (List ℕ × Json)
  pub derived_is : derived_of built_in ≡ Ok things
  pub fits : expose_faults kinds built_in.plan.slots things ≡ []

-- nothing is wrong with the value that is handed in, if a file is named: it is a JSON text
abbrev pub HoldsInput : List HeldFile → Option (List ℕ) → Type 0
HoldsInput files None = Unit {0}
HoldsInput files (Some name) = HoldsFaultless files longest_json name (λ content. (value : Json) × (tree_of content ≡ Some value))

-- nothing is wrong with a consumption: the description has no fault, nothing is wrong with the value, and a form
-- qualifies
pub record IsFaultlessConsumption (files : List HeldFile) (k : Consumption) : Type 0 where
  pub tree : Json
  pub described : HoldsFaultless files longest_json k.description (λ content. (tree_of content ≡ Some tree) × (faults_of tree ≡ []))
  pub input : HoldsInput files k.input
  pub chosen : Chosen
  pub chosen_is : IsChosen tree (wanted (form_operation k.operation) k.scheme) k.name chosen

-- nothing is wrong with the files that a command reads, nor with what it makes of them
abbrev pub HasFaultlessFiles : List HeldFile → List Kind → Command → Type 0
HasFaultlessFiles files kinds (Replay script plan events) = IsFaultlessReplay files kinds script plan events
HasFaultlessFiles files kinds (Serve plan budget idle) = IsFaultlessServing files kinds plan
HasFaultlessFiles files kinds (ServeLogged plan budget idle) = IsFaultlessServing files kinds plan
HasFaultlessFiles files kinds (Check description) = HoldsFaultless files longest_json description IsFaultlessDescription
HasFaultlessFiles files kinds (Derive plan) = IsFaultlessDerivation files plan
HasFaultlessFiles files kinds (Table plan) = IsFaultlessServing files kinds plan
HasFaultlessFiles files kinds (Storm seed events) = IsFaultlessStorm kinds
HasFaultlessFiles files kinds (Consume consumption) = IsFaultlessConsumption files consumption
HasFaultlessFiles files kinds (Discover host port) = Unit {0}

-- a command that reads files
abbrev pub reads_files : Command → Bool
reads_files (Storm seed events) = false
reads_files (Discover host port) = false
reads_files command = true

-- Nothing is wrong with the words, the files and the rack: the words mean a command, the files are told where it reads
-- some, and nothing is wrong with it.
pub record IsFaultless (words : List (List ℕ)) (held : Option (List HeldFile)) (kinds : List Kind) : Type 0 where
  pub command : Command
  pub meaning : meaning_of words ≡ Some command
  pub files : List HeldFile
  pub told : reads_files command ≡ true → held ≡ Some files
  pub faultless : HasFaultlessFiles files kinds command

-- The failures that are known: of reads of files, of calls of the network, of the output. There was none.
pub record NothingFailed (before now : Around) (out out_now : OutSeen) : Type 0 where
  pub no_read : ¬ (Rose before.files.faults now.files.faults)
  pub no_call : ¬ (Rose before.outside.net.faults now.outside.net.faults)
  pub no_write : ¬ (Rose out.faults out_now.faults)

-- the statuses with which a discovery may end: not by a file, a fault of a description, or the want of a form
abbrev pub MayDiscover : ℕ → Type 0
MayDiscover result = (result ≢ 3) × (result ≢ 4) × (result ≢ 5) × (result ≢ 12)

-- the statuses with which `consume` and `discover` may also end, which the servers that are asked decide: by another
-- outcome than a success, by silence, or by more events than are awaited
abbrev pub IsAnswered : ℕ → Type 0
IsAnswered result = (result ≡ 10) ⊎ (result ≡ 11) ⊎ (result ≡ 8)

-- The command did what it is for, or was out of memory; serving may have spent its budget, and what is asked may have
-- answered otherwise.
abbrev pub IsWell : List (List ℕ) → ℕ → Type 0
IsWell words result =
    (result ≡ 0) ⊎ (result ≡ 9) ⊎ ((is_serving (meaning_of words) ≡ true) × (result ≡ 8)) ⊎ ((is_asking (meaning_of words) ≡ true) × IsAnswered result)
