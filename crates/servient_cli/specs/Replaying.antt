-- `replay SCRIPT [PLAN]`: the events of a script are run on the Things of a plan, or on the built-in Thing, and the
-- acts and the turns are printed.
use Rattle.std.specs.Prelude.{◌≡◌, ◌<◌, ◌≤◌, ℕ, List, [], ◌∷◌, ◌++◌, map, take, length, Option, Some, if◌then◌else◌}
use Rattle.wot_terms.specs.declared.kind.Kind.{Kind}
use Rattle.thing_handler.specs.Turns.{turns_in}
use Rattle.servient_outside.specs.declared.files.HeldFile.{HeldFile}
use Rattle.servient_outside.specs.declared.net.EventWithBytes.{EventWithBytes}
use Rattle.servient_outside.specs.Network.{acts_in}
use Rattle.servient_outside.specs.Ending.{with_stop}
use Rattle.servient_outside.specs.declared.net_memory.NetMemory.{NetMemory}
use Rattle.servient_outside.specs.NetMemory.{left_events, told_history}
use Rattle.servient_trace.specs.Trace.{Sighting, at_handler, happened_in, calls_in}
use Rattle.servient_core.specs.Machine.{Site, State, Run, start}
use Rattle.command_stages.specs.declared.inputs.Inputs.{Inputs}
use Rattle.servient_script.specs.Script.{IsScript, StopsAtEnd, has_stop}
use Rattle.servient_script.specs.Print.{print_text}
use Rattle.command_stages.specs.Lines.{spent_line}
use Rattle.command_stages.specs.Stages.{Deed, did_write, sees, Outcome, EndsWith, RunsOut, AndThen}
use Rattle.servient_cli.specs.Opening.{Opens}
use Rattle.command_stages.specs.Inputs.{plan_name, ReadsInputs}

-- ---- the run

-- The events of a run: those of the script, and a Stop after them where none of them is one, which counts as an event
-- in either case.
abbrev pub run_events : List EventWithBytes → List EventWithBytes
run_events events = if has_stop events then events else with_stop events

-- A network in memory has the events of a script to give, and nothing has happened yet.
pub record HasScript (events : List EventWithBytes) (net : NetMemory) : Type 0 where
  pub ends : StopsAtEnd events
  pub left : left_events net ≡ Some (with_stop events)
  pub history : told_history net ≡ Some []

-- the calls of handlers in a run
abbrev pub calls_of_run : List Sighting → List Deed
calls_of_run ran = sees (map (λ call. at_handler call) (calls_in ran))

-- the print of a run: its acts, and then its turns
abbrev pub print_of_run : List Sighting → List ℕ
print_of_run ran = print_text (acts_in (happened_in ran)) (turns_in (calls_in ran))

-- Running the events of a script, of which there may be n, where m exchanges may live.
pub data RunsScript (budget : ℕ) (events : List EventWithBytes) (exchanges : ℕ) (epoch : Option ℕ) (site : Site) (seen : List Deed) (o : Outcome (Unit {0})) : Type 0 where
  -- all of them were taken
  is_whole : (ran : List Sighting) (end : State) → length (run_events events) ≤ budget → Run site (run_events events) (start site exchanges epoch) ran end
      → EndsWith (calls_of_run ran) 0 (print_of_run ran) seen o → RunsScript budget events exchanges epoch site seen o
  -- they are more than the budget, and the first of them were taken
  is_spent : (ran : List Sighting) (end : State) → budget < length (run_events events) → Run site (take budget (run_events events)) (start site exchanges epoch) ran end
      → EndsWith (calls_of_run ran ++ did_write (print_of_run ran) ∷ []) 8 spent_line seen o → RunsScript budget events exchanges epoch site seen o
  -- It was out of memory, before the run or after n events: nothing is printed then, and the handlers were called as in
  -- a run over those.
  run_memory : (ran : List Sighting) (end : State) (count : ℕ) → Run site (take count (run_events events)) (start site exchanges epoch) ran end
      → RunsOut (calls_of_run ran) seen o → RunsScript budget events exchanges epoch site seen o

-- the work once the files are read
abbrev pub RunsOn : List ℕ → List Kind → ℕ → Inputs → List Deed → Outcome (Unit {0}) → Type 0
RunsOn name kinds budget read = AndThen (Opens name kinds read.planned) (RunsScript budget read.events read.planned.plan.exchanges read.planned.plan.epoch)

-- A replay on a rack with handlers of these kinds.
abbrev pub Replays : Option (List HeldFile) → List Kind → List ℕ → Option (List ℕ) → ℕ → List Deed → Outcome (Unit {0}) → Type 0
Replays held kinds script plan budget = AndThen (ReadsInputs held plan script) (RunsOn (plan_name plan) kinds budget)

-- nothing is wrong with a script: it is that of some events, which with a Stop at their end are within the budget
abbrev pub IsFaultlessScript : ℕ → List ℕ → Type 0
IsFaultlessScript budget content = (events : List EventWithBytes) × IsScript content events × (length (run_events events) ≤ budget)
