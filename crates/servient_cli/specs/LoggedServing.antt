-- `serve PLAN --log`: the Things of a plan are served as without a log, and what their handlers were asked and answered is
-- written: the serving line once it listens, and then a line for each turn.
use Rattle.std.specs.Prelude.{◌≡◌, ◌≢◌, ◌*◌, ℕ, List, [], ◌∷◌, ◌++◌, length, Option, Result, Ok, Err}
use Rattle.wot_terms.specs.declared.kind.Kind.{Kind}
use Rattle.thing_handler.specs.Turns.{HandlerCall, answered, missed}
use Rattle.thing_state.specs.State.{most_turns}
use Rattle.servient_outside.specs.declared.files.HeldFile.{HeldFile}
use Rattle.servient_outside.specs.declared.out.Put.{Put}
use Rattle.servient_outside.specs.declared.out.Put.TheVariants as put
use Rattle.servient_outside.specs.Out.{OutSeen}
use Rattle.servient_outside.specs.Told.{Continues}
use Rattle.servient_outside.specs.Network.{heard, did, broke, events_in}
use Rattle.servient_trace.specs.Trace.{at_network, at_handler, happened_in}
use Rattle.servient_trace.specs.ShownSections.{Shown, saw, forgot}
use Rattle.command_words.specs.declared.command.Budget.{Budget}
use Rattle.command_words.specs.declared.command.Budget.TheVariants as budget
use Rattle.servient_plan.specs.declared.plan.Plan.{Plan}
use Rattle.servient_plan.specs.Plan.{place_of}
use Rattle.servient_core.specs.Machine.{Site, State, start}
use Rattle.servient_core.specs.declared.sections.RunBounds.{RunBounds}
use Rattle.turn_lines.specs.Lines.{logged_turn, serving_line}
use Rattle.logged_serving.specs.declared.serving.LoggedEnd.{LoggedEnd}
use Rattle.logged_serving.specs.declared.serving.LoggedEnd.TheVariants as logged
use Rattle.logged_serving.specs.Logging.{RunsLogged}
use Rattle.command_stages.specs.declared.derivation.Planned.{Planned}
use Rattle.logged_serving.specs.declared.run_log.RunLog.{RunLog}
use Rattle.command_stages.specs.declared.ending.Ending.{Ending}
use Rattle.command_stages.specs.declared.ending.Ended.{Ended}
use Rattle.command_stages.specs.Ending.{final_status, final_text}
use Rattle.command_stages.specs.Lines.{network_line, spent_line}
use Rattle.command_stages.specs.Stages.{Deed, did_see, did_forget, did_write, sightings_in, text_in, Outcome, goes_on, ends, EndsWith, RunsOut, AndThen, Around}
use Rattle.command_stages.specs.Deriving.{ReadsPlanned}
use Rattle.servient_cli.specs.Consuming.{ComesOutPrinting}
use Rattle.servient_cli.specs.Opening.{Opens}
use Rattle.servient_cli.specs.Listening.{Listens, widest}

-- ---- the deeds of a run with its log

-- a text is written, if it has bytes
abbrev pub writes : List ℕ → List Deed
writes [] = []
writes (byte ∷ bytes) = did_write (byte ∷ bytes) ∷ []

-- the line of a call: a miss is no turn
abbrev pub call_line : ℕ → HandlerCall → List ℕ
call_line moment (answered turn) = logged_turn moment turn
call_line moment (missed slot) = []

-- What is done in a run, where the last event was heard at this moment and the lines of the turns since then aren't written
-- yet. Before the next event is heard, before the handlers forget their turns and at the end, these lines are written.
abbrev pub with_log : ℕ → List ℕ → List Shown → List Deed
with_log moment owed [] = writes owed
with_log moment owed (forgot ∷ shown) = writes owed ++ did_forget ∷ with_log moment [] shown
with_log moment owed (saw (at_network (heard e)) ∷ shown) = writes owed ++ did_see (at_network (heard e)) ∷ with_log e.event.moment [] shown
with_log moment owed (saw (at_network (did act)) ∷ shown) = did_see (at_network (did act)) ∷ with_log moment owed shown
with_log moment owed (saw (at_network (broke call)) ∷ shown) = writes owed ++ did_see (at_network (broke call)) ∷ with_log moment [] shown
with_log moment owed (saw (at_handler call) ∷ shown) = did_see (at_handler call) ∷ with_log moment (owed ++ call_line moment call) shown

-- ---- how the command ends by it

abbrev pub status_at_log_end : LoggedEnd → ℕ
status_at_log_end logged.Stopped = 0
status_at_log_end logged.Failed = 6
status_at_log_end logged.Spent = 8
status_at_log_end logged.Unwritten = 7

abbrev pub line_at_log_end : LoggedEnd → List ℕ
line_at_log_end logged.Stopped = []
line_at_log_end logged.Failed = network_line
line_at_log_end logged.Spent = spent_line
line_at_log_end logged.Unwritten = []

-- ---- the stages

-- the bounds of the run: as many events as the words say, and as many turns as a run of the site may have
abbrev pub bounds_of : Budget → Site → RunBounds
bounds_of (budget.Events n) site = record { events = n; turns = most_turns site.left_out }
bounds_of budget.Endless site = widest site

-- the serving line of a plan and its Things
abbrev pub heading_of : Plan → Site → List ℕ
heading_of plan site = serving_line plan.frame.bases.http plan.frame.bases.coap (length site.things)

-- the memory of the log is taken, all of it
pub data TakesLog (seen : List Deed) (o : Outcome (Unit {0})) : Type 0 where
  log_taken : seen ≡ [] → o ≡ goes_on tt → TakesLog seen o
  log_memory : RunsOut [] seen o → TakesLog seen o

-- The serving line is written, and the events are served, and the lines of their turns are written. A write that fails is
-- status 7: of the serving line before any event.
pub data ServesWithLog (bounds : RunBounds) (plan : Plan) (site : Site) (seen : List Deed) (o : Outcome (Unit {0})) : Type 0 where
  heading_unwritten : EndsWith (did_write (heading_of plan site) ∷ []) 7 [] seen o → ServesWithLog bounds plan site seen o
  has_logged : (result : LoggedEnd) (shown : List Shown) (end : State)
      → RunsLogged site bounds result (start site plan.exchanges plan.epoch) shown end
      → EndsWith (did_write (heading_of plan site) ∷ with_log 0 [] shown) (status_at_log_end result) (line_at_log_end result) seen o → ServesWithLog bounds plan site seen o

-- once the servient is open: it listens, and then it serves
abbrev pub ListensAndLogs : Budget → ℕ → Plan → Site → List Deed → Outcome (Unit {0}) → Type 0
ListensAndLogs budget idle plan site = AndThen (Listens (place_of plan (idle * 1000))) (λ _. ServesWithLog (bounds_of budget site) plan site)

-- the work once the plan is read, where serving ends after n seconds without traffic, or never for 0
abbrev pub LogsPlanned : List ℕ → List Kind → Budget → ℕ → Planned → List Deed → Outcome (Unit {0}) → Type 0
LogsPlanned name kinds budget idle p =
    AndThen (Opens name kinds p) (λ site. AndThen TakesLog (λ _. ListensAndLogs budget idle p.plan site))

-- Serving a plan with a log on a rack with handlers of these kinds.
abbrev pub LogsPlan : Option (List HeldFile) → List Kind → List ℕ → Budget → ℕ → List Deed → Outcome (Unit {0}) → Type 0
LogsPlan held kinds plan budget idle = AndThen (ReadsPlanned held plan) (LogsPlanned plan kinds budget idle)

-- ---- the texts in turn

-- no event was taken from the network
abbrev pub TookNothing : List Deed → Type 0
TookNothing seen = events_in (happened_in (sightings_in seen)) ≡ []

-- These deeds were done with their texts in turn, and the command ended with this status. The texts of the first of them were
-- written, all, and a part of the text of the later ones, by which no event is taken: so before each event all texts before it
-- were written. Unless the status is 7, that part is the whole.
pub record WritesInTurn (out out_now : OutSeen) (seen : List Deed) (result : ℕ) : Type 0 where
  pub first : List Deed
  pub later : List Deed
  pub whole : seen ≡ first ++ later
  pub untaken : TookNothing later
  pub part : List ℕ
  pub rest : List ℕ
  pub text_is : text_in later ≡ part ++ rest
  pub wrote : Continues out.written out_now.written (text_in first ++ part)
  pub all : result ≢ 7 → rest ≡ []

-- The same before the text of the end is written: where no write failed, that text is what is left.
pub record IsInTurn (out out_now : OutSeen) (seen : List Deed) (text : List ℕ) (answer : Put) : Type 0 where
  pub first : List Deed
  pub later : List Deed
  pub whole : seen ≡ first ++ later
  pub untaken : TookNothing later
  pub part : List ℕ
  pub rest : List ℕ
  pub text_is : text_in later ≡ part ++ rest
  pub wrote : Continues out.written out_now.written (text_in first ++ part)
  pub left : answer ≡ put.Done → rest ≡ text

-- a command came out so, and its texts were written in turn
abbrev pub ComesOutInTurn : (List Deed → Outcome (Unit {0}) → Type 0) → Around → Around → OutSeen → OutSeen → ℕ → List ℕ → Type 0
ComesOutInTurn P before now out out_now status text =
    (comes : ComesOutPrinting P before now out out_now status text) × IsInTurn out out_now comes.seen text comes.answer

abbrev pub EndsInTurn : (List Deed → Outcome (Unit {0}) → Type 0) → Around → Around → OutSeen → OutSeen → Result Ending Ended → Type 0
EndsInTurn P before now out out_now result = ComesOutInTurn P before now out out_now (final_status result) (final_text result)

-- ---- how the code's answers are read

-- the log was taken, or the command ended
abbrev pub taken_log : Result RunLog Ended → Result (Unit {0}) Ended
taken_log (Ok log) = Ok tt
taken_log (Err ended) = Err ended
