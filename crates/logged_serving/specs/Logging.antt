-- Serving with a log: one run of the machine in sections, as without a log, and the lines of its turns.
use Rattle.std.specs.Prelude.{◌≡◌, ◌≢◌, ◌≤◌, ℕ, List, [], ◌∷◌, ◌++◌, length}
use Rattle.servient_base.specs.Moves.{Becomes, Stays, Then}
use Rattle.thing_handler.specs.Turns.{answered, missed}
use Rattle.servient_outside.specs.declared.net.EventWithBytes.{EventWithBytes}
use Rattle.servient_outside.specs.declared.out.Put.{Put}
use Rattle.servient_outside.specs.declared.out.Put.TheVariants as put
use Rattle.servient_outside.specs.Network.{heard, did, broke, next_event, events_in}
use Rattle.servient_outside.specs.Out.{OutSeen, OutShows}
use Rattle.servient_trace.specs.Trace.{Sighting, at_network, at_handler, happened_in}
use Rattle.servient_trace.specs.ShownSections.{Shown, saw, forgot, seen_in, shown_of}
use Rattle.servient_core.specs.Machine.{Site, State, Run}
use Rattle.servient_core.specs.Serving.{HasNoStop}
use Rattle.servient_core.specs.declared.sections.RunBounds.{RunBounds}
use Rattle.servient_core.specs.declared.sections.SectionsEnd.TheVariants as ending
use Rattle.servient_core.specs.Sections.{IsInTime, AreTakenInSections}
use Rattle.turn_lines.specs.Lines.{logged_turn}
use Rattle.logged_serving.specs.declared.serving.LoggedEnd.{LoggedEnd}
use Rattle.logged_serving.specs.declared.serving.LoggedEnd.TheVariants as logged

-- ---- the lines of a run

-- The lines of the turns of a run, in order, each with the moment of the event that was heard last before it. This was the
-- moment before all.
abbrev pub log_from : ℕ → List Shown → List ℕ
log_from moment [] = []
log_from moment (forgot ∷ shown) = log_from moment shown
log_from moment (saw (at_network (heard e)) ∷ shown) = log_from e.event.moment shown
log_from moment (saw (at_network (did act)) ∷ shown) = log_from moment shown
log_from moment (saw (at_network (broke call)) ∷ shown) = log_from moment shown
log_from moment (saw (at_handler (missed slot)) ∷ shown) = log_from moment shown
log_from moment (saw (at_handler (answered turn)) ∷ shown) = logged_turn moment turn ++ log_from moment shown

-- Of a run that ended so, this was written. Either its lines were, all of them. Or those of the last event's step were not:
-- the lines of all turns before that event were written, then it was heard, its step was made, and a write of the step's
-- lines failed. So each event is heard after the lines of all turns before it were written.
pub data Logs (out out_now : OutSeen) (shown : List Shown) (result : LoggedEnd) : Type 0 where
  all_written : result ≢ logged.Unwritten → OutShows out out_now put.Done (log_from 0 shown) → Logs out out_now shown result
  step_unwritten : (first : List Shown) (e : EventWithBytes) (step : List Sighting) (middle : OutSeen) → result ≡ logged.Unwritten
      → shown ≡ first ++ shown_of (at_network (heard e) ∷ step) → events_in (happened_in step) ≡ []
      → OutShows out middle put.Done (log_from 0 first) → OutShows middle out_now put.Failed (log_from e.event.moment (shown_of step))
      → Logs out out_now shown result

-- ---- the run

-- The events that were taken, and how many turns there were at the end: as without a log; and where a write failed, no event
-- but maybe the last was a Stop.
abbrev pub AreTakenLogged : RunBounds → ℕ → List EventWithBytes → LoggedEnd → Type 0
AreTakenLogged bounds turns took logged.Stopped = AreTakenInSections bounds turns took ending.Stopped
AreTakenLogged bounds turns took logged.Failed = AreTakenInSections bounds turns took ending.Failed
AreTakenLogged bounds turns took logged.Spent = AreTakenInSections bounds turns took ending.Spent
AreTakenLogged bounds turns took logged.Unwritten =
    (prefix : List EventWithBytes) × (last : EventWithBytes)
    × (took ≡ prefix ++ last ∷ []) × HasNoStop prefix × (length took ≤ bounds.events)

-- the network breaks where serving failed, and where it ended otherwise nothing more happens
abbrev pub EndsLogged : LoggedEnd → State → List Sighting → State → Type 0
EndsLogged logged.Stopped s = Stays s
EndsLogged logged.Failed s = Becomes s (at_network (broke next_event) ∷ [])
EndsLogged logged.Spent s = Stays s
EndsLogged logged.Unwritten s = Stays s

-- Serving with a log within these bounds: one run of the machine over all its events, and then its end.
pub record RunsLogged (site : Site) (bounds : RunBounds) (result : LoggedEnd) (s : State) (shown : List Shown) (t : State) : Type 0 where
  pub took : List EventWithBytes
  pub run : Then (Run site took) (EndsLogged result) s (seen_in shown) t
  pub taken : AreTakenLogged bounds t.thing.turns took result
  pub in_time : IsInTime bounds.turns 0 s.thing.turns shown

-- the run, and its lines
pub record ServesLogged (site : Site) (bounds : RunBounds) (out out_now : OutSeen) (result : LoggedEnd) (s : State) (shown : List Shown) (t : State) : Type 0 where
  pub ran : RunsLogged site bounds result s shown t
  pub wrote : Logs out out_now shown result

-- the answer of the last write of a run that ended so
abbrev pub answer_of : LoggedEnd → Put
answer_of logged.Stopped = put.Done
answer_of logged.Failed = put.Done
answer_of logged.Spent = put.Done
answer_of logged.Unwritten = put.Failed
