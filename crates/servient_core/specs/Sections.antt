-- Serving in sections: one run of the machine over all its events, in which the handlers forget their turns now and
-- then, because memory ends and a run need not. The machine knows nothing of that. The outside shows the one run in
-- sections, each of them between two forgettings.
use Rattle.std.specs.Prelude.{◌≡◌, ◌≤◌, ◌<◌, ◌+◌, ◌⊎◌, ℕ, List, [], ◌∷◌, ◌++◌, length, map}
use Rattle.servient_base.specs.Moves.{Becomes, Stays, Then}
use Rattle.thing_handler.specs.Handler.{Seen, forgotten}
use Rattle.thing_handler.specs.Turns.{HandlerCall, answered, missed}
use Rattle.servient_outside.specs.declared.net.What.TheVariants as what
use Rattle.servient_outside.specs.declared.net.EventWithBytes.{EventWithBytes}
use Rattle.servient_outside.specs.Network.{heard, did, broke, next_event}
use Rattle.servient_trace.specs.Trace.{Sighting, at_network, at_handler}
use Rattle.servient_core.specs.Machine.{Site, State, Run}
use Rattle.servient_core.specs.Serving.{HasNoStop}
use Rattle.servient_core.specs.declared.sections.RunBounds.{RunBounds}
use Rattle.servient_core.specs.declared.sections.SectionsEnd.{SectionsEnd}
use Rattle.servient_core.specs.declared.sections.SectionsEnd.TheVariants as ending
use Rattle.servient_core.specs.declared.sections.TheConstants.{MOST_KEPT}
use Rattle.servient_trace.specs.ShownSections.{Shown, saw, forgot, seen_in}

-- ---- when the handlers forget

-- the number of turns of a call
abbrev pub turn_count : HandlerCall → ℕ
turn_count (answered turn) = 1
turn_count (missed slot) = 0

-- The handlers forget only where they keep `MOST_KEPT` turns or more; and where an event is heard they keep fewer, and
-- the run has fewer turns than it may have. They keep this many at first, and the run had so many turns.
abbrev pub IsInTime : ℕ → ℕ → ℕ → List Shown → Type 0
IsInTime most kept turns [] = Unit {0}
IsInTime most kept turns (forgot ∷ shown) = (MOST_KEPT ≤ kept) × IsInTime most 0 turns shown
IsInTime most kept turns (saw (at_handler call) ∷ shown) = IsInTime most (kept + turn_count call) (turns + turn_count call) shown
IsInTime most kept turns (saw (at_network (heard e)) ∷ shown) = (kept < MOST_KEPT) × (turns < most) × IsInTime most kept turns shown
IsInTime most kept turns (saw (at_network (did act)) ∷ shown) = IsInTime most kept turns shown
IsInTime most kept turns (saw (at_network (broke call)) ∷ shown) = IsInTime most kept turns shown

-- Once the run has so many turns, the handlers forget theirs if that is due, and are due to forget again later.
pub data ForgetsIfDue (turns due later : ℕ) (before after : List Seen) : Type 0 where
  isnt_due : turns < due → later ≡ due → after ≡ before → ForgetsIfDue turns due later before after
  is_due : due ≤ turns → later ≡ turns + MOST_KEPT → after ≡ map forgotten before → ForgetsIfDue turns due later before after

-- ---- the run

-- The events that were taken, and how many turns there were at the end: a Stop is the last of them and no other where
-- serving stopped; it failed below the bound on events; and it is spent where one of the bounds is reached.
abbrev pub AreTakenInSections : RunBounds → ℕ → List EventWithBytes → SectionsEnd → Type 0
AreTakenInSections bounds turns took ending.Stopped =
    (prefix : List EventWithBytes) × (last : EventWithBytes)
    × (took ≡ prefix ++ last ∷ []) × (last.event.what ≡ what.Stop) × HasNoStop prefix × (length took ≤ bounds.events)
AreTakenInSections bounds turns took ending.Failed = HasNoStop took × (length took < bounds.events)
AreTakenInSections bounds turns took ending.Spent = HasNoStop took × ((bounds.turns ≤ turns) ⊎ (length took ≡ bounds.events))

-- the network breaks where serving failed, and where it ended otherwise nothing more happens
abbrev pub EndsSections : SectionsEnd → State → List Sighting → State → Type 0
EndsSections ending.Stopped s = Stays s
EndsSections ending.Failed s = Becomes s (at_network (broke next_event) ∷ [])
EndsSections ending.Spent s = Stays s

-- Serving in sections within these bounds: one run of the machine over all its events, and then its end.
pub record ServesInSections (site : Site) (bounds : RunBounds) (result : SectionsEnd) (s : State) (shown : List Shown) (t : State) : Type 0 where
  pub took : List EventWithBytes
  pub run : Then (Run site took) (EndsSections result) s (seen_in shown) t
  pub taken : AreTakenInSections bounds t.thing.turns took result
  pub in_time : IsInTime bounds.turns 0 s.thing.turns shown
