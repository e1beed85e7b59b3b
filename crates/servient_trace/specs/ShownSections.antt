-- A trace in sections: the handlers forget their turns now and then, because memory ends and a run need not. The outside
-- shows one run in sections, each of them between two forgettings.
use Rattle.std.specs.Prelude.{◌≡◌, ◌+◌, List, ◌∷◌, ◌++◌, map, Option, Some, None}
use Rattle.std.specs.List.{filter_map}
use Rattle.thing_handler.specs.Handler.{forgotten}
use Rattle.servient_trace.specs.Trace.{Sighting, Outside, outside, Shows}

-- ---- what is shown in sections

-- One thing that the outside shows.
pub data Shown : Type 0 where
  saw : Sighting → Shown
  -- the handlers forgot their turns
  forgot : Shown

-- the part of this that was seen, in order: the trace of the machine
abbrev pub seen_of : Shown → Option Sighting
seen_of (saw sighting) = Some sighting
seen_of forgot = None

abbrev pub seen_in : List Shown → List Sighting
seen_in = filter_map seen_of

-- these were seen, and nothing was forgotten
abbrev pub shown_of : List Sighting → List Shown
shown_of = map saw

-- the outside once the handlers forgot their turns
abbrev pub after_forgetting : Outside → Outside
after_forgetting w = outside w.net (map forgotten w.slots)

-- From one time to another this is shown: one section, or one after which the handlers forgot, and then others.
pub data ShowsInSections : Outside → Outside → List Shown → Type 0 where
  section : (before now : Outside) (shown : List Shown) (seen : List Sighting) → shown ≡ shown_of seen → Shows before now seen
      → ShowsInSections before now shown
  forgets : (before middle now : Outside) (shown rest : List Shown) (seen : List Sighting) → shown ≡ shown_of seen ++ forgot ∷ rest
      → Shows before middle seen → ShowsInSections (after_forgetting middle) now rest → ShowsInSections before now shown
