-- Polling all events, as one event after another.
use Rattle.std.specs.Prelude.{◌≡◌, List, ◌++◌, map, Option, Some, None}
use Rattle.std.specs.List.{filter_map}
use Rattle.servient_base.specs.Moves.{Each}
use Rattle.thing_handler.specs.Turns.{HandlerCall}
use Rattle.thing_site.specs.Site.{Placed, Site, events_of}
use Rattle.thing_state.specs.State.{State, Emission}
use Rattle.thing_core.specs.Thing.{PollsEvent, Polls}

-- a trace of polls whose emissions are handed out: calls of handlers, and the emissions as they are handed out
pub data TickSeen : Type 0 where
  calls : HandlerCall → TickSeen
  hands_out : Emission → TickSeen

-- the call, and the emission, that one of these is
abbrev pub call_in : TickSeen → Option HandlerCall
call_in (calls c) = Some c
call_in (hands_out e) = None

abbrev pub emission_in : TickSeen → Option Emission
emission_in (calls c) = None
emission_in (hands_out e) = Some e

-- the calls among these, and the emissions, each in order
abbrev pub calls_in : List TickSeen → List HandlerCall
calls_in = filter_map call_in

abbrev pub emissions_in : List TickSeen → List Emission
emissions_in = filter_map emission_in

-- an event is polled, and then its emissions are handed out
abbrev pub PollsAndHandsOut : Placed → State → List TickSeen → State → Type 0
PollsAndHandsOut p s seen t =
    (emissions : List Emission) × (made : List HandlerCall) × PollsEvent p emissions s made t × (seen ≡ map calls made ++ map hands_out emissions)

-- all events are, one after another, in the order of Things and names
abbrev pub PollsInTurn : Site → State → List TickSeen → State → Type 0
PollsInTurn site = Each PollsAndHandsOut (events_of site.things)

-- All that is done one event after another is done too where all events are polled first and all emissions are handed
-- out afterwards, and the other way round: with the same calls, the same emissions, each in the same order, and the
-- same state in the end.
abbrev pub IsSameInTurn : Site → Type 0
IsSameInTurn site =
    ((s t : State) (seen : List TickSeen) → PollsInTurn site s seen t → Polls site (emissions_in seen) s (calls_in seen) t)
    × ((s t : State) (made : List HandlerCall) (emissions : List Emission) → Polls site emissions s made t
    → (seen : List TickSeen) × PollsInTurn site s seen t × (calls_in seen ≡ made) × (emissions_in seen ≡ emissions))
