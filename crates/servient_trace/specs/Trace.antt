-- The trace of the servient, as seen from outside: the happenings at the network, and the calls of device handlers, in
-- one list. With events and acts in two, a server could take two events before it answers the first.
use Rattle.std.specs.Prelude.{List, Option, Some, None}
use Rattle.std.specs.List.{filter_map}
use Rattle.thing_handler.specs.Handler.{Seen}
use Rattle.thing_handler.specs.Turns.{HandlerCall, RackShows}
use Rattle.servient_outside.specs.Network.{Happening, NetSeen, NetShows}

-- One thing that is seen.
pub data Sighting : Type 0 where
  at_network : Happening → Sighting
  at_handler : HandlerCall → Sighting

-- The happenings at the network, in order: std's `filter_map` of the part that one entry shows, which has its one law
-- on traces one after another.
abbrev pub happening_in : Sighting → Option Happening
happening_in (at_network h) = Some h
happening_in (at_handler call) = None

abbrev pub happened_in : List Sighting → List Happening
happened_in = filter_map happening_in

-- the calls of handlers, in order
abbrev pub call_in : Sighting → Option HandlerCall
call_in (at_network h) = None
call_in (at_handler call) = Some call

abbrev pub calls_in : List Sighting → List HandlerCall
calls_in = filter_map call_in

-- The outside at one time: the network, and each handler in the order of their slots.
pub record Outside : Type 0 where
  pub net : NetSeen
  pub slots : List Seen

abbrev pub outside : NetSeen → List Seen → Outside
outside net slots = record { net = net; slots = slots }

-- From one time to another this was seen and nothing else. The network shows what happened there, and the handlers show
-- their calls, each in order. How the two are interleaved neither of them shows, because they are two objects that know
-- nothing of one another: that a handler is called after its event was heard, the machine alone says.
pub record Shows (before now : Outside) (seen : List Sighting) : Type 0 where
  pub net : NetShows before.net now.net (happened_in seen)
  pub rack : RackShows before.slots now.slots (calls_in seen)
