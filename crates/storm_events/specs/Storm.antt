-- The storm: a load of events that a seed and their number determine, so that anybody can repeat it.
--
-- For each event three numbers are drawn: by how much the moment grows, what comes, and from which endpoint. A PUT and a
-- repeat draw one number more.
use Rattle.std.specs.Prelude.{ℕ, zero, suc, ◌+◌, ◌%◌, ◌==◌, nat_lt, List, [], ◌∷◌, ◌++◌, length, slice_get, Option, Some, None, if◌then◌else◌}
use Rattle.coap_msg.specs.declared.endpoint.Endpoint.{Endpoint}
use Rattle.servient_outside.specs.declared.net.What.TheVariants as what
use Rattle.servient_outside.specs.declared.net.EventWithBytes.{EventWithBytes}
use Rattle.storm_events.specs.declared.datagram.Asks.TheVariants.{ConfirmableGet, ConfirmablePut, NonConfirmableGet}
use Rattle.storm_events.specs.declared.datagram.Datagram.{Datagram}
use Rattle.storm_events.specs.declared.choice.Choice.{Choice}
use Rattle.storm_events.specs.declared.choice.Choice.TheVariants.{Get, Put, GetOnce, Repeat, Tick}
use Rattle.storm_events.specs.declared.coming.Coming.{Coming}
use Rattle.storm_events.specs.declared.storm.Storm.{Storm}
use Rattle.storm_events.specs.Generator.{number_after, drawn}
use Rattle.storm_events.specs.Datagrams.{bytes_of}

-- ---- the event that comes

-- the choice by a number below 8
abbrev pub choice_of : ℕ → Choice
choice_of c =
    if nat_lt c 3 then Get  -- 0, 1, 2
    else if nat_lt c 5 then Put  -- 3, 4
    else if c == 5 then GetOnce  -- 5
    else if c == 6 then Repeat  -- 6
    else Tick  -- 7

-- a datagram came, or none, where the generator has come to this number
abbrev pub comes : ℕ → Option Datagram → Coming
comes x datagram = record { number = x; datagram = datagram }

-- One of the datagrams that came so far comes again, from its own endpoint: that with the number drawn, of so many as
-- there are, duplicates among them, counted from 0. Where none came yet nothing is drawn, and time goes by.
abbrev pub again : ℕ → List Datagram → Coming
again x [] = comes x None
again x (first ∷ others) =
    comes (number_after x) (slice_get (first ∷ others) (drawn (number_after x) % length (first ∷ others)))

-- The event of a choice, where the generator is at x, with this message ID from this endpoint, if it is a new request.
abbrev pub coming_by : Choice → ℕ → ℕ → Endpoint → List Datagram → Coming
coming_by Get x id from so_far = comes x (Some (record { from = from; id = id; asks = ConfirmableGet }))
coming_by Put x id from so_far =
    comes (number_after x) (Some (record { from = from; id = id; asks = ConfirmablePut (drawn (number_after x) % 128) }))
coming_by GetOnce x id from so_far = comes x (Some (record { from = from; id = id; asks = NonConfirmableGet }))
coming_by Repeat x id from so_far = again x so_far
coming_by Tick x id from so_far = comes x None

-- ---- event by event

-- the event at a moment: the datagram, or time goes by
abbrev pub event_of : ℕ → Option Datagram → EventWithBytes
event_of moment None = record { event = record { moment = moment; what = what.Tick }; bytes = [] }
event_of moment (Some d) =
    record { event = record { moment = moment; what = what.Datagram d.from (length (bytes_of d)) }; bytes = bytes_of d }

abbrev pub with_datagram : List Datagram → Option Datagram → List Datagram
with_datagram so_far None = so_far
with_datagram so_far (Some d) = so_far ++ d ∷ []

-- it comes at this moment, and is the last of the storm so far
abbrev pub joined : Storm → ℕ → Coming → Storm
joined s moment c =
    record {
      number = c.number;
      moment = moment;
      datagrams = with_datagram s.datagrams c.datagram;
      events = s.events ++ event_of moment c.datagram ∷ [];
    }

-- The host of the endpoint that a number names: 1 to 4. Its port is CoAP's (RFC 7252, section 6.1).
abbrev pub endpoint_of : ℕ → Endpoint
endpoint_of n = record { host = 1 + n % 4; port = 5683 }

-- event i, where the three numbers of the generator are these
abbrev pub with_event_by : ℕ → Storm → ℕ → ℕ → ℕ → Storm
with_event_by i s first second third =
    joined s (s.moment + drawn first % 500)
    (coming_by (choice_of (drawn second % 8)) third (i % 65536) (endpoint_of (drawn third)) s.datagrams)

-- event i comes, counted from 0
abbrev pub with_event : ℕ → Storm → Storm
with_event i s =
    with_event_by i s (number_after s.number) (number_after (number_after s.number)) (number_after (number_after (number_after s.number)))

-- ---- the whole

-- the state of the storm after so many events: at first the generator is at the seed, and the moment is 0
abbrev pub storm_after : ℕ → ℕ → Storm
storm_after seed zero = record { number = seed; moment = 0; datagrams = []; events = [] }
storm_after seed (suc i) = with_event i (storm_after seed i)

-- its first n events
abbrev pub events_of : ℕ → ℕ → List EventWithBytes
events_of seed n = (storm_after seed n).events
