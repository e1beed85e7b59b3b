-- The counts of a run: the datagrams that came, those that were sent, and the turns of the handlers.
use Rattle.std.specs.Prelude.{ℕ, ◌+◌, ◌==◌, Bool, true, false, List, [], ◌∷◌, ◌++◌, length, slice_get, codes, decimal, Option, Some, None}
use Rattle.std.specs.List.{filter}
use Rattle.coap_msg.specs.declared.constants.TheConstants.{SERVICE_UNAVAILABLE}
use Rattle.thing_handler.specs.Handler.{Seen}
use Rattle.thing_handler.specs.Turns.{turns_in}
use Rattle.servient_outside.specs.declared.net.What.{What}
use Rattle.servient_outside.specs.declared.net.What.TheVariants as what
use Rattle.servient_outside.specs.declared.net.EventWithBytes.{EventWithBytes}
use Rattle.servient_outside.specs.declared.net.Act.{Act}
use Rattle.servient_outside.specs.declared.net.Act.TheVariants as act
use Rattle.servient_outside.specs.Network.{acts_in, events_in}
use Rattle.servient_trace.specs.Trace.{Sighting, happened_in, calls_in}
use Rattle.servient_cli.specs.declared.counting.Counts.{Counts}

-- a datagram came
abbrev pub is_datagram : What → Bool
is_datagram (what.Opened c) = false
is_datagram (what.Bytes c count) = false
is_datagram (what.Ended c) = false
is_datagram (what.Datagram from count) = true
is_datagram what.Tick = false
is_datagram what.Stop = false

abbrev pub came : List EventWithBytes → List EventWithBytes
came = filter (λ e. is_datagram e.event.what)

-- a datagram was sent
abbrev pub is_sent : Act → Bool
is_sent (act.Sent c bytes) = false
is_sent (act.Closed c) = false
is_sent (act.Datagram to bytes) = true
is_sent (act.Listened place) = false
is_sent (act.Dialled host port c) = false
is_sent (act.Looked host port endpoint) = false

-- the code of a message is its second byte (RFC 7252, section 3)
abbrev pub has_code : ℕ → Option ℕ → Bool
has_code code None = false
has_code code (Some byte) = byte == code

-- A datagram with the code 5.03, Service Unavailable (RFC 7252, section 5.9.3.4), was sent. A full table of exchanges
-- is answered so.
abbrev pub is_unavailable : Act → Bool
is_unavailable (act.Sent c bytes) = false
is_unavailable (act.Closed c) = false
is_unavailable (act.Datagram to bytes) = has_code SERVICE_UNAVAILABLE (slice_get bytes 1)
is_unavailable (act.Listened place) = false
is_unavailable (act.Dialled host port c) = false
is_unavailable (act.Looked host port endpoint) = false

-- the counts of some datagrams that came, of some acts, and of some turns
abbrev pub counts_by : ℕ → List Act → ℕ → Counts
counts_by datagrams acts turns =
    record { datagrams = datagrams; sent = length (filter is_sent acts); full = length (filter is_unavailable acts); turns = turns }

-- the counts of a run
abbrev pub counts_in : List Sighting → Counts
counts_in ran =
    counts_by (length (came (events_in (happened_in ran)))) (acts_in (happened_in ran)) (length (turns_in (calls_in ran)))

-- the line on the counts of a storm
abbrev pub storm_line : Counts → List ℕ
storm_line c =
    codes "storm datagrams " ++ decimal c.datagrams ++ codes " sent " ++ decimal c.sent ++ codes " full " ++ decimal c.full
    ++ codes " turns " ++ decimal c.turns ++ codes "\n"

-- ---- how code counts turns

-- the number of turns that all handlers have kept
abbrev pub turns_kept : List Seen → ℕ
turns_kept [] = 0
turns_kept (h ∷ slots) = length h.turns + turns_kept slots
