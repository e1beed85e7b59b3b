-- The trace of a turn of the world of both ends: the happenings at the servient, and the values that the client takes.
use Rattle.std.specs.Prelude.{◌≡◌, ℕ, List, [], ◌∷◌, ◌++◌, Option, Some, None, slice_get}
use Rattle.coap_msg.specs.declared.endpoint.Endpoint.{Endpoint}
use Rattle.coap_client.specs.declared.news.News.{News}
use Rattle.coap_client.specs.declared.news.News.TheVariants as news
use Rattle.servient_outside.specs.declared.net.What.{What}
use Rattle.servient_outside.specs.declared.net.What.TheVariants as what
use Rattle.servient_trace.specs.Trace.{Sighting}
use Rattle.servient_core.specs.Machine.{Site}
use Rattle.servient_world.specs.World.{Datagram}
use Rattle.servient_ends.specs.Ends.{EndsState, Turn, asks_next, does_due, delivers, passes, happens, Arrives, too_late, to_client, to_servient, ArrivesIfSent, FromElsewhere, comes_from_elsewhere, is_of_an_end, Besides, Takes}
use Rattle.servient_rehearsal.specs.declared.world.TakenValue.{TakenValue}
use Rattle.servient_rehearsal.specs.Noted.{last_registration}

-- ---- at the servient

abbrev pub seen_on_arrival : (site : Site) (d : Datagram) (p q : EndsState) → Arrives site d p q → List Sighting
seen_on_arrival site d p q (too_late late at) = []
seen_on_arrival site d p q (to_client may to at) = []
seen_on_arrival site d p q (to_servient may to hears) = hears.seen

abbrev pub seen_if_sent : (site : Site) (o : Option Datagram) (p q : EndsState) → ArrivesIfSent site o p q → List Sighting
seen_if_sent site None p q at = []
seen_if_sent site (Some d) p q arrives = seen_on_arrival site d p q arrives

abbrev pub seen_from_elsewhere : (site : Site) (from : Endpoint) (size : ℕ) (bytes : List ℕ) (p q : EndsState) → FromElsewhere site from size bytes p q → List Sighting
seen_from_elsewhere site from size bytes p q (comes_from_elsewhere apart hears) = hears.seen
seen_from_elsewhere site from size bytes p q (is_of_an_end is at) = []

abbrev pub seen_besides : (site : Site) (w : What) (bytes : List ℕ) (p q : EndsState) → Besides site w bytes p q → List Sighting
seen_besides site (what.Datagram from size) bytes p q b = seen_from_elsewhere site from size bytes p q b
seen_besides site (what.Opened c) bytes p q b = b.seen
seen_besides site (what.Bytes c size) bytes p q b = b.seen
seen_besides site (what.Ended c) bytes p q b = b.seen
seen_besides site what.Tick bytes p q b = b.seen
seen_besides site what.Stop bytes p q b = b.seen

-- the trace of the servient in a turn
abbrev pub seen_by : (site : Site) (m : Turn) (p q : EndsState) → Takes site m p q → List Sighting
seen_by site (asks_next a) p q takes = []
seen_by site does_due p q takes = []
seen_by site (delivers i) p q takes = seen_if_sent site (slice_get p.world.sent i) p q takes
seen_by site (passes n) p q takes = []
seen_by site (happens w bytes) p q takes = seen_besides site w bytes p q takes

-- ---- at the client

-- the value of news, for which this ask registered
abbrev pub values_in : ℕ → News → List TakenValue
values_in k (news.Value payload) = record { ask = k; value = payload.now } ∷ []
values_in k (news.Answered code block payload) = []
values_in k news.Old = []
values_in k news.Reset = []
values_in k news.Nothing = []

abbrev pub values_on_arrival : (site : Site) (d : Datagram) (p q : EndsState) → Arrives site d p q → List TakenValue
values_on_arrival site d p q (too_late late at) = []
values_on_arrival site d p q (to_client may to at) = values_in (last_registration p.world.asks) at.does.told.news
values_on_arrival site d p q (to_servient may to hears) = []

abbrev pub values_if_sent : (site : Site) (o : Option Datagram) (p q : EndsState) → ArrivesIfSent site o p q → List TakenValue
values_if_sent site None p q at = []
values_if_sent site (Some d) p q arrives = values_on_arrival site d p q arrives

-- The values that the client takes in a turn, each with the number of the ask that registered for it: a client has one
-- observation at most, which the last registration began (RFC 7641, section 3.1).
abbrev pub values_by : (site : Site) (m : Turn) (p q : EndsState) → Takes site m p q → List TakenValue
values_by site (asks_next a) p q takes = []
values_by site does_due p q takes = []
values_by site (delivers i) p q takes = values_if_sent site (slice_get p.world.sent i) p q takes
values_by site (passes n) p q takes = []
values_by site (happens w bytes) p q takes = []

-- ---- both

-- Both ends at a moment, and the values that were taken so far.
pub record Played : Type 0 where
  pub ends : EndsState
  pub values : List TakenValue

-- A turn, with what is seen of it.
pub record TakesTurn (site : Site) (m : Turn) (p : Played) (seen : List Sighting) (q : Played) : Type 0 where
  pub takes : Takes site m p.ends q.ends
  pub saw : seen ≡ seen_by site m p.ends q.ends takes
  pub values : q.values ≡ p.values ++ values_by site m p.ends q.ends takes
