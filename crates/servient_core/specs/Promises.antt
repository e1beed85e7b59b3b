-- Consequences of the machine for duplicates of requests and for a table that is full.
use Rattle.std.specs.Prelude.{◌≡◌, ◌≤◌, ℕ, true, None, List, [], ◌∷◌, length, Contains}
use Rattle.coap_msg.specs.declared.constants.TheConstants.{LONGEST_DATAGRAM}
use Rattle.coap_msg.specs.declared.endpoint.Endpoint.{Endpoint}
use Rattle.coap_msg.specs.Grammar.{CoapMessage, Spells}
use Rattle.coap_exchange.specs.Admission.{Arrival, is_duplicate_of, admitted_among}
use Rattle.coap_exchange.specs.Table.{at_moment, duplicated_exchange}
use Rattle.coap_bind.specs.Server.{is_request, arrival}
use Rattle.coap_bind.specs.Laws.{Did}
use Rattle.servient_outside.specs.declared.net.Act.TheVariants as act
use Rattle.servient_outside.specs.Network.{did}
use Rattle.servient_trace.specs.Trace.{Sighting, at_network, calls_in}
use Rattle.servient_core.specs.Machine.{Site, State, HearsDatagram}

-- no handler was called, and nothing of the Things and of the directory changed
pub record ActsOnNothing (s : State) (seen : List Sighting) (t : State) : Type 0 where
  pub calls : calls_in seen ≡ []
  pub thing : t.thing ≡ s.thing
  pub directory : t.directory ≡ s.directory

-- A datagram with a duplicate of a request that was admitted and lives acts on nothing (RFC 7252, section 4.5).
abbrev pub DuplicatesActOnNothing : Type 0
DuplicatesActOnNothing =
    (site : Site) (from : Endpoint) (bytes : List ℕ) (s : State) (seen : List Sighting) (t : State) (m : CoapMessage) (capacity : ℕ) (history : List Arrival) (earlier : Arrival)
    → HearsDatagram site from bytes s seen t → Did capacity history s.coap → s.coap.exchanges.moment ≤ s.moment → Spells m bytes
    → Contains (admitted_among capacity history) earlier → is_duplicate_of (arrival from s.moment m) earlier ≡ true → ActsOnNothing s seen t

-- a request that is no duplicate, where as many exchanges live as may
pub record IsOverfull (from : Endpoint) (m : CoapMessage) (s : State) : Type 0 where
  pub request : is_request m ≡ true
  pub no_duplicate : duplicated_exchange (arrival from s.moment m) (at_moment s.moment s.coap.exchanges) ≡ None
  pub capacity : s.coap.exchanges.capacity ≤ length (at_moment s.moment s.coap.exchanges).exchanges

-- A datagram with such a request is answered once, acts on nothing and is no exchange.
abbrev pub FullTableActsOnNothing : Type 0
FullTableActsOnNothing =
    (site : Site) (from : Endpoint) (bytes : List ℕ) (s : State) (seen : List Sighting) (t : State) (m : CoapMessage)
    → HearsDatagram site from bytes s seen t → length bytes ≤ LONGEST_DATAGRAM → Spells m bytes → IsOverfull from m s
    → ActsOnNothing s seen t × (t.coap.exchanges ≡ at_moment s.moment s.coap.exchanges)
    × (reply : List ℕ) × (seen ≡ at_network (did (act.Datagram from reply)) ∷ [])
