-- The endpoints to which a servient sends datagrams: those that spoke to it.
use Rattle.std.specs.Prelude.{◌≡◌, ℕ, List, ◌∷◌, ◌++◌, Contains, Option}
use Rattle.coap_msg.specs.declared.endpoint.Endpoint.{Endpoint}
use Rattle.servient_outside.specs.declared.net.What.TheVariants as what
use Rattle.servient_outside.specs.declared.net.EventWithBytes.{EventWithBytes}
use Rattle.servient_outside.specs.declared.net.Act.TheVariants as act
use Rattle.servient_outside.specs.Network.{heard, did}
use Rattle.servient_trace.specs.Trace.{Sighting, at_network}
use Rattle.servient_core.specs.Machine.{Site, State, start, Run}

-- a datagram came from this endpoint
pub record HasSpoken (from : Endpoint) (seen : List Sighting) : Type 0 where
  pub event : EventWithBytes
  pub size : ℕ
  pub came : Contains seen (at_network (heard event))
  pub is_its : event.event.what ≡ what.Datagram from size

-- Each datagram that is sent in a run goes to an endpoint from which one came in that run before.
abbrev pub DatagramsGoToAskers : Type 0
DatagramsGoToAskers =
    (site : Site) (exchanges : ℕ) (epoch : Option ℕ) (took : List EventWithBytes) (seen : List Sighting) (s : State) → Run site took (start site exchanges epoch) seen s
    → (before later : List Sighting) (to : Endpoint) (bytes : List ℕ) → seen ≡ before ++ at_network (did (act.Datagram to bytes)) ∷ later → HasSpoken to before
