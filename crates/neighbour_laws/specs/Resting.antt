-- A read moves nobody: what asks for something, but not to observe it, and emits nothing, and comes directly after another
-- event and at its moment, is answered, and nothing else is done to anybody.
use Rattle.std.specs.Prelude.{◌≡◌, ℕ, max, true, List, [], All, Option, None}
use Rattle.coap_msg.specs.declared.endpoint.Endpoint.{Endpoint}
use Rattle.coap_msg.specs.declared.message.Type4.TheVariants.{Con}
use Rattle.coap_msg.specs.Grammar.{CoapMessage, Spells}
use Rattle.coap_opts.specs.Reading.{asked as what_is_asked}
use Rattle.coap_bind.specs.Server.{is_request}
use Rattle.servient_outside.specs.declared.net.What.TheVariants as what
use Rattle.servient_outside.specs.declared.net.EventWithBytes.{EventWithBytes}
use Rattle.servient_outside.specs.declared.net.Act.TheVariants as act
use Rattle.servient_outside.specs.Network.{heard, did, broke}
use Rattle.servient_trace.specs.Trace.{Sighting, at_network, at_handler}
use Rattle.servient_core.specs.Machine.{Site, State, start, EventAndStep, Run}
use Rattle.servient_ends.specs.Ends.{emitted_by}

-- it came, a handler was called, or a datagram went to its endpoint
abbrev pub IsOf : Endpoint → Sighting → Type 0
IsOf from (at_network (heard e)) = Unit {0}
IsOf from (at_network (did (act.Datagram to bytes))) = to ≡ from
IsOf from (at_network (did (act.Sent c bytes))) = ⊥
IsOf from (at_network (did (act.Closed c))) = ⊥
IsOf from (at_network (did (act.Listened place))) = ⊥
IsOf from (at_network (did (act.Dialled host port c))) = ⊥
IsOf from (at_network (did (act.Looked host port to))) = ⊥
IsOf from (at_network (broke call)) = ⊥
IsOf from (at_handler call) = Unit {0}

-- what these bytes say is a Confirmable request without Observe
abbrev pub IsPlain : List ℕ → Type 0
IsPlain bytes = (m : CoapMessage) → Spells m bytes → (m.kind ≡ Con) × (is_request m ≡ true) × ((what_is_asked m).observe ≡ None)

-- Of the state the Things' alone changes, and the exchanges, the bodies and the parts of the CoAP server (of which
-- `neighbours_do_not_matter` says that those of others stay).
pub record MovesNobody (from : Endpoint) (seen : List Sighting) (s t : State) : Type 0 where
  pub moment : t.moment ≡ s.moment
  pub http : t.http ≡ s.http
  pub observers : t.coap.observers ≡ s.coap.observers
  pub next : t.coap.next_id ≡ s.coap.next_id
  pub directory : t.directory ≡ s.directory
  pub own : All (IsOf from) seen

abbrev pub ReadsMoveNobody : Type 0
ReadsMoveNobody =
    (site : Site) (exchanges : ℕ) (epoch : Option ℕ) (took : List EventWithBytes) (before seen : List Sighting) (e : EventWithBytes) (from : Endpoint) (size : ℕ) (s t : State)
    → Run site took (start site exchanges epoch) before s → (step : EventAndStep site e s seen t) → e.event.what ≡ what.Datagram from size → max s.moment e.event.moment ≡ s.moment → IsPlain e.bytes
    → emitted_by site e.event.what e.bytes _ step.other.first step.other.mid step.other.one ≡ [] → MovesNobody from seen s t
