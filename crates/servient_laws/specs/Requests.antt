-- A run acts on nothing at a CoAP request that is a duplicate, or that comes while as many exchanges live as may. All
-- that came in the run says which requests were admitted (coap_exchange/specs/Admission.antt).
use Rattle.std.specs.Prelude.{◌≡◌, ◌⊎◌, ◌≤◌, ℕ, max, length, true, Option, List, [], ◌∷◌, ◌++◌}
use Rattle.coap_msg.specs.declared.endpoint.Endpoint.{Endpoint}
use Rattle.coap_msg.specs.declared.message.RequestType.{RequestType}
use Rattle.coap_msg.specs.declared.message.RequestType.TheVariants.{Confirmable, NonConfirmable}
use Rattle.coap_msg.specs.declared.constants.TheConstants.{LONGEST_DATAGRAM}
use Rattle.coap_msg.specs.Grammar.{CoapMessage, Spells}
use Rattle.coap_msg.specs.Requests.{request_type}
use Rattle.coap_exchange.specs.Admission.{Arrival, Verdict, duplicate, refused, verdict, is_duplicate_of, admitted_among}
use Rattle.coap_exchange.specs.Table.{at_moment}
use Rattle.coap_bind.specs.Server.{start as nothing_came, is_request, arrival}
use Rattle.coap_bind.specs.Duplicates.{OnlyTimePassed, WasRepliedTo}
use Rattle.servient_outside.specs.declared.net.What.TheVariants as what
use Rattle.servient_outside.specs.declared.net.EventWithBytes.{EventWithBytes}
use Rattle.servient_outside.specs.declared.net.Act.TheVariants as act
use Rattle.servient_outside.specs.Network.{heard, did}
use Rattle.servient_trace.specs.Trace.{Sighting, at_network, calls_in}
use Rattle.servient_core.specs.Machine.{Site, State, start, EventAndStep, EndsEvent, Run}
use Rattle.servient_core.specs.Runs.{AreRequestsFrom}

-- ---- a request in a run

-- an event brings this request from this endpoint, in a datagram that is looked at
pub record Brings (from : Endpoint) (m : CoapMessage) (e : EventWithBytes) : Type 0 where
  pub size : ℕ
  pub datagram : e.event.what ≡ what.Datagram from size
  pub short : length e.bytes ≤ LONGEST_DATAGRAM
  pub spells : Spells m e.bytes
  pub request : is_request m ≡ true

-- the moment at which the machine makes its step on it
abbrev pub moment_of : State → EventWithBytes → ℕ
moment_of s e = max s.moment e.event.moment

-- A run from the start, in which n exchanges may live, and then an event that brings a request, on which this is the
-- verdict after all the requests that came before.
pub record ComesTo (v : Verdict) (site : Site) (exchanges : ℕ) (epoch : Option ℕ) (from : Endpoint) (m : CoapMessage) (s : State) (e : EventWithBytes) (seen : List Sighting) (t : State) : Type 0 where
  pub took : List EventWithBytes
  pub before : List Sighting
  pub run : Run site took (start site exchanges epoch) before s
  pub history : List Arrival
  pub requests : AreRequestsFrom 0 took history
  pub brings : Brings from m e
  pub verdict_is : verdict exchanges (admitted_among exchanges history) (arrival from (moment_of s e) m) ≡ v
  pub step : EventAndStep site e s seen t

-- ---- what comes of it

-- No handler is called, and neither the Things nor the directory change; after what is sent to answer the request the
-- event ends as each does.
pub record ActsOnNothing (e : EventWithBytes) (s : State) (answer : List Sighting) (middle : State) (seen : List Sighting) (t : State) : Type 0 where
  pub calls : calls_in seen ≡ []
  pub thing : t.thing ≡ s.thing
  pub directory : t.directory ≡ s.directory
  pub rest : List Sighting
  pub whole : seen ≡ at_network (heard e) ∷ answer ++ rest
  pub ends : EndsEvent middle rest t

-- One datagram is sent back, in these bytes.
abbrev pub sends_back : Endpoint → List ℕ → List Sighting
sends_back from reply = at_network (did (act.Datagram from reply)) ∷ []

-- The answer to a duplicate of this type, where the request of this type was replied to in these bytes: the same, where
-- both are Confirmable, and else nothing.
abbrev pub repeated_answer : Endpoint → RequestType → RequestType → List ℕ → List Sighting
repeated_answer from Confirmable Confirmable reply = sends_back from reply
repeated_answer from Confirmable NonConfirmable reply = []
repeated_answer from NonConfirmable kind reply = []

-- A duplicate of a request that was admitted and lives: no exchange and no observer is added or taken away. The answer to
-- it, if there is one, is the very datagram that was sent for the first, and both are Confirmable. And where the first was
-- replied to, there is that answer if both are.
pub record ActsNoMore (exchanges : ℕ) (from : Endpoint) (m : CoapMessage) (s : State) (e : EventWithBytes) (seen : List Sighting) (t : State) : Type 0 where
  pub answer : List Sighting
  pub middle : State
  pub nothing : ActsOnNothing e s answer middle seen t
  pub coap : OnlyTimePassed (moment_of s e) s.coap middle.coap
  pub reply :
      (answer ≡ [])
      ⊎ ((first : Arrival) × (bytes : List ℕ) × (observers : ℕ) × (answer ≡ sends_back from bytes)
      × (is_duplicate_of (arrival from (moment_of s e) m) first ≡ true)
      × (request_type m.kind ≡ Confirmable) × (first.kind ≡ Confirmable)
      × WasRepliedTo (nothing_came exchanges observers) first bytes s.coap)
  pub kept : (first : Arrival) (bytes : List ℕ) (observers : ℕ) → is_duplicate_of (arrival from (moment_of s e) m) first ≡ true
      → WasRepliedTo (nothing_came exchanges observers) first bytes s.coap
      → answer ≡ repeated_answer from (request_type m.kind) first.kind bytes

-- One that finds as many exchanges alive as may: one datagram is sent back, and no exchange and no observer is added.
pub record IsTurnedAway (from : Endpoint) (s : State) (e : EventWithBytes) (seen : List Sighting) (t : State) : Type 0 where
  pub reply : List ℕ
  pub middle : State
  pub nothing : ActsOnNothing e s (sends_back from reply) middle seen t
  pub exchanges : middle.coap.exchanges ≡ at_moment (moment_of s e) s.coap.exchanges
  pub observers : middle.coap.observers ≡ s.coap.observers

-- ---- the sentences

-- "A CoAP request repeated within its exchange lifetime acts once" (RFC 7252, section 4.5).
abbrev pub RepeatsActOnce : Type 0
RepeatsActOnce =
    (site : Site) (exchanges : ℕ) (epoch : Option ℕ) (from : Endpoint) (m : CoapMessage) (s t : State) (e : EventWithBytes) (seen : List Sighting)
    → ComesTo duplicate site exchanges epoch from m s e seen t → ActsNoMore exchanges from m s e seen t

-- "A full exchange table acts on nothing."
abbrev pub FullTablesActOnNothing : Type 0
FullTablesActOnNothing =
    (site : Site) (exchanges : ℕ) (epoch : Option ℕ) (from : Endpoint) (m : CoapMessage) (s t : State) (e : EventWithBytes) (seen : List Sighting)
    → ComesTo refused site exchanges epoch from m s e seen t → IsTurnedAway from s e seen t
