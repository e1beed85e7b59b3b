-- One operation on another Thing (TD 1.1, section 5.3.4.2), over HTTP or over CoAP: what is done, and how it ends. The
-- form's host and port are dialled or looked up once. Over HTTP one request is sent. Over CoAP the client sends one, or one
-- for each block of what is handed in and of the answer, each again where it has to, acknowledges what it is answered, and
-- asks for no further values at the end of an observation. A server is asked for its links (RFC 6690) in the same way.
use Rattle.std.specs.Prelude.{◌≡◌, ℕ, List, [], ◌∷◌, ◌++◌, Option, None, option_map}
use Rattle.std.specs.Borrow.{Bor}
use Rattle.wot_json.specs.Tree.{Json}
use Rattle.wot_json.specs.Json.{text_of}
use Rattle.wot_json.specs.Meaning.{json_of}
use Rattle.wot_forms.specs.declared.scheme.Scheme.{Scheme}
use Rattle.wot_forms.specs.declared.scheme.Scheme.TheVariants as scheme
use Rattle.wot_consumer.specs.declared.chosen.Chosen.{Chosen}
use Rattle.wot_consumer.specs.Judgement.{AcceptsInput}
use Rattle.wot_consumer.specs.Messages.{request_bytes}
use Rattle.wot_consumer.specs.Discovery.{server_url}
use Rattle.coap_msg.specs.declared.endpoint.Endpoint.{Endpoint}
use Rattle.coap_client.specs.declared.fault.ClientFault.TheVariants as client_fault
use Rattle.coap_client.specs.Exchange.{IsNew, IsRefused}
use Rattle.servient_outside.specs.declared.net.Act.TheVariants as act
use Rattle.servient_outside.specs.declared.net.Dialled.TheVariants as dialled
use Rattle.servient_outside.specs.declared.net.Found.TheVariants as found
use Rattle.servient_outside.specs.Network.{Happening, did, dials_as, finds_as}
use Rattle.network_consumer.specs.declared.operation.ThingOperation.{ThingOperation}
use Rattle.network_consumer.specs.declared.purpose.Purpose.{Purpose}
use Rattle.network_consumer.specs.declared.purpose.Purpose.TheVariants as purpose
use Rattle.network_consumer.specs.declared.consumed.Consumed.{Consumed}
use Rattle.network_consumer.specs.declared.consumed.Consumed.TheVariants.{Other, Failed, NoMemory}
use Rattle.network_consumer.specs.declared.consumed.ConsumedOutcome.TheVariants as outcome
use Rattle.network_consumer.specs.declared.waiting.Waiting.TheVariants.{Http, Coap}
use Rattle.network_consumer.specs.declared.coap_waiting.CoapWaiting.{CoapWaiting}
use Rattle.network_consumer.specs.Deeds.{Deed, happens, happen}
use Rattle.network_consumer.specs.Answers.{count_of}
use Rattle.network_consumer.specs.Asking.{first_blocks}
use Rattle.network_consumer.specs.Blockwise.{nothing_joined}
use Rattle.network_consumer.specs.HttpWaiting.{waiting_on}
use Rattle.network_consumer.specs.CoapWaiting.{client_now, asking_with, IsSent}
use Rattle.network_consumer.specs.Waiting.{Awaits, most_events}

-- ## Over HTTP

-- the deeds where these bytes are to be sent, and the end
pub data AsksByHttp (p : Purpose) (c : Chosen) (request : List ℕ) (deeds : List Deed) (r : Consumed) : Type 0 where
  not_dialled : deeds ≡ happen (dials_as c.host c.port dialled.Failed) → r ≡ Failed → AsksByHttp p c request deeds r
  dial_memory : deeds ≡ happen (dials_as c.host c.port dialled.NoMemory) → r ≡ NoMemory → AsksByHttp p c request deeds r
  request_memory : deeds ≡ [] → r ≡ NoMemory → AsksByHttp p c request deeds r
  is_sent : (k : ℕ) (rest : List Deed) → Awaits p c r most_events (Http (waiting_on k)) rest
      → deeds ≡ happen (dials_as c.host c.port (dialled.Connected k)) ++ happens (did (act.Sent k request)) ∷ rest → AsksByHttp p c request deeds r

-- ## Over CoAP

-- nothing came yet, of the one or more values that are awaited, the client did nothing yet, and this is handed in, if
-- anything is
pub record IsFresh (p : Purpose) (input : Option (List ℕ)) (peer : Endpoint) (w : CoapWaiting) : Type 0 where
  pub new : IsNew 0 w.client
  pub moment : w.moment ≡ 0
  pub peer_is : w.peer ≡ peer
  pub left : w.left ≡ count_of p
  pub transfer : w.transfer ≡ nothing_joined input

-- the deeds where a peer is to be asked, and the end: the first request is sent, where it fits into a message
pub data AsksPeer (p : Purpose) (c : Chosen) (w : CoapWaiting) (deeds : List Deed) (r : Consumed) : Type 0 where
  is_long : IsRefused (client_now w) w.peer (asking_with c w (first_blocks w.transfer.input)) client_fault.NoRoom → deeds ≡ [] → r ≡ Other outcome.Long
      → AsksPeer p c w deeds r
  is_asked : (first : List Happening) (v : CoapWaiting) (rest : List Deed) → IsSent c w (first_blocks w.transfer.input) first v
      → Awaits p c r most_events (Coap v) rest → deeds ≡ happen first ++ rest → AsksPeer p c w deeds r

-- the deeds where a peer is to be found and asked, and this value is handed in, if any is, and the end
pub data AsksByCoap (p : Purpose) (c : Chosen) (input : Option (List ℕ)) (deeds : List Deed) (r : Consumed) : Type 0 where
  not_found : deeds ≡ happen (finds_as c.host c.port found.Failed) → r ≡ Failed → AsksByCoap p c input deeds r
  find_memory : deeds ≡ happen (finds_as c.host c.port found.NoMemory) → r ≡ NoMemory → AsksByCoap p c input deeds r
  client_memory : deeds ≡ [] → r ≡ NoMemory → AsksByCoap p c input deeds r
  is_found : (peer : Endpoint) (w : CoapWaiting) (rest : List Deed) → IsFresh p input peer w → AsksPeer p c w rest r
      → deeds ≡ happen (finds_as c.host c.port (found.At peer)) ++ rest → AsksByCoap p c input deeds r

-- ## The whole

-- the deeds by a form of this scheme, with this body where there is one, and the end
abbrev pub AsksBy : Purpose → Chosen → Option (List ℕ) → Scheme → List Deed → Consumed → Type 0
AsksBy p c body scheme.Http deeds r = AsksByHttp p c (request_bytes c body) deeds r
AsksBy p c body scheme.Coap deeds r = AsksByCoap p c body deeds r

-- the same, unless the body is out of memory
pub data AsksOrNot (p : Purpose) (c : Chosen) (body : Option (List ℕ)) (deeds : List Deed) (r : Consumed) : Type 0 where
  body_memory : deeds ≡ [] → r ≡ NoMemory → AsksOrNot p c body deeds r
  has_body : AsksBy p c body c.scheme deeds r → AsksOrNot p c body deeds r

-- the value that is handed in
abbrev pub input_of : ThingOperation → Option Json
input_of o = option_map (λ v. json_of v.now) o.input

-- the value handed in is accepted
abbrev pub TakesInput : ThingOperation → Type 0
TakesInput o = AcceptsInput (json_of o.tree.now) o.op o.name.now (input_of o)

-- One operation by what was chosen for it: what is done, and how it ends.
pub data Consumes (o : ThingOperation) (c : Chosen) (deeds : List Deed) (r : Consumed) : Type 0 where
  is_refused : ¬ (TakesInput o) → deeds ≡ [] → r ≡ Other outcome.Input → Consumes o c deeds r
  input_memory : deeds ≡ [] → r ≡ NoMemory → Consumes o c deeds r
  is_done : TakesInput o → AsksOrNot (purpose.Operation o) c (option_map text_of (input_of o)) deeds r → Consumes o c deeds r

-- ## Discovery

-- Asking a server for its links (RFC 6690, section 4): the deeds, and the end. The request is a GET over CoAP, and the
-- lines of the Things to which the links lead are printed.
pub data Discovers (c : Chosen) (deeds : List Deed) (r : Consumed) : Type 0 where
  discovery_memory : deeds ≡ [] → r ≡ NoMemory → Discovers c deeds r
  has_asked : (server : Bor (List ℕ)) → server.now ≡ server_url c.host c.port → AsksByCoap (purpose.Discovery server) c None deeds r → Discovers c deeds r
