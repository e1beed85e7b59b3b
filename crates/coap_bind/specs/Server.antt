-- A CoAP server as one machine (RFC 7252, sections 4.2 to 4.5 and 5.4; RFC 7641; RFC 7959): its contents, and the
-- effect of each datagram, each answer, each new value and each notification on them.
--
-- Its contents are `Server` of src/server.rt: the `exchanges` that live, with the replies that are kept
-- (coap_exchange/specs/Table.antt), the `observers` (coap_observe/specs/Watching.antt), `next_id`, the message ID of the
-- next message that isn't an acknowledgement, the `bodies` of responses that are kept for their later blocks, and the
-- `parts`, the bodies of requests as far as their blocks came (coap_blocks/specs); and `links`, the text of the links
-- that it was given. The meaning of a request is in coap_opts/specs/Reading.antt, its wish for the observers in
-- Observing.antt, its wish for blocks in Blocks.antt, and the links are in Links.antt; replies on the wire are in
-- Writing.antt.
--
-- The state is that of the code, because a second relation between the code and a history would say no more: the law
-- `ExchangesAreOfTheHistory` ties the table to the requests that came.
use Rattle.std.specs.Prelude.{◌≡◌, ◌≢◌, ℕ, ◌+◌, ◌%◌, ◌==◌, ◌&&◌, nat_lt, Bool, true, false, List, [], Option, Some, None, option_map, slice_get, if◌then◌else◌}
use Rattle.std.specs.List.{remove}
use Rattle.coap_msg.specs.declared.block.Block.{Block}
use Rattle.coap_msg.specs.declared.endpoint.Endpoint.{Endpoint}
use Rattle.coap_msg.specs.declared.message.MsgFault.{MsgFault}
use Rattle.coap_msg.specs.declared.message.Type4.{Type4}
use Rattle.coap_msg.specs.declared.message.Type4.TheVariants.{Con, Non, Ack, Rst}
use Rattle.coap_msg.specs.declared.message.RequestType.{RequestType}
use Rattle.coap_msg.specs.declared.message.RequestType.TheVariants.{Confirmable, NonConfirmable}
use Rattle.coap_msg.specs.Grammar.{CoapMessage, Spells, spelling}
use Rattle.coap_msg.specs.Faults.{HasMsgFault}
use Rattle.coap_msg.specs.Requests.{request_type}
use Rattle.coap_msg.specs.Empty.{empty_reply, rejection_of}
use Rattle.coap_msg.specs.declared.constants.TheConstants.{EMPTY, GET}
use Rattle.coap_exchange.specs.Admission.{Arrival}
use Rattle.coap_exchange.specs.Table.{Exchange, empty_table, at_moment, duplicated_exchange, with_reply, Meets}
use Rattle.coap_exchange.specs.declared.met.Met.{Met}
use Rattle.coap_exchange.specs.declared.met.Met.TheVariants.{Fresh, Repeat, Full}
use Rattle.coap_observe.specs.Watching.{Watching, none_watch, with_emission, with_acknowledgement, with_reset, Notifies}
use Rattle.coap_observe.specs.declared.notice.Notice.{Notice}
use Rattle.coap_blocks.specs.Bodies.{Body, body_for}
use Rattle.coap_blocks.specs.Parts.{Part, Arrival as BlockArrival, living, after_block, Gives}
use Rattle.coap_blocks.specs.declared.added.Added.{Added}
use Rattle.coap_blocks.specs.declared.added.Added.TheVariants.{Complete}
use Rattle.thing_ops.specs.declared.outcome.Outcome.{Outcome}
use Rattle.thing_ops.specs.declared.outcome.Outcome.TheVariants.{Memory}
use Rattle.coap_opts.specs.Reading.{AskSeen, faults_of, asked as what_is_asked}
use Rattle.coap_opts.specs.declared.fault.AskFault.TheVariants as fault
use Rattle.coap_bind.specs.declared.pending.PendingReply.{PendingReply}
use Rattle.coap_bind.specs.declared.server.Server.{Server}
use Rattle.coap_bind.specs.declared.blocks.BlockUse.{BlockUse}
use Rattle.coap_bind.specs.declared.blocks.BlockUse.TheVariants as blocks
use Rattle.coap_bind.specs.declared.blocks.BlockWish.{BlockWish}
use Rattle.coap_bind.specs.declared.blocks.BlockWish.TheVariants as wanted
use Rattle.coap_bind.specs.declared.observing.Observing.{Observing}
use Rattle.coap_bind.specs.Blocks.{wanted_of, use_of, answer_reply, bodies_after, block_reply, later_reply, added_reply}
use Rattle.coap_bind.specs.Links.{is_links_path, size_asked, links_reply, method_reply, observers_with_links, bodies_with_links}
use Rattle.coap_bind.specs.Observing.{observing_of, effect_of, Watches}
use Rattle.coap_bind.specs.Writing.{Reply, full_reply, proxy_reply, option_reply, reply_of, observed, ReplyHead, head_of, head_in, coap_reply}

-- A server to which nothing came yet, in which so many exchanges may live and so many observers may be. Its message IDs
-- begin at 0 and not at a random number (docs/DECISIONS.md, "CoAP").
abbrev pub start : ℕ → ℕ → Server
start exchanges observers = record { exchanges = empty_table exchanges; observers = none_watch observers; next_id = 0; bodies = []; parts = []; links = [] }

-- The treatment of a datagram.
pub data Heard : Type 0 where
  -- nothing
  ignored : Heard
  -- these bytes are sent back at once
  answered_at_once : List ℕ → Heard
  -- this is asked for, and has to be answered
  asked : AskSeen → PendingReply → Heard

-- ---- replies

-- the server after a message that used the next message ID (section 4.4)
abbrev pub with_next_id : Server → Server
with_next_id s = record s { next_id = (s.next_id + 1) % 65536 }

-- the server after a reply to a request of this type: one that isn't an acknowledgement used the next message ID
abbrev pub with_id_used : RequestType → Server → Server
with_id_used Confirmable s = s
with_id_used NonConfirmable s = with_next_id s

-- the server with the reply to a Confirmable request, which is kept for its duplicates (section
-- 4.2); that to any other isn't
abbrev pub with_kept : RequestType → ℕ → List ℕ → Server → Server
with_kept Confirmable slot bytes s = record s { exchanges = with_reply slot bytes s.exchanges }
with_kept NonConfirmable slot bytes s = s

-- A request that was admitted and got this slot is replied to in these bytes.
pub record Replies (r : Reply) (head : ReplyHead) (slot : ℕ) (bytes : List ℕ) (s t : Server) : Type 0 where
  pub bytes_are : bytes ≡ spelling (coap_reply r head s.next_id)
  pub after : t ≡ with_kept head.kind slot bytes (with_id_used head.kind s)

-- the server with these observers
abbrev pub with_observers : Watching → Server → Server
with_observers w s = record s { observers = w }

-- the server with these bodies, and with these parts
abbrev pub with_bodies : List Body → Server → Server
with_bodies bodies s = record s { bodies = bodies }

abbrev pub with_parts : List Part → Server → Server
with_parts parts s = record s { parts = parts }

-- the server with this text of its links
abbrev pub with_links : List ℕ → Server → Server
with_links text s = record s { links = text }

-- A request, for this target if it has one, has this outcome, and is answered in these bytes: first its sender is
-- registered or deregistered, and a body that is given in blocks is kept; then the reply says the sequence number of a
-- registration.
pub record Answers (ask : PendingReply) (o : Outcome) (target : Option ℕ) (bytes : List ℕ) (s t : Server) : Type 0 where
  pub observe : Option ℕ
  pub observers : Watching
  pub watches : Watches (effect_of ask.observing o target) ask.from ask.token s.observers observe observers
  pub replies : Replies (observed observe (answer_reply ask.blocks o)) (head_in ask) ask.slot bytes
      (with_bodies (bodies_after ask.blocks ask.from o s.bodies) (with_observers observers s)) t

-- ---- notifications (RFC 7641)

-- the server after a target got a new value
abbrev pub with_emitted : ℕ → Server → Server
with_emitted target s = with_observers (with_emission target s.observers) s

-- the server after a notification that has the next message ID where it is a message that wasn't sent before
abbrev pub with_notification_sent : Option Notice → Server → Server
with_notification_sent None s = s
with_notification_sent (Some n) s = if n.fresh then with_next_id s else s

-- The notification to be sent at a moment, one at most.
pub record SendsNext (now : ℕ) (n : Option Notice) (s t : Server) : Type 0 where
  pub observers : Watching
  pub notifies : Notifies now s.next_id s.observers.list n observers.list
  pub capacity : observers.capacity ≡ s.observers.capacity
  pub after : t ≡ with_notification_sent n (with_observers observers s)

-- ---- messages that are no requests

-- the effect of an empty message of this type and ID from an endpoint: an acknowledgement says that the notification
-- came (RFC 7252, section 4.2), and a Reset that it wasn't wanted (RFC 7641, section 3.6)
abbrev pub told_by_empty : Endpoint → Type4 → ℕ → Watching → Watching
told_by_empty from Con id w = w
told_by_empty from Non id w = w
told_by_empty from Ack id w = with_acknowledgement from id w
told_by_empty from Rst id w = with_reset from id w

-- the effect of any message that is no request: none, unless it is empty
abbrev pub told_by : Endpoint → CoapMessage → Watching → Watching
told_by from m w = if m.code == EMPTY then told_by_empty from m.kind m.id w else w

-- the server after such a message
abbrev pub with_report : Endpoint → CoapMessage → Server → Server
with_report from m s = with_observers (told_by from m s.observers) s

-- ---- datagrams that aren't admitted

-- a message is sent back at once, if there is one
abbrev pub replied_at_once : Option CoapMessage → Heard
replied_at_once None = ignored
replied_at_once (Some m) = answered_at_once (spelling m)

-- the types of a request: Confirmable and Non-confirmable (sections 4.2 and 4.3)
abbrev pub may_ask : Type4 → Bool
may_ask Con = true
may_ask Non = true
may_ask Ack = false
may_ask Rst = false

-- A request is a message of such a type and of class 0 that isn't empty (section 12.1.1).
abbrev pub is_request : CoapMessage → Bool
is_request m = may_ask m.kind && (nat_lt 0 m.code && nat_lt m.code 32)

-- A duplicate: a Confirmable one is answered by the reply that is kept, if there is one (section 4.5).
abbrev pub duplicate_reply : RequestType → Option (List ℕ) → Heard
duplicate_reply Confirmable (Some bytes) = answered_at_once bytes
duplicate_reply Confirmable None = ignored
duplicate_reply NonConfirmable kept = ignored

-- a request as the table of exchanges has it
abbrev pub arrival : Endpoint → ℕ → CoapMessage → Arrival
arrival from now m = record { moment = now; from = from; id = m.id; kind = request_type m.kind }

-- The datagram is a request, which meets this in the table of exchanges (section 4.5); and the server afterwards.
pub record IsMet (from : Endpoint) (bytes : List ℕ) (now : ℕ) (m : CoapMessage) (met : Met) (s t : Server) : Type 0 where
  pub spells : Spells m bytes
  pub request : is_request m ≡ true
  pub meets : Meets (at_moment now s.exchanges) (arrival from now m) met t.exchanges
  pub same_observers : t.observers ≡ s.observers
  pub same_id : t.next_id ≡ s.next_id
  pub same_bodies : t.bodies ≡ s.bodies
  pub same_parts : t.parts ≡ s.parts
  pub same_links : t.links ≡ s.links

-- The treatment of a datagram that isn't admitted. It takes no memory, and so is said apart: a duplicate, a request
-- that finds the table full and a message that is no request are never out of memory.
pub data Settles (from : Endpoint) (bytes : List ℕ) (now : ℕ) (heard : Heard) (s t : Server) : Type 0 where
  -- it is no message: it is rejected, and nothing else is done
  malformed : (f : MsgFault) → HasMsgFault f bytes → heard ≡ replied_at_once (rejection_of bytes) → t ≡ s → Settles from bytes now heard s t
  -- it is a message and no request, as a response, an empty message, an acknowledgement or a Reset; at most an observer
  -- waits for it
  no_request : (m : CoapMessage) → Spells m bytes → is_request m ≡ false → heard ≡ replied_at_once (empty_reply m.kind m.id false)
      → t ≡ with_report from m s → Settles from bytes now heard s t
  -- it is a duplicate of the request of this exchange
  duplicate : (m : CoapMessage) (kept : Option ℕ) (e : Exchange) → IsMet from bytes now m (Repeat kept) s t
      → duplicated_exchange (arrival from now m) (at_moment now s.exchanges) ≡ Some e → heard ≡ duplicate_reply (request_type m.kind) e.reply
      → Settles from bytes now heard s t
  -- as many exchanges live as may: the reply is the server's own and isn't kept, so a copy of
  -- the request may be admitted
  full : (m : CoapMessage) (u : Server) → IsMet from bytes now m Full s u
      → heard ≡ answered_at_once (spelling (coap_reply full_reply (head_of m) s.next_id)) → t ≡ with_id_used (request_type m.kind) u
      → Settles from bytes now heard s t

-- ---- datagrams that are admitted

-- the wishes of a request for the observers, and for blocks
abbrev pub observing_in : CoapMessage → Observing
observing_in m = observing_of m.code (what_is_asked m).observe

abbrev pub wanted_in : CoapMessage → BlockWish
wanted_in m = wanted_of m.code (observing_in m) (what_is_asked m)

-- the pending reply to a request that came from an endpoint and got this slot, where blocks have this part in the reply
abbrev pub pending_with : BlockUse → Endpoint → CoapMessage → ℕ → PendingReply
pending_with use_it from m slot = record {
  kind = request_type m.kind;
  id = m.id;
  token = m.token;
  slot = slot;
  from = from;
  observing = observing_in m;
  blocks = use_it;
}

-- that for the reply to an act, which is asked for at a moment
abbrev pub pending_of : Endpoint → ℕ → CoapMessage → ℕ → PendingReply
pending_of from now m slot = pending_with (use_of now m.code (observing_in m) (what_is_asked m)) from m slot

-- the same of a request that came in blocks, of which this is the last
abbrev pub pending_joined : Endpoint → CoapMessage → ℕ → Block → PendingReply
pending_joined from m slot b = pending_with (blocks.Joined b) from m slot

-- a request with this body
abbrev pub with_whole_body : List ℕ → AskSeen → AskSeen
with_whole_body bytes a = record a { request = record a.request { body = bytes } }

-- a block of a request, as the parts have it
abbrev pub block_arrival : Endpoint → ℕ → CoapMessage → Block → BlockArrival
block_arrival from now m b = record {
  origin = record { from = from; code = m.code; path = (what_is_asked m).request.path };
  block = b;
  payload = m.payload;
  moment = now;
}

-- The fate of a block of a request, and the parts then (RFC 7959, section 2.5).
abbrev pub Adds : Endpoint → ℕ → CoapMessage → Block → Server → Added → List Part → Type 0
Adds from now m b s added parts = Gives (after_block (block_arrival from now m b) (living now s.parts)) added parts

-- it is for the links
abbrev pub asks_links : CoapMessage → Bool
asks_links m = is_links_path (what_is_asked m).request.path

-- The server once the links are given to a request that came from an endpoint at a moment, with this token, wants this
-- of the observers and asks this: its sender is deregistered where it wants that, and a text that is given in blocks is
-- kept.
abbrev pub links_given : Endpoint → ℕ → List ℕ → Observing → AskSeen → Server → Server
links_given from now token o a s =
    with_bodies (bodies_with_links from a.request.path now (size_asked o a) s.links s.bodies) (with_observers (observers_with_links o from token s.observers) s)

-- The cases in which a request that was admitted is answered at once, with the reply and the parts then: by the first
-- fault of its options, or out of memory, which is free to come where there is none; because it wants no act; or
-- because it is for the links and isn't a GET.
pub data IsAnsweredAtOnce (from : Endpoint) (now : ℕ) (m : CoapMessage) (r : Reply) (s : Server) (parts : List Part) : Type 0 where
  -- a bad option of a Confirmable request (RFC 7252, section 5.4.1)
  bad_option : (number : ℕ) → slice_get (faults_of m.options) 0 ≡ Some (fault.BadOption number) → request_type m.kind ≡ Confirmable
      → r ≡ option_reply number → parts ≡ s.parts → IsAnsweredAtOnce from now m r s parts
  -- a block of the reserved size
  bad_block : slice_get (faults_of m.options) 0 ≡ Some fault.Block → r ≡ block_reply → parts ≡ s.parts → IsAnsweredAtOnce from now m r s parts
  -- it is for a proxy
  for_proxy : slice_get (faults_of m.options) 0 ≡ Some fault.Proxy → r ≡ proxy_reply → parts ≡ s.parts → IsAnsweredAtOnce from now m r s parts
  -- out of memory: no block was joined
  no_memory : faults_of m.options ≡ [] → r ≡ reply_of Memory → parts ≡ s.parts → IsAnsweredAtOnce from now m r s parts
  -- a later block of a response is given out of the body that is kept for its sender and path (RFC 7959, section 2.4)
  later_block : (b : Block) → faults_of m.options ≡ [] → wanted_in m ≡ wanted.LaterBlock b
      → r ≡ later_reply b (option_map (λ x. x.content) (body_for from (what_is_asked m).request.path now s.bodies)) → parts ≡ s.parts
      → IsAnsweredAtOnce from now m r s parts
  -- a block of a request, and others are to come, or it isn't taken
  joined : (b : Block) (added : Added) → faults_of m.options ≡ [] → wanted_in m ≡ wanted.Joining b
      → Adds from now m b s added parts → added_reply b added ≡ Some r → IsAnsweredAtOnce from now m r s parts
  -- another verb than GET is for the links (RFC 7252, section 5.9.2.6)
  takes_no_other_verb : faults_of m.options ≡ [] → wanted_in m ≡ wanted.Act → asks_links m ≡ true → m.code ≢ GET → r ≡ method_reply → parts ≡ s.parts
      → IsAnsweredAtOnce from now m r s parts
  -- and so is the last block of a request: the body that was joined leaves the parts
  takes_no_body : (b : Block) (place : ℕ) (joined_parts : List Part) → faults_of m.options ≡ [] → wanted_in m ≡ wanted.Joining b → asks_links m ≡ true
      → Adds from now m b s (Complete place) joined_parts → r ≡ method_reply → parts ≡ remove joined_parts place → IsAnsweredAtOnce from now m r s parts

-- The treatment of a request that was admitted.
pub data Reads (from : Endpoint) (now : ℕ) (m : CoapMessage) (slot : ℕ) (heard : Heard) (s t : Server) : Type 0 where
  -- it is answered at once
  replied : (r : Reply) (parts : List Part) (bytes : List ℕ) → IsAnsweredAtOnce from now m r s parts
      → Replies r (head_of m) slot bytes (with_parts parts s) t → heard ≡ answered_at_once bytes → Reads from now m slot heard s t
  -- a bad option of any other request than a Confirmable one: it is ignored; it was admitted, so a duplicate of it is one
  bad_option_ignored : (number : ℕ) → slice_get (faults_of m.options) 0 ≡ Some (fault.BadOption number) → request_type m.kind ≡ NonConfirmable
      → heard ≡ ignored → t ≡ s → Reads from now m slot heard s t
  -- it is a GET for the links, which are given
  gives_links : (bytes : List ℕ) → faults_of m.options ≡ [] → wanted_in m ≡ wanted.Act → asks_links m ≡ true → m.code ≡ GET
      → Replies (links_reply (size_asked (observing_in m) (what_is_asked m)) s.links) (head_of m) slot bytes
      (links_given from now m.token (observing_in m) (what_is_asked m) s) t
      → heard ≡ answered_at_once bytes → Reads from now m slot heard s t
  -- it is asked
  asks : faults_of m.options ≡ [] → wanted_in m ≡ wanted.Act → asks_links m ≡ false → heard ≡ asked (what_is_asked m) (pending_of from now m slot) → t ≡ s
      → Reads from now m slot heard s t
  -- it is the last block of a request, which is asked with the body that was joined; that leaves the parts
  asks_whole : (b : Block) (place : ℕ) (parts : List Part) (whole : Part) → faults_of m.options ≡ [] → wanted_in m ≡ wanted.Joining b → asks_links m ≡ false
      → Adds from now m b s (Complete place) parts → slice_get parts place ≡ Some whole
      → heard ≡ asked (with_whole_body whole.bytes (what_is_asked m)) (pending_joined from m slot b) → t ≡ with_parts (remove parts place) s
      → Reads from now m slot heard s t

-- ---- any datagram

-- A datagram from an endpoint has this effect at a moment.
pub data Hears (from : Endpoint) (bytes : List ℕ) (now : ℕ) (heard : Heard) (s t : Server) : Type 0 where
  settled : Settles from bytes now heard s t → Hears from bytes now heard s t
  admitted : (m : CoapMessage) (slot : ℕ) (u : Server) → IsMet from bytes now m (Fresh slot) s u → Reads from now m slot heard u t
      → Hears from bytes now heard s t
