-- A CoAP client as one machine (RFC 7252, sections 4.2 to 4.4, 5.2 and 5.3; RFC 7641, section 3): its contents, and the
-- effect of each of its three calls on them. At most one request is unanswered at a time, and at most one resource is
-- observed.
--
-- Its contents are `State` of src/state.rt, a plain record that code and definitions share, because the effects are
-- then equations on it and a law can speak of any order of calls. It has the last `moment` that was handed in; the
-- `outstanding` request; the `observation`; `next_token`, the number whose bytes are the next token; `next_id`, from
-- which the next id is sought; and in `uses` the moment at which each id was used last. An outstanding request has its
-- `peer`, its `id` and its `token`, the bytes that were `sent`, the moment at which they were sent `first`, the number
-- of moments for a retransmission that a call has `reached`, whether an empty message acknowledged it, and whether it
-- `registers` the observation. An observation has its `peer` and its `token`, and of the `latest` value, once there was
-- one, the sequence number and the moment.
--
-- The message of an ask is in Asking.antt, ids and tokens are in Names.antt, times in Times.antt, and the messages that
-- are taken (`takes`) and their meaning (`meaning`) in Answers.antt.
use Rattle.std.specs.Prelude.{◌≡◌, ◌<◌, ◌≤◌, ◌+◌, ◌-◌, ◌%◌, ◌^◌, ◌⊎◌, ℕ, Bool, true, false, List, length, slice_set, slice_index_or, Option, Some, None, IsSome, IfSome, is_some, if◌then◌else◌}
use Rattle.coap_msg.specs.declared.constants.TheConstants.{LONGEST_MESSAGE}
use Rattle.coap_msg.specs.declared.endpoint.Endpoint.{Endpoint}
use Rattle.coap_msg.specs.declared.message.MsgFault.{MsgFault}
use Rattle.coap_msg.specs.Grammar.{CoapMessage, Spells, spelling}
use Rattle.coap_msg.specs.Faults.{HasMsgFault}
use Rattle.coap_client.specs.declared.outstanding.Outstanding.{Outstanding}
use Rattle.coap_client.specs.declared.observation.Observation.{Observation}
use Rattle.coap_client.specs.declared.state.State.{State}
use Rattle.coap_client.specs.declared.meaning.Meaning.{Meaning}
use Rattle.coap_client.specs.declared.meaning.Meaning.TheVariants as meant
use Rattle.coap_client.specs.declared.fault.ClientFault.{ClientFault}
use Rattle.coap_client.specs.declared.fault.ClientFault.TheVariants.{Busy, IdsUsed, NoRoom}
use Rattle.coap_client.specs.declared.news.News.{News}
use Rattle.coap_client.specs.declared.news.News.TheVariants as news
use Rattle.coap_client.specs.declared.news.Delivered.{Delivered}
use Rattle.coap_client.specs.declared.due.Due.{Due}
use Rattle.coap_client.specs.declared.due.Due.TheVariants as due
use Rattle.coap_client.specs.Asking.{Asking, message_for}
use Rattle.coap_client.specs.Times.{deadline, retransmissions_by}
use Rattle.coap_client.specs.Names.{IsNextId, AreAllUsed, kept_token, token_after}
use Rattle.coap_client.specs.Answers.{is_for_request, is_for_observation, takes, block2_of, meaning}
use Rattle.coap_msg.specs.Blocks.{IsBlock}
use Rattle.coap_msg.specs.Empty.{empty_reply, rejection_of}
use Rattle.coap_msg.specs.Written.{IsWritten, IsReplied}

-- the state at a later moment
abbrev pub at_moment : ℕ → State → State
at_moment now s = record s { moment = now }

-- a client that did nothing yet, with this first id
pub record IsNew (first_id : ℕ) (s : State) : Type 0 where
  pub moment : s.moment ≡ 0
  pub outstanding : s.outstanding ≡ None
  pub observation : s.observation ≡ None
  pub next_token : s.next_token ≡ 0
  pub next_id : s.next_id ≡ first_id
  pub ids : length s.uses ≡ 65536
  pub unused : (id : ℕ) → slice_index_or s.uses id None ≡ None

-- ---- asking

-- the token of a request: the one that it takes over, or else the next
abbrev pub token_for : State → Endpoint → Option Bool → List ℕ
token_for s peer observe = token_after (kept_token s.observation peer observe) s.next_token

-- a request registers where it is to observe
abbrev pub is_registration : Option Bool → Bool
is_registration None = false
is_registration (Some register) = register

-- the request of an ask with this id
abbrev pub request_for : State → Endpoint → Asking → ℕ → Outstanding
request_for s peer a id = record {
  peer = peer;
  id = id;
  token = token_for s peer a.observe;
  first = s.moment;
  reached = 0;
  is_acknowledged = false;
  registers = is_registration a.observe;
  sent = spelling (message_for a id (token_for s peer a.observe));
}

-- an observation begins with its registration, which ends the one before it
abbrev pub observation_with : Option Observation → Outstanding → Option Observation
observation_with before o = if o.registers then Some (record { peer = o.peer; token = o.token; latest = None }) else before

-- the state once a request was sent, whose token is the next one if it wasn't kept
abbrev pub begun : State → Outstanding → Bool → State
begun s o kept = record {
  moment = s.moment;
  outstanding = Some o;
  observation = observation_with s.observation o;
  next_token = if kept then s.next_token else (s.next_token + 1) % 2 ^ 64;
  next_id = (o.id + 1) % 65536;
  uses = slice_set s.uses o.id (Some s.moment);
}

-- the state once an ask was sent with this id
abbrev pub with_request : State → Endpoint → Asking → ℕ → State
with_request s peer a id = begun s (request_for s peer a id) (is_some (kept_token s.observation peer a.observe))

-- The faults for which an ask is refused: a request is unanswered (NSTART is 1, section 4.7); no id may be used; the
-- message is too long for a datagram (section 4.6).
abbrev pub IsRefused : State → Endpoint → Asking → ClientFault → Type 0
IsRefused s peer a Busy = IsSome s.outstanding
IsRefused s peer a IdsUsed = (s.outstanding ≡ None) × AreAllUsed s.uses s.moment
IsRefused s peer a NoRoom =
    (s.outstanding ≡ None) × (id : ℕ) × IsNextId s.uses s.next_id s.moment id × (LONGEST_MESSAGE < length (spelling (message_for a id (token_for s peer a.observe))))

-- An ask is sent: its message, of n bytes, at the front of a room, and the state afterwards.
pub record Asks (s : State) (peer : Endpoint) (a : Asking) (n : ℕ) (old new : List ℕ) (t : State) : Type 0 where
  pub id : ℕ
  pub alone : s.outstanding ≡ None
  pub next : IsNextId s.uses s.next_id s.moment id
  pub written : IsWritten (spelling (message_for a id (token_for s peer a.observe))) n old new
  pub after : t ≡ with_request s peer a id

-- ---- retransmissions

-- a registration is outstanding
abbrev pub registers : Option Outstanding → Bool
registers None = false
registers (Some o) = o.registers

-- the request ended without a response, and with a registration its observation did
abbrev pub ended : State → State
ended s = record s { outstanding = None; observation = if registers s.outstanding then None else s.observation }

-- the time since a request was first sent
abbrev pub age : State → Outstanding → ℕ
age s o = s.moment - o.first

-- The task at the moment of a state. A request whose time is over ends before anything else. It goes again, byte for
-- byte, at the first call at which another of its moments for a retransmission has come; a call that is late for
-- several sends it once, and the others are over.
abbrev pub ComesDue : State → Due → List ℕ → List ℕ → State → Type 0
ComesDue s due.TimedOut old new t =
    (o : Outstanding) × (s.outstanding ≡ Some o) × (deadline o ≤ age s o) × (t ≡ ended s) × (new ≡ old)
ComesDue s (due.Send n) old new t =
    (o : Outstanding) × (s.outstanding ≡ Some o) × (age s o < deadline o) × (o.reached < retransmissions_by o (age s o))
    × IsWritten o.sent n old new × (t ≡ record s { outstanding = Some (record o { reached = retransmissions_by o (age s o) }) })
ComesDue s due.Nothing old new t =
    IfSome s.outstanding (λ o. (age s o < deadline o) × (retransmissions_by o (age s o) ≤ o.reached)) × (t ≡ s) × (new ≡ old)

-- ---- datagrams

-- a registration is no longer outstanding
abbrev pub registered : State → State
registered s = record s { outstanding = if registers s.outstanding then None else s.outstanding }

-- the observation with this latest value
abbrev pub with_latest : ℕ → ℕ → Option Observation → Option Observation
with_latest sequence now None = None
with_latest sequence now (Some o) = Some (record o { latest = Some (record { sequence = sequence; moment = now }) })

-- the request is acknowledged
abbrev pub acknowledged : Option Outstanding → Option Outstanding
acknowledged None = None
acknowledged (Some o) = Some (record o { is_acknowledged = true })

-- a notification is the latest value, and the response to the registration
abbrev pub valued : State → ℕ → State
valued s sequence = record (registered s) { observation = with_latest sequence s.moment s.observation }

-- a response ends the request and the observation that it belongs to
abbrev pub answered : State → Endpoint → List ℕ → State
answered s from token =
    record s {
      outstanding = if is_for_request s.outstanding from token then None else s.outstanding;
      observation = if is_for_observation s.observation from token then None else s.observation;
    }

-- an empty acknowledgement came for the request
abbrev pub received : State → State
received s = record s { outstanding = acknowledged s.outstanding }

-- the state afterwards
abbrev pub after : State → Endpoint → List ℕ → Meaning → State
after s from token (meant.Value sequence) = valued s sequence
after s from token meant.Old = registered s
after s from token meant.Response = answered s from token
after s from token meant.Reset = ended s
after s from token meant.Received = received s
after s from token meant.Foreign = s

-- the news of a message
abbrev pub IsNews : Meaning → CoapMessage → News → Type 0
IsNews meaning m (news.Answered code block payload) =
    (meaning ≡ meant.Response) × (code ≡ m.code) × (block ≡ block2_of m.options) × (payload.now ≡ m.payload)
IsNews meaning m (news.Value payload) = (sequence : ℕ) × (meaning ≡ meant.Value sequence) × (payload.now ≡ m.payload)
IsNews meaning m news.Old = meaning ≡ meant.Old
IsNews meaning m news.Reset = meaning ≡ meant.Reset
IsNews meaning m news.Nothing = (meaning ≡ meant.Received) ⊎ (meaning ≡ meant.Foreign)

-- a block that news say is one that an option can say
abbrev pub SaysBlock : News → Type 0
SaysBlock (news.Answered code block payload) = IfSome block IsBlock
SaysBlock (news.Value payload) = Unit {0}
SaysBlock news.Old = Unit {0}
SaysBlock news.Reset = Unit {0}
SaysBlock news.Nothing = Unit {0}

-- The effect of bytes from an endpoint: their news and whether there is a reply, which is written, and the state
-- afterwards.
pub data Delivers (s : State) (from : Endpoint) (bytes : List ℕ) (told : Delivered) (old new : List ℕ) (t : State) : Type 0 where
  of_message : (m : CoapMessage) → Spells m bytes → IsReplied (empty_reply m.kind m.id (takes s from m)) told.reply old new
      → IsNews (meaning s from m) m told.news → t ≡ after s from m.token (meaning s from m) → Delivers s from bytes told old new t
  of_fault : (f : MsgFault) → HasMsgFault f bytes → IsReplied (rejection_of bytes) told.reply old new → told.news ≡ news.Nothing → t ≡ s
      → Delivers s from bytes told old new t
