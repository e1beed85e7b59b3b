-- The replies of a server to duplicates of requests, over all that it does (RFC 7252, section 4.5).
use Rattle.std.specs.Prelude.{◌≡◌, ◌≤◌, ◌⊎◌, ℕ, Bool, true, false, Option, Some, None, List, Contains}
use Rattle.std.specs.List.{AllByRecursion}
use Rattle.coap_msg.specs.declared.endpoint.Endpoint.{Endpoint}
use Rattle.coap_msg.specs.declared.message.RequestType.{RequestType}
use Rattle.coap_msg.specs.declared.message.RequestType.TheVariants.{Confirmable, NonConfirmable}
use Rattle.coap_msg.specs.Grammar.{CoapMessage, Spells}
use Rattle.coap_msg.specs.Requests.{request_type}
use Rattle.coap_exchange.specs.Admission.{Arrival, is_duplicate_of, admitted_among}
use Rattle.coap_exchange.specs.Table.{at_moment}
use Rattle.coap_exchange.specs.declared.met.Met.TheVariants.{Fresh}
use Rattle.thing_ops.specs.declared.outcome.Outcome.{Outcome}
use Rattle.coap_bind.specs.declared.pending.PendingReply.{PendingReply}
use Rattle.coap_bind.specs.declared.server.Server.{Server}
use Rattle.coap_bind.specs.Server.{start, Heard, ignored, answered_at_once, is_request, arrival, IsMet, Reads, Hears, Answers}
use Rattle.coap_bind.specs.Laws.{IsOpen, DidFrom, Did}

-- a reply may be kept for a request of this type; none may always be
abbrev pub may_keep : RequestType → Option (List ℕ) → Bool
may_keep Confirmable reply = true
may_keep NonConfirmable None = true
may_keep NonConfirmable (Some bytes) = false

-- Only replies to Confirmable requests are kept (section 4.2).
abbrev pub OnlyConfirmableAreKept : Type 0
OnlyConfirmableAreKept =
    (capacity : ℕ) (history : List Arrival) (s : Server) → Did capacity history s
    → AllByRecursion (λ e. may_keep e.arrival.kind e.reply ≡ true) s.exchanges.exchanges

-- The table of exchanges is at the moment of a datagram, and nothing else changed.
pub record OnlyTimePassed (now : ℕ) (s t : Server) : Type 0 where
  pub exchanges : t.exchanges ≡ at_moment now s.exchanges
  pub observers : t.observers ≡ s.observers
  pub next_id : t.next_id ≡ s.next_id
  pub bodies : t.bodies ≡ s.bodies
  pub parts : t.parts ≡ s.parts
  pub links : t.links ≡ s.links

-- A duplicate of a request that was admitted and lives changes nothing.
abbrev pub DuplicatesChangeNothing : Type 0
DuplicatesChangeNothing =
    (capacity : ℕ) (history : List Arrival) (s t : Server) (from : Endpoint) (bytes : List ℕ) (now : ℕ) (m : CoapMessage) (heard : Heard) (earlier : Arrival)
    → Did capacity history s → s.exchanges.moment ≤ now → Spells m bytes → is_request m ≡ true → Contains (admitted_among capacity history) earlier
    → is_duplicate_of (arrival from now m) earlier ≡ true → Hears from bytes now heard s t → OnlyTimePassed now s t

-- A request that was admitted is replied to, in these bytes: at once, or when its outcome is known.
pub data IsRepliedTo (request : Arrival) (reply : List ℕ) (s t : Server) : Type 0 where
  at_once : (from : Endpoint) (bytes : List ℕ) (now : ℕ) (m : CoapMessage) (slot : ℕ) (u : Server) → s.exchanges.moment ≤ now
      → IsMet from bytes now m (Fresh slot) s u → Reads from now m slot (answered_at_once reply) u t → request ≡ arrival from now m
      → IsRepliedTo request reply s t
  afterwards : (ask : PendingReply) (o : Outcome) (target : Option ℕ) (waiting : IsOpen ask s) → Answers ask o target reply s t
      → request ≡ waiting.exchange.arrival → IsRepliedTo request reply s t

-- The answer to a duplicate of this type, where the request of this type was replied to in these bytes: the same, where
-- both are Confirmable, and else nothing.
abbrev pub repeated : RequestType → RequestType → List ℕ → Heard
repeated Confirmable Confirmable reply = answered_at_once reply
repeated Confirmable NonConfirmable reply = ignored
repeated NonConfirmable kind reply = ignored

-- While a request lives that was replied to, each duplicate of it is answered so, whatever was done in between.
abbrev pub DuplicatesGetTheFirstReply : Type 0
DuplicatesGetTheFirstReply =
    (capacity : ℕ) (history later : List Arrival) (s t u v : Server) (request : Arrival) (reply : List ℕ)
    (from : Endpoint) (bytes : List ℕ) (now : ℕ) (m : CoapMessage) (heard : Heard)
    → Did capacity history s → IsRepliedTo request reply s t → DidFrom t later u → u.exchanges.moment ≤ now → Spells m bytes → is_request m ≡ true
    → is_duplicate_of (arrival from now m) request ≡ true → Hears from bytes now heard u v
    → (heard ≡ repeated (request_type m.kind) request.kind reply) × OnlyTimePassed now u v

-- A request was replied to in these bytes at some time since the server held this.
pub record WasRepliedTo (before : Server) (request : Arrival) (reply : List ℕ) (u : Server) : Type 0 where
  pub history : List Arrival
  pub later : List Arrival
  pub s : Server
  pub t : Server
  pub did : DidFrom before history s
  pub replied : IsRepliedTo request reply s t
  pub since : DidFrom t later u

-- Where a duplicate of a request that was admitted and lives is answered, both are Confirmable, and these are the bytes in
-- which the request was replied to.
abbrev pub OnlyTheFirstReplyIsRepeated : Type 0
OnlyTheFirstReplyIsRepeated =
    (capacity observers : ℕ) (history : List Arrival) (u v : Server) (from : Endpoint) (bytes : List ℕ) (now : ℕ) (m : CoapMessage) (heard : Heard) (earlier : Arrival)
    → DidFrom (start capacity observers) history u → u.exchanges.moment ≤ now → Spells m bytes → is_request m ≡ true
    → Contains (admitted_among capacity history) earlier → is_duplicate_of (arrival from now m) earlier ≡ true → Hears from bytes now heard u v
    → (heard ≡ ignored)
    ⊎ ((request : Arrival) × (reply : List ℕ) × (heard ≡ answered_at_once reply) × (is_duplicate_of (arrival from now m) request ≡ true)
    × (request_type m.kind ≡ Confirmable) × (request.kind ≡ Confirmable) × WasRepliedTo (start capacity observers) request reply u)
