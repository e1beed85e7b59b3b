-- Laws of the server, over all that it does from its beginning (RFC 7252, sections 4.5 and 4.6).
use Rattle.std.specs.Prelude.{◌≡◌, ◌≤◌, ℕ, true, false, Option, Some, None, List, [], ◌∷◌, ◌++◌, length, Contains, All}
use Rattle.coap_msg.specs.declared.endpoint.Endpoint.{Endpoint}
use Rattle.coap_msg.specs.declared.constants.TheConstants.{LONGEST_SEGMENT}
use Rattle.coap_msg.specs.Grammar.{CoapMessage, Spells}
use Rattle.coap_exchange.specs.Admission.{Arrival, is_duplicate_of, admitted_among}
use Rattle.coap_exchange.specs.Table.{Exchange, exchange_in, StandsFor}
use Rattle.thing_ops.specs.declared.outcome.Outcome.{Outcome}
use Rattle.thing_ops.specs.declared.outcome.Outcome.TheVariants.{Started}
use Rattle.coap_observe.specs.declared.notice.Notice.{Notice}
use Rattle.coap_opts.specs.Reading.{AskSeen}
use Rattle.coap_bind.specs.declared.pending.PendingReply.{PendingReply}
use Rattle.coap_bind.specs.declared.server.Server.{Server}
use Rattle.coap_bind.specs.Telling.{HasRoom, MayAnswer}
use Rattle.coap_bind.specs.Server.{start, is_request, arrival, Heard, asked, Hears, Answers, with_emitted, with_links, SendsNext}

-- these are the requests of a datagram: one, if it is a request, and else none
abbrev pub AreArrivals : Endpoint → List ℕ → ℕ → List Arrival → Type 0
AreArrivals from bytes now [] = (m : CoapMessage) → Spells m bytes → is_request m ≡ false
AreArrivals from bytes now (a ∷ []) = (m : CoapMessage) × Spells m bytes × (is_request m ≡ true) × (a ≡ arrival from now m)
AreArrivals from bytes now (a ∷ b ∷ more) = ⊥

-- An ask may be answered: its exchange has no reply yet, and the request is of the type that was admitted.
pub record IsOpen (ask : PendingReply) (s : Server) : Type 0 where
  pub exchange : Exchange
  pub there : exchange_in ask.slot s.exchanges ≡ Some exchange
  pub waits : exchange.reply ≡ None
  pub kind : ask.kind ≡ exchange.arrival.kind

-- The course of a server since it held this: the requests that came, in their order, and its contents now.
pub data DidFrom (before : Server) : List Arrival → Server → Type 0 where
  nothing : DidFrom before [] before
  -- a datagram came
  heard_of : (history new : List Arrival) (s t : Server) (from : Endpoint) (bytes : List ℕ) (now : ℕ) (heard : Heard)
      → DidFrom before history s → s.exchanges.moment ≤ now → Hears from bytes now heard s t → AreArrivals from bytes now new
      → DidFrom before (history ++ new) t
  -- a request that was asked was answered
  answered : (history : List Arrival) (s t : Server) (ask : PendingReply) (o : Outcome) (target : Option ℕ) (bytes : List ℕ)
      → DidFrom before history s → IsOpen ask s → Answers ask o target bytes s t → DidFrom before history t
  -- a target got a new value
  emitted : (history : List Arrival) (s t : Server) (target : ℕ) → DidFrom before history s → t ≡ with_emitted target s → DidFrom before history t
  -- it was asked for the notification to be sent now
  sent : (history : List Arrival) (s t : Server) (now : ℕ) (n : Option Notice) → DidFrom before history s → SendsNext now n s t → DidFrom before history t
  -- it was given the text of its links
  linked : (history : List Arrival) (s t : Server) (text : List ℕ) → DidFrom before history s → t ≡ with_links text s → DidFrom before history t

-- The course of a server in which n exchanges may live, from its beginning.
abbrev pub Did : ℕ → List Arrival → Server → Type 0
Did capacity history s = (observers : ℕ) × DidFrom (start capacity observers) history s

-- The exchanges of a server are those of the admitted requests that live (RFC 7252, section 4.5).
abbrev pub ExchangesAreOfTheHistory : Type 0
ExchangesAreOfTheHistory =
    (capacity : ℕ) (history : List Arrival) (s : Server) → Did capacity history s
    → StandsFor s.exchanges history × (s.exchanges.capacity ≡ capacity)

-- A duplicate of a request that was admitted and lives asks for nothing (RFC 7252, section 4.5).
abbrev pub DuplicatesAskNothing : Type 0
DuplicatesAskNothing =
    (capacity : ℕ) (history : List Arrival) (s t : Server) (from : Endpoint) (bytes : List ℕ) (now : ℕ) (m : CoapMessage) (earlier : Arrival)
    → Did capacity history s → s.exchanges.moment ≤ now → Spells m bytes → Contains (admitted_among capacity history) earlier
    → is_duplicate_of (arrival from now m) earlier ≡ true
    → (what : AskSeen) (ask : PendingReply) → ¬ (Hears from bytes now (asked what ask) s t)

-- The place of a started action has at most four segments, each of at most 255 bytes (section 5.10), and its status at
-- most 100 bytes.
abbrev pub HasShortPlace : Outcome → Type 0
HasShortPlace (Started place status) = (length place ≤ 4) × All (λ segment. length segment ≤ LONGEST_SEGMENT) place × (length status ≤ 100)
HasShortPlace _ = Unit {0}

-- The ask of a datagram may be answered at once.
abbrev pub AsksAreOpen : Type 0
AsksAreOpen =
    (from : Endpoint) (bytes : List ℕ) (now : ℕ) (what : AskSeen) (ask : PendingReply) (s t : Server) → Hears from bytes now (asked what ask) s t → IsOpen ask t

-- A reply has at most 1,152 bytes (RFC 7252, section 4.6), with a tag and without, whatever the observers are, in
-- blocks and whole, unless the place of a started action is long.
abbrev pub RepliesFit : Type 0
RepliesFit = (ask : PendingReply) (o : Outcome) (target : Option ℕ) (s : Server) → MayAnswer ask s → HasShortPlace o → HasRoom ask o target s
