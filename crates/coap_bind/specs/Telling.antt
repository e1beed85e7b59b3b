-- The way in which a call tells the treatment of a datagram (RFC 7252, sections 4.2 to 4.5): by its result and by the
-- bytes that it writes.
use Rattle.std.specs.Prelude.{◌≡◌, ◌≤◌, ℕ, Option, List, length}
use Rattle.coap_msg.specs.declared.constants.TheConstants.{LONGEST_TOKEN, LONGEST_MESSAGE}
use Rattle.coap_msg.specs.declared.endpoint.Endpoint.{Endpoint}
use Rattle.coap_msg.specs.Grammar.{CoapMessage, spelling}
use Rattle.coap_msg.specs.Written.{IsWritten}
use Rattle.coap_exchange.specs.Table.{IsAwaited}
use Rattle.coap_exchange.specs.declared.met.Met.TheVariants.{Fresh}
use Rattle.thing_ops.specs.declared.outcome.Outcome.{Outcome}
use Rattle.coap_observe.specs.Watching.{Watching}
use Rattle.coap_opts.specs.AskSeen.{ask_seen}
use Rattle.coap_bind.specs.declared.next.CoapNext.{CoapNext}
use Rattle.coap_bind.specs.declared.next.CoapNext.TheVariants.{Nothing, Send, Ask}
use Rattle.coap_bind.specs.declared.pending.PendingReply.{PendingReply}
use Rattle.coap_bind.specs.declared.server.Server.{Server}
use Rattle.coap_bind.specs.Blocks.{IsUse, answer_reply}
use Rattle.coap_bind.specs.Writing.{Reply, observed, head_in, coap_reply}
use Rattle.coap_bind.specs.Observing.{effect_of, Watches}
use Rattle.coap_bind.specs.Server.{Heard, ignored, answered_at_once, asked, Replies, Answers, IsMet, Settles, Hears}

-- the result says the treatment, and the bytes to send are at the front of the room
abbrev pub Tells : Heard → CoapNext → List ℕ → List ℕ → Type 0
Tells heard Nothing old new = (heard ≡ ignored) × (new ≡ old)
Tells heard (Send n) old new = (bytes : List ℕ) × (heard ≡ answered_at_once bytes) × IsWritten bytes n old new
Tells heard (Ask ask ticket) old new = (heard ≡ asked (ask_seen ask) ticket) × (new ≡ old)

-- A datagram has this effect, as the result says.
pub record HearsAs (from : Endpoint) (bytes : List ℕ) (now : ℕ) (next : CoapNext) (old new : List ℕ) (s t : Server) : Type 0 where
  pub heard : Heard
  pub hears : Hears from bytes now heard s t
  pub tells : Tells heard next old new

-- A datagram that isn't admitted has this effect, as the result says.
pub record SettlesAs (from : Endpoint) (bytes : List ℕ) (now : ℕ) (next : CoapNext) (old new : List ℕ) (s t : Server) : Type 0 where
  pub heard : Heard
  pub settles : Settles from bytes now heard s t
  pub tells : Tells heard next old new

-- The datagram is a request that is admitted.
pub record IsAdmitted (from : Endpoint) (bytes : List ℕ) (now : ℕ) (s : Server) : Type 0 where
  pub message : CoapMessage
  pub slot : ℕ
  pub after : Server
  pub met : IsMet from bytes now message (Fresh slot) s after

-- A reply that was pending was written, n bytes of it.
pub record RepliesAs (r : Reply) (pending : PendingReply) (n : ℕ) (old new : List ℕ) (s t : Server) : Type 0 where
  pub bytes : List ℕ
  pub replies : Replies r (head_in pending) pending.slot bytes s t
  pub written : IsWritten bytes n old new

-- The ask was answered, in n bytes.
pub record AnswersAs (ask : PendingReply) (o : Outcome) (target : Option ℕ) (n : ℕ) (old new : List ℕ) (s t : Server) : Type 0 where
  pub bytes : List ℕ
  pub answers : Answers ask o target bytes s t
  pub written : IsWritten bytes n old new

-- The answer has room, whichever sequence number it says, if it says one.
abbrev pub HasRoom : PendingReply → Outcome → Option ℕ → Server → Type 0
HasRoom ask o target s =
    (observe : Option ℕ) (observers : Watching) → Watches (effect_of ask.observing o target) ask.from ask.token s.observers observe observers
    → length (spelling (coap_reply (observed observe (answer_reply ask.blocks o)) (head_in ask) s.next_id)) ≤ LONGEST_MESSAGE

-- a request may be answered: the exchange in the slot of the ticket waits for its reply, the token is one (RFC 7252,
-- section 3), and the sizes of blocks are such as there are
pub record MayAnswer (ask : PendingReply) (s : Server) : Type 0 where
  pub awaited : IsAwaited ask.slot s.exchanges
  pub token : length ask.token ≤ LONGEST_TOKEN
  pub blocks : IsUse ask.blocks

abbrev pub TicketIsOpen : CoapNext → Server → Type 0
TicketIsOpen Nothing s = Unit {0}
TicketIsOpen (Send n) s = Unit {0}
TicketIsOpen (Ask ask ticket) s = MayAnswer ticket s
