-- The one thing that a run leaves open: whether there was memory.
use Rattle.std.specs.Prelude.{◌≡◌, ◌⊎◌, ℕ, List, [], ◌∷◌, ◌++◌, map, Option, Some, Bool}
use Rattle.coap_msg.specs.declared.block.Block.{Block}
use Rattle.coap_msg.specs.declared.endpoint.Endpoint.{Endpoint}
use Rattle.coap_msg.specs.Grammar.{CoapMessage, Spells, spelling}
use Rattle.coap_exchange.specs.Table.{Exchange, Table}
use Rattle.thing_ops.specs.declared.outcome.Outcome.TheVariants as outcome
use Rattle.thing_handler.specs.declared.handler.Answer.{Answer}
use Rattle.thing_handler.specs.Turns.{answered, missed}
use Rattle.thing_site.specs.Site.{Site}
use Rattle.thing_core.specs.Determined.{AreAnsweredBy}
use Rattle.coap_bind.specs.declared.server.Server.{Server}
use Rattle.coap_bind.specs.declared.blocks.BlockWish.TheVariants as wanted
use Rattle.coap_bind.specs.Server.{wanted_in}
use Rattle.coap_bind.specs.Writing.{reply_of, coap_reply, ReplyHead}
use Rattle.http_bind.specs.Replying.{reply}
use Rattle.servient_outside.specs.declared.net.What.TheVariants as what
use Rattle.servient_outside.specs.declared.net.EventWithBytes.{EventWithBytes}
use Rattle.servient_outside.specs.declared.net.Act.{Act}
use Rattle.servient_outside.specs.declared.net.Act.TheVariants as act
use Rattle.servient_outside.specs.Network.{heard, did, broke}
use Rattle.servient_trace.specs.Trace.{Sighting, at_network, at_handler, calls_in}
use Rattle.servient_core.specs.Machine.{State, start, Run}

-- An act is the reply, by either binding, to a request for which the server was out of memory.
pub data TellsOfMemory (a : Act) : Type 0 where
  by_coap : (to : Endpoint) (head : ReplyHead) (id : ℕ) → a ≡ act.Datagram to (spelling (coap_reply (reply_of outcome.Memory) head id)) → TellsOfMemory a
  by_http : (c : ℕ) (bodiless closes : Bool) (bytes : List ℕ) → reply bodiless closes outcome.Memory ≡ Some bytes → a ≡ act.Sent c bytes → TellsOfMemory a

-- A sighting is a sign that memory was wanting: such a reply, or a call for which a handler was out of memory.
abbrev pub IsSign : Sighting → Type 0
IsSign (at_network (heard e)) = ⊥
IsSign (at_network (did a)) = TellsOfMemory a
IsSign (at_network (broke call)) = ⊥
IsSign (at_handler (answered turn)) = ⊥
IsSign (at_handler (missed slot)) = Unit {0}

-- the first of these is a sign
abbrev pub BeginsWithSign : List Sighting → Type 0
BeginsWithSign [] = ⊥
BeginsWithSign (x ∷ seen) = IsSign x

-- The traces of two runs are the same up to a place at which the one or the other has a sign.
pub record AreSameUpToSign (seen shown : List Sighting) : Type 0 where
  pub common : List Sighting
  pub rest : List Sighting
  pub other : List Sighting
  pub first : seen ≡ common ++ rest
  pub second : shown ≡ common ++ other
  pub sign : BeginsWithSign rest ⊎ BeginsWithSign other

-- Where a trace has a sign, another that is the same so far has the same sign.
abbrev pub HasSignsOf : List Sighting → List Sighting → Type 0
HasSignsOf seen shown =
    (common : List Sighting) (sign : Sighting) (rest other : List Sighting) → seen ≡ common ++ sign ∷ rest → shown ≡ common ++ other → IsSign sign
    → (more : List Sighting) × (other ≡ sign ∷ more)

-- a datagram brings a block of a request (RFC 7959, section 2.5)
pub record BringsBlock (e : EventWithBytes) : Type 0 where
  pub from : Endpoint
  pub count : ℕ
  pub datagram : e.event.what ≡ what.Datagram from count
  pub message : CoapMessage
  pub spells : Spells message e.bytes
  pub block : Block
  pub joins : wanted_in message ≡ wanted.Joining block

-- A sign answers a block at once: the reply leaves open whether the blocks that came before were taken away.
pub record RefusesBlock (seen : List Sighting) : Type 0 where
  pub before : List Sighting
  pub event : EventWithBytes
  pub sign : Sighting
  pub later : List Sighting
  pub whole : seen ≡ before ++ at_network (heard event) ∷ sign ∷ later
  pub brings : BringsBlock event
  pub is_sign : IsSign sign

-- ---- states

-- an exchange but for its slot
abbrev pub unplaced : Exchange → Exchange
unplaced e = record e { slot = 0 }

pub record SameTable (t u : Table) : Type 0 where
  pub capacity : t.capacity ≡ u.capacity
  pub moment : t.moment ≡ u.moment
  pub exchanges : map unplaced t.exchanges ≡ map unplaced u.exchanges

pub record SameServer (s t : Server) : Type 0 where
  pub table : SameTable s.exchanges t.exchanges
  pub observers : s.observers ≡ t.observers
  pub next : s.next_id ≡ t.next_id
  pub bodies : s.bodies ≡ t.bodies
  pub parts : s.parts ≡ t.parts
  pub links : s.links ≡ t.links

-- Two states differ at most in the slots of kept replies.
pub record Alike (s t : State) : Type 0 where
  pub moment : s.moment ≡ t.moment
  pub http : s.http ≡ t.http
  pub coap : SameServer s.coap t.coap
  pub thing : s.thing ≡ t.thing
  pub directory : s.directory ≡ t.directory

-- ---- runs

-- two runs are seen alike, and end alike
pub record Agree (a b : List Sighting) (s t : State) : Type 0 where
  pub seen : a ≡ b
  pub state : Alike s t

-- the handlers gave these answers, by the numbers of the turns
abbrev pub AreAnswered : (ℕ → Answer) → List Sighting → Type 0
AreAnswered answers seen = AreAnsweredBy answers (calls_in seen)

-- "One run, one outcome": two runs from the start with the same Things, events and answers of handlers are seen alike, up
-- to the first sign that memory was wanting in either. Where both have the same signs, of which none answers a block at
-- once, they are seen alike throughout: the same acts and the same calls, in the same order.
pub record AreDetermined (seen shown : List Sighting) (s t : State) : Type 0 where
  pub up_to_sign : Agree seen shown s t ⊎ AreSameUpToSign seen shown
  pub throughout : HasSignsOf seen shown → HasSignsOf shown seen → ¬ (RefusesBlock seen) → Agree seen shown s t

abbrev pub RunsAreDetermined : Type 0
RunsAreDetermined =
    (site : Site) (exchanges : ℕ) (epoch : Option ℕ) (took : List EventWithBytes) (answers : ℕ → Answer) (seen shown : List Sighting) (s t : State)
    → Run site took (start site exchanges epoch) seen s → Run site took (start site exchanges epoch) shown t → AreAnswered answers seen → AreAnswered answers shown
    → AreDetermined seen shown s t
