-- The blocks of a run (RFC 7959, sections 2.3 to 2.5): each block of a response is a part of one act's payload, or of
-- the links to the Things, and the blocks of a request's body lead to one act where the last of them came, and else to
-- none.
use Rattle.std.specs.Prelude.{◌≡◌, ◌⊎◌, ◌≤◌, ℕ, max, true, false, IfSome, Option, Some, List, [], ◌∷◌, ◌++◌, length}
use Rattle.std.specs.List.{remove}
use Rattle.coap_msg.specs.declared.block.Block.{Block}
use Rattle.coap_msg.specs.declared.endpoint.Endpoint.{Endpoint}
use Rattle.coap_msg.specs.Blocks.{block_start}
use Rattle.coap_msg.specs.Grammar.{CoapMessage, spelling}
use Rattle.coap_exchange.specs.Admission.{admitted}
use Rattle.coap_blocks.specs.Bodies.{Body, body_for}
use Rattle.coap_blocks.specs.Laws.{IsRowFrom, joined_payloads}
use Rattle.coap_blocks.specs.Parts.{Arrival as BlockArrival, Part}
use Rattle.coap_blocks.specs.declared.added.Added.{Added}
use Rattle.coap_blocks.specs.declared.added.Added.TheVariants.{Complete}
use Rattle.coap_blocks.specs.Paths.{lives}
use Rattle.coap_opts.specs.Reading.{faults_of, asked as what_is_asked}
use Rattle.coap_bind.specs.declared.blocks.BlockWish.TheVariants as wanted
use Rattle.coap_bind.specs.Blocks.{use_of, portion_at, content_reply, block_reply, added_reply}
use Rattle.coap_bind.specs.Server.{asks_links, observing_in, wanted_in, with_whole_body, block_arrival, Adds}
use Rattle.coap_bind.specs.Writing.{Reply, reply_of, head_of, coap_reply}
use Rattle.thing_ops.specs.declared.outcome.Outcome.TheVariants as outcome
use Rattle.thing_ops.specs.Outcomes.{payload_of}
use Rattle.thing_ops.specs.Requests.{RequestSeen}
use Rattle.thing_core.specs.Thing.{Done, Acts}
use Rattle.servient_outside.specs.declared.net.EventWithBytes.{EventWithBytes}
use Rattle.servient_trace.specs.Trace.{Sighting, calls_in}
use Rattle.servient_core.specs.Links.{segments_of, text_of_links}
use Rattle.servient_core.specs.Machine.{Site, State, start, EventAndStep, Run}
use Rattle.servient_laws.specs.Payloads.{SaysByCoap}
use Rattle.servient_laws.specs.Requests.{Brings, moment_of, ComesTo, ActsOnNothing, sends_back}

-- ---- what comes of an event

-- One act is made on this request, and it is all that the event does to the Things: each call of the event is a call of
-- it.
abbrev pub ActsOnce : Site → RequestSeen → Done → State → List Sighting → State → Type 0
ActsOnce site q done s seen t = Acts site q done s.thing (calls_in seen) t.thing

-- No act is made, and this is sent back to the request.
pub record IsRepliedTo (r : Reply) (from : Endpoint) (m : CoapMessage) (s : State) (e : EventWithBytes) (seen : List Sighting) (t : State) : Type 0 where
  pub middle : State
  pub nothing : ActsOnNothing e s (sends_back from (spelling (coap_reply r (head_of m) s.coap.next_id))) middle seen t

-- ---- blocks of a response

-- A body is what a request gave: one act was made on it, and the body is the payload of its outcome; or it is for the
-- links, and the body is their text.
pub data Gave (site : Site) (m : CoapMessage) (bytes : List ℕ) (s : State) (seen : List Sighting) (t : State) : Type 0 where
  by_act : (done : Done) → ActsOnce site (what_is_asked m).request done s seen t → bytes ≡ payload_of done.outcome → Gave site m bytes s seen t
  by_links : asks_links m ≡ true → bytes ≡ text_of_links (segments_of site) → Gave site m bytes s seen t

-- In a run from the start an event brought a request of the body's endpoint for the body's path, which gave the body.
-- It is kept since that moment.
pub record WasGiven (site : Site) (exchanges : ℕ) (epoch : Option ℕ) (took : List EventWithBytes) (seen : List Sighting) (b : Body) : Type 0 where
  pub earlier : List EventWithBytes
  pub e : EventWithBytes
  pub later : List EventWithBytes
  pub events : took ≡ earlier ++ e ∷ later
  pub before : List Sighting
  pub during : List Sighting
  pub after : List Sighting
  pub trace : seen ≡ before ++ (during ++ after)
  pub s : State
  pub t : State
  pub run : Run site earlier (start site exchanges epoch) before s
  pub step : EventAndStep site e s during t
  pub m : CoapMessage
  pub brings : Brings b.from m e
  pub path : (what_is_asked m).request.path ≡ b.path
  pub gave : Gave site m b.content.bytes s during t
  pub moment : b.moment ≡ moment_of s e

-- The reply to a request for a later block, at a moment: the part of a body, from the block's number times its size on,
-- that was given to this endpoint for this path less than 247,000 ms before; or a refusal where none is kept, or it
-- ends before; or out of memory.
pub data IsLaterBlock (site : Site) (exchanges : ℕ) (epoch : Option ℕ) (took : List EventWithBytes) (seen : List Sighting) (from : Endpoint) (path : List (List ℕ)) (now : ℕ) (b : Block) (s : State) (r : Reply) : Type 0 where
  part : (x : Body) → WasGiven site exchanges epoch took seen x → x.from ≡ from → x.path ≡ path → lives now x.moment ≡ true
      → r ≡ content_reply (portion_at b x.content.bytes) x.content → IsLaterBlock site exchanges epoch took seen from path now b s r
  none : IfSome (body_for from path now s.coap.bodies) (λ x. length x.content.bytes ≤ block_start b) → r ≡ block_reply
      → IsLaterBlock site exchanges epoch took seen from path now b s r
  no_memory : r ≡ reply_of outcome.Memory → IsLaterBlock site exchanges epoch took seen from path now b s r

-- ---- blocks of a request

-- this is a block of a request that an event brought at a moment
pub record IsBlockIn (now : ℕ) (e : EventWithBytes) (a : BlockArrival) : Type 0 where
  pub from : Endpoint
  pub m : CoapMessage
  pub b : Block
  pub brings : Brings from m e
  pub wants : wanted_in m ≡ wanted.Joining b
  pub is : a ≡ block_arrival from now m b

-- A row of blocks that events brought, in their order, each at the greatest moment so far, from this one on. Others may
-- be left out.
abbrev pub AreBlocksFrom : ℕ → List EventWithBytes → List BlockArrival → Type 0
AreBlocksFrom moment [] row = row ≡ []
AreBlocksFrom moment (e ∷ es) row =
    AreBlocksFrom (max moment e.event.moment) es row
    ⊎ ((a : BlockArrival) × (rest : List BlockArrival) × IsBlockIn (max moment e.event.moment) e a
    × AreBlocksFrom (max moment e.event.moment) es rest × (row ≡ a ∷ rest))

-- The outcome of a block of a request, of which this became with the parts, so that these are left.
pub data ComesOfBlock (site : Site) (took : List EventWithBytes) (from : Endpoint) (m : CoapMessage) (b : Block) (added : Added) (parts : List Part) (s : State) (e : EventWithBytes) (seen : List Sighting) (t : State) : Type 0 where
  -- out of memory: no block was joined
  not_joined : IsRepliedTo (reply_of outcome.Memory) from m s e seen t → t.coap.parts ≡ s.coap.parts → ComesOfBlock site took from m b added parts s e seen t
  -- others are to come, or it isn't taken: no act is made
  not_whole : (r : Reply) → added_reply b added ≡ Some r → IsRepliedTo r from m s e seen t → t.coap.parts ≡ parts → ComesOfBlock site took from m b added parts s e seen t
  -- it was the last: one act is made, on the payloads joined of a row of blocks of the run, of one endpoint, code and
  -- path, each of which begins where those before it end; and the body has left
  whole : (place : ℕ) (row : List BlockArrival) (done : Done) → added ≡ Complete place → AreBlocksFrom 0 took row
      → IsRowFrom (block_arrival from (moment_of s e) m b).origin 0 (row ++ block_arrival from (moment_of s e) m b ∷ [])
      → ActsOnce site (with_whole_body (joined_payloads (row ++ block_arrival from (moment_of s e) m b ∷ [])) (what_is_asked m)).request done s seen t
      → t.coap.parts ≡ remove parts place → ComesOfBlock site took from m b added parts s e seen t

-- ---- the sentences

-- A request that is admitted, wants an act and isn't for the links makes one, and the part of its outcome's payload
-- that is to be given first is sent; or it is out of memory, and makes none.
abbrev pub RequestsActOnce : Type 0
RequestsActOnce =
    (site : Site) (exchanges : ℕ) (epoch : Option ℕ) (from : Endpoint) (m : CoapMessage) (s t : State) (e : EventWithBytes) (seen : List Sighting)
    → ComesTo admitted site exchanges epoch from m s e seen t → faults_of m.options ≡ [] → wanted_in m ≡ wanted.Act → asks_links m ≡ false
    → IsRepliedTo (reply_of outcome.Memory) from m s e seen t
    ⊎ ((done : Done) × ActsOnce site (what_is_asked m).request done s seen t
    × SaysByCoap from (use_of (moment_of s e) m.code (observing_in m) (what_is_asked m)) done.outcome seen)

-- Each later block that is sent is a part of what one act gave to its endpoint for its path, or of the links, and no
-- act is made for it (RFC 7959, section 2.4).
abbrev pub LaterBlocksAreOfOneAct : Type 0
LaterBlocksAreOfOneAct =
    (site : Site) (exchanges : ℕ) (epoch : Option ℕ) (from : Endpoint) (m : CoapMessage) (b : Block) (s t : State) (e : EventWithBytes) (seen : List Sighting)
    (comes : ComesTo admitted site exchanges epoch from m s e seen t) → faults_of m.options ≡ [] → wanted_in m ≡ wanted.LaterBlock b
    → (r : Reply) × IsRepliedTo r from m s e seen t
    × IsLaterBlock site exchanges epoch comes.took comes.before from (what_is_asked m).request.path (moment_of s e) b s r

-- The blocks of a request's body for another path than that of the links lead to one act once the last came, on their
-- payloads joined, and each before it, and each that isn't taken, to none (RFC 7959, section 2.5).
abbrev pub JoinedBodiesActOnce : Type 0
JoinedBodiesActOnce =
    (site : Site) (exchanges : ℕ) (epoch : Option ℕ) (from : Endpoint) (m : CoapMessage) (b : Block) (s t : State) (e : EventWithBytes) (seen : List Sighting)
    (comes : ComesTo admitted site exchanges epoch from m s e seen t) → faults_of m.options ≡ [] → wanted_in m ≡ wanted.Joining b → asks_links m ≡ false
    → (added : Added) × (parts : List Part) × Adds from (moment_of s e) m b s.coap added parts × ComesOfBlock site comes.took from m b added parts s e seen t
