-- The effects of a datagram at the server, as far as acts and blocks go (RFC 7252, section 4.5; RFC 7959, sections 2.4
-- and 2.5; RFC 6690, section 4). A request that is admitted leads to exactly one of the cases of `Led`, and only two of
-- these are acts.
use Rattle.std.specs.Prelude.{◌≡◌, ◌≢◌, ◌⊎◌, ℕ, true, false, List, [], ◌∷◌, Option, Some, None, option_map, slice_get}
use Rattle.std.specs.List.{remove}
use Rattle.coap_msg.specs.declared.block.Block.{Block}
use Rattle.coap_msg.specs.declared.endpoint.Endpoint.{Endpoint}
use Rattle.coap_msg.specs.Grammar.{CoapMessage, Spells, spelling}
use Rattle.coap_exchange.specs.Table.{at_moment}
use Rattle.coap_exchange.specs.declared.met.Met.TheVariants.{Fresh}
use Rattle.coap_blocks.specs.Bodies.{Content, body_for}
use Rattle.coap_blocks.specs.Parts.{Arrival as BlockArrival, Part, living, after_block, Gives}
use Rattle.coap_blocks.specs.declared.added.Added.{Added}
use Rattle.coap_blocks.specs.declared.added.Added.TheVariants.{Complete}
use Rattle.thing_ops.specs.declared.outcome.Outcome.TheVariants.{Memory}
use Rattle.thing_ops.specs.Outcomes.{HasCode}
use Rattle.coap_opts.specs.Reading.{faults_of, asked as what_is_asked}
use Rattle.coap_bind.specs.declared.server.Server.{Server}
use Rattle.coap_bind.specs.declared.blocks.BlockUse.TheVariants.{Joined}
use Rattle.coap_bind.specs.declared.blocks.BlockWish.TheVariants.{Act, LaterBlock, Joining}
use Rattle.coap_bind.specs.Blocks.{use_of, answer_reply, bodies_after, later_reply, added_reply}
use Rattle.coap_bind.specs.Links.{size_asked, links_reply, method_reply, bodies_with_links}
use Rattle.coap_bind.specs.Observing.{effect_of, Watches}
use Rattle.coap_bind.specs.Writing.{Reply, reply_of, observed, head_of, coap_reply}
use Rattle.coap_bind.specs.Server.{is_request, asks_links, observing_in, wanted_in, with_whole_body, block_arrival, IsMet}
use Rattle.coap_bind.specs.Laws.{HasShortPlace}
use Rattle.coap_bind.specs.Treating.{Acted, Treats}

-- ---- the effect of a request

pub data Led : Type 0 where
  -- its options are refused, or it is ignored for them
  to_refusal : Led
  -- memory is out, before anything was done
  to_no_memory : Led
  -- it is for the links: their text is given, or its verb is refused
  to_links : Led
  -- it asks for a block after the first of the representation at this path, which is given of this body that is kept;
  -- or none is kept for it
  to_later_block : List (List ℕ) → Block → Option Content → Led
  -- a block of a body came, to which this was answered: others are to come, or it isn't taken
  to_parts : BlockArrival → Added → Led
  -- it is acted on, as it is
  to_act : Acted → Led
  -- it is acted on, with the body of which this was the last block
  to_act_on_whole : BlockArrival → Acted → Led

-- the act that was made, if one was
abbrev pub act_in : Led → Option Acted
act_in to_refusal = None
act_in to_no_memory = None
act_in to_links = None
act_in (to_later_block path b found) = None
act_in (to_parts a added) = None
act_in (to_act a) = Some a
act_in (to_act_on_whole block a) = Some a

-- The cases in which the request of a message leads to this, and the reply, which says this sequence number of an
-- observation if it says one. This is the text of the links.
pub data LeadsTo (from : Endpoint) (now : ℕ) (m : CoapMessage) (links : List ℕ) (seen : Option ℕ) (led : Led) (r : Reply) : Type 0 where
  is_refused : faults_of m.options ≢ [] → led ≡ to_refusal → LeadsTo from now m links seen led r
  finds_no_memory : led ≡ to_no_memory → r ≡ reply_of Memory → LeadsTo from now m links seen led r
  gets_links : wanted_in m ≡ Act → asks_links m ≡ true → led ≡ to_links → r ≡ links_reply (size_asked (observing_in m) (what_is_asked m)) links
      → LeadsTo from now m links seen led r
  gets_no_links : asks_links m ≡ true → led ≡ to_links → r ≡ method_reply → LeadsTo from now m links seen led r
  gets_block : (b : Block) (found : Option Content) → wanted_in m ≡ LaterBlock b → led ≡ to_later_block (what_is_asked m).request.path b found → r ≡ later_reply b found
      → LeadsTo from now m links seen led r
  is_joined : (b : Block) (added : Added) → wanted_in m ≡ Joining b → led ≡ to_parts (block_arrival from now m b) added
      → added_reply b added ≡ Some r → LeadsTo from now m links seen led r
  is_acted_on : (a : Acted) → wanted_in m ≡ Act → asks_links m ≡ false → led ≡ to_act a → a.what ≡ what_is_asked m
      → HasCode a.outcome → HasShortPlace a.outcome
      → r ≡ observed seen (answer_reply (use_of now m.code (observing_in m) (what_is_asked m)) a.outcome) → LeadsTo from now m links seen led r
  is_acted_on_whole : (a : Acted) (b : Block) (body : List ℕ) → wanted_in m ≡ Joining b → asks_links m ≡ false
      → led ≡ to_act_on_whole (block_arrival from now m b) a → a.what ≡ with_whole_body body (what_is_asked m)
      → HasCode a.outcome → HasShortPlace a.outcome → r ≡ observed seen (answer_reply (Joined b) a.outcome) → LeadsTo from now m links seen led r

-- ---- the bodies that are kept afterwards, and the parts

pub record SameBlocks (s t : Server) : Type 0 where
  pub bodies : t.bodies ≡ s.bodies
  pub parts : t.parts ≡ s.parts

-- a block came, and this was answered to it, which left these parts
pub record BlockComes (from : Endpoint) (now : ℕ) (m : CoapMessage) (a : BlockArrival) (added : Added) (s : Server) (parts : List Part) : Type 0 where
  pub arrival : a ≡ block_arrival from now m a.block
  pub gives : Gives (after_block a (living now s.parts)) added parts

-- the last block of a body came, which leaves the parts
pub record BodyCompletes (from : Endpoint) (now : ℕ) (m : CoapMessage) (a : BlockArrival) (s t : Server) : Type 0 where
  pub place : ℕ
  pub parts : List Part
  pub whole : Part
  pub comes : BlockComes from now m a (Complete place) s parts
  pub there : slice_get parts place ≡ Some whole
  pub after : t.parts ≡ remove parts place
  pub bodies : t.bodies ≡ s.bodies

-- a request for the links leaves their text, where that is given in blocks, or nothing new; and a body for them goes
pub data LeavesLinks (from : Endpoint) (now : ℕ) (m : CoapMessage) (s t : Server) : Type 0 where
  leaves_text : asks_links m ≡ true
      → t.bodies ≡ bodies_with_links from (what_is_asked m).request.path now (size_asked (observing_in m) (what_is_asked m)) s.links s.bodies
      → t.parts ≡ s.parts → LeavesLinks from now m s t
  leaves_nothing : SameBlocks s t → LeavesLinks from now m s t
  drops_body : (a : BlockArrival) (place : ℕ) (parts : List Part) → BlockComes from now m a (Complete place) s parts → t.parts ≡ remove parts place
      → t.bodies ≡ s.bodies → LeavesLinks from now m s t

abbrev pub Leaves : Endpoint → ℕ → CoapMessage → Led → Server → Server → Type 0
Leaves from now m to_refusal s t = SameBlocks s t
Leaves from now m to_no_memory s t = SameBlocks s t
Leaves from now m to_links s t = LeavesLinks from now m s t
Leaves from now m (to_later_block path b found) s t = (found ≡ option_map (λ x. x.content) (body_for from path now s.bodies)) × SameBlocks s t
Leaves from now m (to_parts a added) s t = BlockComes from now m a added s t.parts × (t.bodies ≡ s.bodies)
Leaves from now m (to_act a) s t =
    (t.bodies ≡ bodies_after (use_of now m.code (observing_in m) (what_is_asked m)) from a.outcome s.bodies) × (t.parts ≡ s.parts)
Leaves from now m (to_act_on_whole a x) s t = (c : BodyCompletes from now m a s t) × (x.what.request.body ≡ c.whole.bytes)

-- ---- any datagram

-- A datagram isn't admitted: it is no request, or it is a duplicate, or it finds the table full.
pub record IsPassedOver (bytes : List ℕ) (now : ℕ) (act : Option Acted) (s t : Server) : Type 0 where
  pub act_is : act ≡ None
  pub same : SameBlocks s t
  pub links : t.links ≡ s.links
  pub exchanges : (m : CoapMessage) → Spells m bytes → is_request m ≡ true → t.exchanges ≡ at_moment now s.exchanges

-- the reply is sent back, or nothing is where the request is ignored
abbrev pub IsBack : CoapMessage → Led → Reply → ℕ → List (List ℕ) → Type 0
IsBack m led r next back = (back ≡ spelling (coap_reply r (head_of m) next) ∷ []) ⊎ ((back ≡ []) × (led ≡ to_refusal))

-- It is a request that is admitted, and leads to one of the cases of `Led`.
pub record IsLed (from : Endpoint) (bytes : List ℕ) (now : ℕ) (act : Option Acted) (back : List (List ℕ)) (s t : Server) : Type 0 where
  pub message : CoapMessage
  pub slot : ℕ
  pub between : Server
  pub met : IsMet from bytes now message (Fresh slot) s between
  pub seen : Option ℕ
  pub led : Led
  pub reply : Reply
  pub leads : LeadsTo from now message s.links seen led reply
  pub leaves : Leaves from now message led s t
  pub act_is : act ≡ act_in led
  pub watches : (a : Acted) → act ≡ Some a → Watches (effect_of (observing_in message) a.outcome a.target) from message.token s.observers seen t.observers
  pub sent : IsBack message led reply s.next_id back
  pub links : t.links ≡ s.links

-- These are all cases: so an act is made for a request that leads to one, and for nothing else.
abbrev pub AllAreLed : Type 0
AllAreLed =
    (from : Endpoint) (bytes : List ℕ) (now : ℕ) (act : Option Acted) (back : List (List ℕ)) (s t : Server)
    → Treats from bytes now act back s t → IsPassedOver bytes now act s t ⊎ IsLed from bytes now act back s t
