-- Laws of the world over every schedule.
use Rattle.std.specs.Prelude.{◌≡◌, ◌≢◌, ◌<◌, ◌≤◌, ◌-◌, ◌⊎◌, ℕ, true, List, length, codes, All, AllPairs, Contains, Option, Some, None, IsSome, slice_get}
use Rattle.coap_msg.specs.declared.block.Block.{Block}
use Rattle.coap_msg.specs.Grammar.{CoapMessage, Spells}
use Rattle.coap_client.specs.declared.outstanding.Outstanding.{Outstanding}
use Rattle.coap_client.specs.Answers.{block2_of}
use Rattle.coap_opts.specs.Reading.{AskSeen, asked as what_is_asked}
use Rattle.thing_ops.specs.declared.verb.Verb.{Verb}
use Rattle.thing_ops.specs.declared.verb.Verb.TheVariants as verb
use Rattle.thing_ops.specs.Outcomes.{coap}
use Rattle.coap_bind.specs.declared.blocks.BlockUse.{BlockUse}
use Rattle.coap_bind.specs.declared.blocks.BlockUse.TheVariants as blocks
use Rattle.coap_bind.specs.Blocks.{answer_reply}
use Rattle.coap_bind.specs.Links.{size_asked}
use Rattle.coap_bind.specs.Observing.{observing_at}
use Rattle.coap_bind.specs.Server.{asks_links}
use Rattle.coap_bind.specs.Treating.{Acted}
use Rattle.coap_bind.specs.Writing.{Reply, reply_options}
use Rattle.servient_world.specs.World.{Emission, WorldState, WorldMove, Act, Value, answered, observed, IsStart, PlaysAll}

-- no two acts are for one ask
abbrev pub AreForDifferentAsks : List Act → Type 0
AreForDifferentAsks acts = AllPairs (λ x y. x.ask ≢ y.ask) acts

-- For each ask the server makes at most one act.
abbrev pub ActedOnce : Type 0
ActedOnce =
    (first_id exchanges observers : ℕ) (moves : List WorldMove) (w v : WorldState) → IsStart first_id exchanges observers w → PlaysAll moves w v
    → AreForDifferentAsks v.acts

-- a response that says that the server did nothing: as many exchanges live as may, or memory was out
abbrev pub IsExcuse : ℕ → List ℕ → Type 0
IsExcuse code payload = (code ≡ coap 5 03) × ((payload ≡ codes "full") ⊎ (payload ≡ codes "memory"))

-- The use of blocks in the reply to an act (RFC 7959, sections 2.3 and 2.4): a GET reads its value in blocks, of the size that it
-- asks for and else of 1,024 bytes; and the reply to a request that came in blocks says which was the last. The reply doesn't
-- say for whom and when a body is kept.
abbrev pub blocks_joined : Option Block → BlockUse
blocks_joined None = blocks.Whole
blocks_joined (Some b) = blocks.Joined b

abbrev pub blocks_by : Verb → AskSeen → BlockUse
blocks_by verb.Get a = blocks.Gives (record { path = a.request.path; szx = size_asked (observing_at a.observe) a; moment = 0 })
blocks_by verb.Head a = blocks.Whole
blocks_by verb.Put a = blocks_joined a.block1
blocks_by verb.Post a = blocks_joined a.block1
blocks_by verb.Patch a = blocks.Whole
blocks_by verb.Delete a = blocks.Whole
blocks_by verb.Other a = blocks.Whole

abbrev pub blocks_for : AskSeen → BlockUse
blocks_for a = blocks_by a.request.verb a

-- the server's reply on an act for an ask
abbrev pub said_of : Acted → Reply
said_of a = answer_reply (blocks_for a.what) a.outcome

-- an act for an ask, and its outcome as the server writes it
pub record IsAnsweredBy (acts : List Act) (k code : ℕ) (block : Option Block) (payload : List ℕ) : Type 0 where
  pub act : Act
  pub made : Contains acts act
  pub for_it : act.ask ≡ k
  pub says_code : code ≡ (said_of act.acted).code
  pub says_block : block ≡ block2_of (reply_options (said_of act.acted))
  pub says_payload : payload ≡ (said_of act.acted).payload

-- an ask, and its message
pub record Asked (asks : List Outstanding) (k : ℕ) : Type 0 where
  pub request : Outstanding
  pub ask : slice_get asks k ≡ Some request
  pub message : CoapMessage
  pub spells : Spells message request.sent

-- it is for the path of the links, and is answered without an act
abbrev pub AsksLinks : List Outstanding → ℕ → Type 0
AsksLinks asks k = (x : Asked asks k) × (asks_links x.message ≡ true)

-- a block after the first
abbrev pub IsLater : Block → Type 0
IsLater b = b.number ≢ 0

-- It has a block of its body, or asks for a block after the first: such an ask need not be acted on.
abbrev pub AsksOfBlocks : List Outstanding → ℕ → Type 0
AsksOfBlocks asks k =
    (x : Asked asks k)
    × (IsSome (what_is_asked x.message).block1 ⊎ ((b : Block) × ((what_is_asked x.message).block2 ≡ Some b) × IsLater b))

-- For an ask for any other path and without such blocks that ended with any other response the server made an act (and
-- only one, by the law before), and the response says its outcome.
abbrev pub AnsweredOnce : Type 0
AnsweredOnce =
    (first_id exchanges observers : ℕ) (moves : List WorldMove) (w v : WorldState) (k code : ℕ) (block : Option Block) (payload : List ℕ)
    → IsStart first_id exchanges observers w → PlaysAll moves w v → length v.asks ≤ 65536
    → ¬ (AsksLinks v.asks k) → ¬ (AsksOfBlocks v.asks k) → Contains v.ends (record { ask = k; end = answered code block payload })
    → IsExcuse code payload ⊎ IsAnsweredBy v.acts k code block payload

-- For an ask that ended with a value of its target the server made an act.
abbrev pub ObservedOnce : Type 0
ObservedOnce =
    (first_id exchanges observers : ℕ) (moves : List WorldMove) (w v : WorldState) (k : ℕ)
    → IsStart first_id exchanges observers w → PlaysAll moves w v → length v.asks ≤ 65536
    → Contains v.ends (record { ask = k; end = observed }) → (x : Act) × Contains v.acts x × (x.ask ≡ k)

-- of the values that are taken for one ask none is of an earlier emission than one before it
abbrev pub NeverGoBack : List Value → Type 0
NeverGoBack taken = AllPairs (λ x y. x.ask ≡ y.ask → x.place ≤ y.place) taken

-- Values never go back; and the one that a registration read, whose place is 0, comes first, if it is taken.
abbrev pub ValuesNeverGoBack : Type 0
ValuesNeverGoBack =
    (first_id exchanges observers : ℕ) (moves : List WorldMove) (w v : WorldState)
    → IsStart first_id exchanges observers w → PlaysAll moves w v → length v.asks ≤ 65536 → v.ids ≤ 65536 → NeverGoBack v.taken

-- A value was read by the registration of its ask: it is the outcome of the act for that.
pub record WasRead (acts : List Act) (x : Value) : Type 0 where
  pub act : Act
  pub made : Contains acts act
  pub for_it : act.ask ≡ x.ask
  pub first : x.place ≡ 0
  pub payload : x.payload ≡ (said_of act.acted).payload

-- A value was emitted for the target for which its ask registered.
pub record WasEmitted (acts : List Act) (emitted : List Emission) (x : Value) : Type 0 where
  pub act : Act
  pub made : Contains acts act
  pub for_it : act.ask ≡ x.ask
  pub target : ℕ
  pub of_target : act.acted.target ≡ Some target
  pub some : 0 < x.place
  pub there : slice_get emitted (x.place - 1) ≡ Some (record { target = target; text = x.payload })

-- Each value that is taken was one of the two.
abbrev pub HaveASource : List Act → List Emission → List Value → Type 0
HaveASource acts emitted taken = All (λ x. WasRead acts x ⊎ WasEmitted acts emitted x) taken

abbrev pub ValuesHaveASource : Type 0
ValuesHaveASource =
    (first_id exchanges observers : ℕ) (moves : List WorldMove) (w v : WorldState)
    → IsStart first_id exchanges observers w → PlaysAll moves w v → length v.asks ≤ 65536
    → HaveASource v.acts v.emitted v.taken
