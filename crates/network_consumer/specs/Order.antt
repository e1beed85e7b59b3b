-- Why a further request over CoAP is refused for want of room alone: the request before it was answered, and each request
-- has a message ID of its own (RFC 7252, section 4.4), of which there are more than there are blocks to ask for.
use Rattle.std.specs.Prelude.{◌≡◌, ◌<◌, ◌≤◌, ◌+◌, ◌/◌, ℕ, Bool, false, List, length, slice_index_or, Option, Some, None, IfSome}
use Rattle.coap_msg.specs.declared.block.Block.{Block}
use Rattle.coap_client.specs.declared.state.State.{State}
use Rattle.coap_client.specs.declared.news.News.{News}
use Rattle.coap_client.specs.declared.news.News.TheVariants as news
use Rattle.coap_client.specs.Transfers.{longest_transfer}
use Rattle.wot_consumer.specs.declared.chosen.Chosen.{Chosen}
use Rattle.network_consumer.specs.declared.blocks.Blocks.{Blocks}
use Rattle.network_consumer.specs.declared.coap_waiting.CoapWaiting.{CoapWaiting}
use Rattle.network_consumer.specs.Asking.{most_input_blocks}

-- A client has used its message IDs in order, from 0 on, and only a registration has an observation, whose token is that of
-- the request that is outstanding, if one is.
pub record IsOrderly (observes : Bool) (s : State) : Type 0 where
  pub one_token : IfSome s.outstanding (λ o. IfSome s.observation (λ b. (b.peer ≡ o.peer) × (b.token ≡ o.token)))
  pub unobserved : observes ≡ false → s.observation ≡ None
  pub ids : length s.uses ≡ 65536
  pub unused : (id : ℕ) → s.next_id ≤ id → slice_index_or s.uses id None ≡ None

-- the number of a block; 0 where there is none
abbrev pub number_of : Option Block → ℕ
number_of None = 0
number_of (Some b) = b.number

-- The most requests before one with these blocks, where so much of the answer is joined: one for each block of what is
-- handed in that comes before, and one for each block of the answer, which has 16 bytes or more.
abbrev pub most_before : Blocks → List ℕ → ℕ
most_before b joined = number_of b.block1 + length joined / 16

-- there are so few blocks that no message ID comes twice
pub record AreFew (b : Blocks) (joined : List ℕ) : Type 0 where
  pub input : number_of b.block1 < most_input_blocks
  pub answer : length joined ≤ longest_transfer

-- A wait before each event: the client is orderly, and sent no more requests than there were blocks to ask for.
pub record IsInOrder (c : Chosen) (w : CoapWaiting) : Type 0 where
  pub client : IsOrderly c.observe w.client
  pub requests : w.client.next_id ≤ most_before w.transfer.asked w.transfer.joined + 1
  pub few : AreFew w.transfer.asked w.transfer.joined

-- A request with these blocks may be sent: none is outstanding, and there is a message ID for it.
pub record MayBeSent (c : Chosen) (w : CoapWaiting) (b : Blocks) : Type 0 where
  pub client : IsOrderly c.observe w.client
  pub free : w.client.outstanding ≡ None
  pub requests : w.client.next_id ≤ most_before b w.transfer.joined
  pub few : AreFew b w.transfer.joined

-- after an answer no request is outstanding
abbrev pub IsFreeAfter : News → State → Type 0
IsFreeAfter (news.Answered code block payload) s = s.outstanding ≡ None
IsFreeAfter (news.Value payload) s = Unit {0}
IsFreeAfter news.Old s = Unit {0}
IsFreeAfter news.Reset s = Unit {0}
IsFreeAfter news.Nothing s = Unit {0}
