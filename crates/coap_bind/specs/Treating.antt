-- The treatment of a datagram, from its coming to its answer: said of the table of exchanges, of the observers and of
-- the bytes that are sent back (RFC 7252, sections 4.2 to 4.5; RFC 7641, section 4.1).
use Rattle.std.specs.Prelude.{◌≡◌, ◌≢◌, ◌⊎◌, ℕ, true, List, [], ◌∷◌, ◌++◌, Option, Some, None}
use Rattle.coap_msg.specs.declared.block.Block.{Block}
use Rattle.coap_msg.specs.declared.endpoint.Endpoint.{Endpoint}
use Rattle.coap_msg.specs.declared.message.Type4.TheVariants.{Ack, Rst}
use Rattle.coap_msg.specs.declared.message.RequestType.{RequestType}
use Rattle.coap_msg.specs.declared.message.RequestType.TheVariants.{Confirmable, NonConfirmable}
use Rattle.coap_msg.specs.Grammar.{CoapMessage, Spells, spelling}
use Rattle.coap_msg.specs.Requests.{request_type}
use Rattle.coap_exchange.specs.Table.{Exchange, at_moment, duplicated_exchange, exchange_in}
use Rattle.thing_ops.specs.declared.outcome.Outcome.{Outcome}
use Rattle.thing_ops.specs.declared.outcome.Outcome.TheVariants.{Memory}
use Rattle.thing_ops.specs.Outcomes.{HasCode}
use Rattle.coap_observe.specs.Watching.{Watching}
use Rattle.coap_opts.specs.Reading.{AskSeen, faults_of, asked as what_is_asked}
use Rattle.coap_bind.specs.declared.pending.PendingReply.{PendingReply}
use Rattle.coap_bind.specs.declared.server.Server.{Server}
use Rattle.coap_bind.specs.Writing.{Reply, full_reply, reply_of, observed, head_of, coap_reply}
use Rattle.coap_bind.specs.declared.blocks.BlockUse.TheVariants.{Joined}
use Rattle.coap_bind.specs.declared.blocks.BlockWish.TheVariants.{Act, Joining}
use Rattle.coap_bind.specs.Blocks.{answer_reply, use_of}
use Rattle.coap_bind.specs.Links.{size_asked, links_reply, method_reply, observers_with_links}
use Rattle.coap_bind.specs.Observing.{effect_of, Watches}
use Rattle.coap_bind.specs.Server.{Heard, ignored, answered_at_once, asked, told_by, is_request, duplicate_reply, arrival, asks_links, observing_in, wanted_in, with_whole_body, Hears, Answers}
use Rattle.coap_bind.specs.Laws.{HasShortPlace}

-- An act: the request, its outcome, and the target that the request was for, if it was for one.
pub record Acted : Type 0 where
  pub what : AskSeen
  pub outcome : Outcome
  pub target : Option ℕ

-- The treatment of a datagram by a server, and the bytes that are sent back: it is ignored, or answered at once; or its
-- request is done, once, and answered.
pub data Treats (from : Endpoint) (bytes : List ℕ) (now : ℕ) (act : Option Acted) (back : List (List ℕ)) (s t : Server) : Type 0 where
  ignores : Hears from bytes now ignored s t → act ≡ None → back ≡ [] → Treats from bytes now act back s t
  answers : (reply : List ℕ) → Hears from bytes now (answered_at_once reply) s t → act ≡ None → back ≡ reply ∷ []
      → Treats from bytes now act back s t
  acts : (a : Acted) (ask : PendingReply) (reply : List ℕ) (u : Server) → Hears from bytes now (asked a.what ask) s u
      → HasCode a.outcome → HasShortPlace a.outcome → Answers ask a.outcome a.target reply u t → act ≡ Some a → back ≡ reply ∷ []
      → Treats from bytes now act back s t

-- ---- the cases

-- The cases in which a request that was admitted at a moment gets this reply, and the observers afterwards: its options
-- are faulty, or memory is out; or it wants no act; or it is for the links, and gets their text or is refused; or it
-- was acted on, as it is or with a body that was joined of blocks, and the reply says the outcome of the act.
pub data IsReplied (from : Endpoint) (now : ℕ) (m : CoapMessage) (act : Option Acted) (r : Reply) (old new : Watching) : Type 0 where
  faulty : faults_of m.options ≢ [] → act ≡ None → new ≡ old → IsReplied from now m act r old new
  memory : r ≡ reply_of Memory → act ≡ None → new ≡ old → IsReplied from now m act r old new
  of_blocks : wanted_in m ≢ Act → act ≡ None → new ≡ old → IsReplied from now m act r old new
  of_links : (text : List ℕ) → asks_links m ≡ true → act ≡ None → new ≡ observers_with_links (observing_in m) from m.token old
      → r ≡ links_reply (size_asked (observing_in m) (what_is_asked m)) text → IsReplied from now m act r old new
  no_method : asks_links m ≡ true → act ≡ None → new ≡ old → r ≡ method_reply → IsReplied from now m act r old new
  acted : (a : Acted) (observe : Option ℕ) → act ≡ Some a → wanted_in m ≡ Act → a.what ≡ what_is_asked m → HasCode a.outcome → HasShortPlace a.outcome
      → Watches (effect_of (observing_in m) a.outcome a.target) from m.token old observe new
      → r ≡ observed observe (answer_reply (use_of now m.code (observing_in m) (what_is_asked m)) a.outcome) → IsReplied from now m act r old new
  acted_on_whole : (a : Acted) (observe : Option ℕ) (b : Block) (body : List ℕ) → act ≡ Some a → wanted_in m ≡ Joining b
      → a.what ≡ with_whole_body body (what_is_asked m) → HasCode a.outcome → HasShortPlace a.outcome
      → Watches (effect_of (observing_in m) a.outcome a.target) from m.token old observe new
      → r ≡ observed observe (answer_reply (Joined b) a.outcome) → IsReplied from now m act r old new

-- the reply that is kept to a request of this type
abbrev pub kept_for : RequestType → List ℕ → Option (List ℕ)
kept_for Confirmable reply = Some reply
kept_for NonConfirmable reply = None

-- the bytes that are sent back at once
abbrev pub sent_back : Heard → List (List ℕ)
sent_back ignored = []
sent_back (answered_at_once bytes) = bytes ∷ []
sent_back (asked what ask) = []

-- The effect of a message that is no request on the observers; bytes that are no message have none.
abbrev pub IsTold : Endpoint → List ℕ → Watching → Watching → Type 0
IsTold from bytes old new = (new ≡ old) ⊎ ((m : CoapMessage) × Spells m bytes × (new ≡ told_by from m old))

-- A datagram is no request; or it is a duplicate of an exchange, or finds the table full, or is admitted: then there is a new
-- exchange, in a slot of its own, with the reply that is kept.
pub data IsTreated (from : Endpoint) (bytes : List ℕ) (now : ℕ) (act : Option Acted) (back : List (List ℕ)) (s t : Server) : Type 0 where
  no_request : ((m : CoapMessage) → Spells m bytes → is_request m ≡ true → ⊥)
      → ((m : CoapMessage) → Spells m bytes → (m.kind ≡ Ack) ⊎ (m.kind ≡ Rst) → back ≡ []) → act ≡ None
      → t.exchanges ≡ s.exchanges → IsTold from bytes s.observers t.observers → IsTreated from bytes now act back s t
  is_duplicate : (m : CoapMessage) (e : Exchange) → Spells m bytes → is_request m ≡ true
      → duplicated_exchange (arrival from now m) (at_moment now s.exchanges) ≡ Some e → act ≡ None
      → back ≡ sent_back (duplicate_reply (request_type m.kind) e.reply)
      → t.exchanges ≡ at_moment now s.exchanges → t.observers ≡ s.observers → IsTreated from bytes now act back s t
  finds_full : (m : CoapMessage) → Spells m bytes → is_request m ≡ true → act ≡ None
      → back ≡ spelling (coap_reply full_reply (head_of m) s.next_id) ∷ []
      → t.exchanges ≡ at_moment now s.exchanges → t.observers ≡ s.observers → IsTreated from bytes now act back s t
  is_answered : (m : CoapMessage) (slot : ℕ) (r : Reply) (reply : List ℕ) → Spells m bytes → is_request m ≡ true
      → exchange_in slot (at_moment now s.exchanges) ≡ None → IsReplied from now m act r s.observers t.observers
      → reply ≡ spelling (coap_reply r (head_of m) s.next_id) → back ≡ reply ∷ []
      → t.exchanges.exchanges ≡ (at_moment now s.exchanges).exchanges
      ++ record { arrival = arrival from now m; slot = slot; reply = kept_for (request_type m.kind) reply } ∷ []
      → IsTreated from bytes now act back s t
  is_ignored : (m : CoapMessage) (slot : ℕ) → Spells m bytes → is_request m ≡ true → faults_of m.options ≢ [] → act ≡ None → back ≡ []
      → t.exchanges.exchanges ≡ (at_moment now s.exchanges).exchanges ++ record { arrival = arrival from now m; slot = slot; reply = None } ∷ []
      → t.observers ≡ s.observers → IsTreated from bytes now act back s t

-- These are all cases.
abbrev pub AllAreTreated : Type 0
AllAreTreated =
    (from : Endpoint) (bytes : List ℕ) (now : ℕ) (act : Option Acted) (back : List (List ℕ)) (s t : Server)
    → Treats from bytes now act back s t → IsTreated from bytes now act back s t
