-- Laws of the requests that a client sends (RFC 7252, sections 4.2, 4.4 and 4.7).
use Rattle.std.specs.Prelude.{◌≡◌, ◌≢◌, ◌<◌, ◌≤◌, ◌+◌, ℕ, List, [], ◌∷◌, ◌++◌, length, take, Some, AllPairs}
use Rattle.coap_msg.specs.declared.endpoint.Endpoint.{Endpoint}
use Rattle.coap_msg.specs.declared.message.Type4.TheVariants.{Con}
use Rattle.coap_msg.specs.Grammar.{CoapMessage, Spells}
use Rattle.coap_client.specs.declared.outstanding.Outstanding.{Outstanding}
use Rattle.coap_client.specs.declared.state.State.{State}
use Rattle.coap_client.specs.declared.due.Due.TheVariants.{Send}
use Rattle.coap_client.specs.Asking.{Asking, MayAsk, message_for}
use Rattle.coap_client.specs.Exchange.{at_moment, Asks, request_for, token_for, ComesDue}
use Rattle.coap_client.specs.Laws.{Did}

-- One request at two moments: the number of moments for a retransmission that have come, and whether it was
-- acknowledged, may differ.
pub record IsSameRequest (a o : Outstanding) : Type 0 where
  pub peer : a.peer ≡ o.peer
  pub id : a.id ≡ o.id
  pub token : a.token ≡ o.token
  pub first : a.first ≡ o.first
  pub registers : a.registers ≡ o.registers
  pub sent : a.sent ≡ o.sent

-- The outstanding request is the last one that was sent (section 4.7).
abbrev pub LastIsOutstanding : Type 0
LastIsOutstanding =
    (sent : List Outstanding) (s : State) (o : Outstanding) → Did sent s → s.outstanding ≡ Some o
    → (before : List Outstanding) × (a : Outstanding) × (sent ≡ before ++ a ∷ []) × IsSameRequest a o

-- A retransmission is that one, byte for byte, and less than 93 seconds have passed since it was sent first (section
-- 4.8.2).
abbrev pub LastIsRetransmitted : Type 0
LastIsRetransmitted =
    (sent : List Outstanding) (s t : State) (now n : ℕ) (old new : List ℕ)
    → Did sent s → s.moment ≤ now → ComesDue (at_moment now s) (Send n) old new t
    → (before : List Outstanding) × (a : Outstanding) × (sent ≡ before ++ a ∷ []) × (take n new ≡ a.sent) × (now < a.first + 93000)

-- The ids of the first 65,536 requests differ, however long they take (section 4.4).
abbrev pub IdsDiffer : Type 0
IdsDiffer = (sent : List Outstanding) (s : State) → Did sent s → length sent ≤ 65536 → AllPairs (λ a b. a.id ≢ b.id) sent

-- The bytes of a request spell this message: it is Confirmable, has the id and the token of the request, and a code of class 0
-- that isn't 0.00 (sections 4.2 and 12.1.1).
pub record IsMessageOf (a : Outstanding) (m : CoapMessage) : Type 0 where
  pub spells : Spells m a.sent
  pub kind : m.kind ≡ Con
  pub id : m.id ≡ a.id
  pub token : m.token ≡ a.token
  pub code : m.code ≢ 0
  pub class : m.code < 32

-- An ask that is allowed is sent as a message: it is within the bounds of one (section 3).
abbrev pub AsksAreMessages : Type 0
AsksAreMessages =
    (sent : List Outstanding) (s t : State) (now : ℕ) (peer : Endpoint) (a : Asking) (n : ℕ) (old new : List ℕ)
    → Did sent s → MayAsk a → (asks : Asks (at_moment now s) peer a n old new t)
    → IsMessageOf (request_for (at_moment now s) peer a asks.id) (message_for a asks.id (token_for (at_moment now s) peer a.observe))
