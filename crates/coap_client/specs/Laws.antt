-- Laws of the client, over all that it does from its beginning (RFC 7252, sections 4.4, 4.8.2 and 5.3.2).
use Rattle.std.specs.Prelude.{◌≡◌, ◌<◌, ◌≤◌, ◌+◌, ◌⊎◌, ℕ, true, List, [], ◌∷◌, ◌++◌, take, Some, Contains, AllPairs}
use Rattle.coap_msg.specs.declared.endpoint.Endpoint.{Endpoint}
use Rattle.coap_msg.specs.Grammar.{CoapMessage}
use Rattle.coap_client.specs.declared.outstanding.Outstanding.{Outstanding}
use Rattle.coap_client.specs.declared.observation.Observation.{Observation}
use Rattle.coap_client.specs.declared.state.State.{State}
use Rattle.coap_client.specs.declared.news.Delivered.{Delivered}
use Rattle.coap_client.specs.declared.due.Due.{Due}
use Rattle.coap_client.specs.declared.due.Due.TheVariants.{Send}
use Rattle.coap_client.specs.Asking.{Asking}
use Rattle.coap_client.specs.Exchange.{at_moment, IsNew, Asks, request_for, Delivers, ComesDue}
use Rattle.coap_client.specs.Answers.{takes}
use Rattle.coap_client.specs.Times.{transmission_end}

-- The course of a client: the requests that it sent, in their order, and its contents now.
pub data Did : List Outstanding → State → Type 0 where
  nothing : (first_id : ℕ) (s : State) → IsNew first_id s → Did [] s
  -- an ask was sent
  asked : (sent : List Outstanding) (s t : State) (now : ℕ) (peer : Endpoint) (a : Asking) (n : ℕ) (old new : List ℕ)
      → Did sent s → s.moment ≤ now → (ask : Asks (at_moment now s) peer a n old new t)
      → Did (sent ++ request_for (at_moment now s) peer a ask.id ∷ []) t
  -- an ask was refused: it is a later moment, and nothing else changed
  refused : (sent : List Outstanding) (s : State) (now : ℕ) → Did sent s → s.moment ≤ now → Did sent (at_moment now s)
  -- bytes came
  took : (sent : List Outstanding) (s t : State) (now : ℕ) (from : Endpoint) (bytes : List ℕ) (told : Delivered) (old new : List ℕ)
      → Did sent s → s.moment ≤ now → Delivers (at_moment now s) from bytes told old new t → Did sent t
  -- it sent again what was due, or gave it up
  retransmitted : (sent : List Outstanding) (s t : State) (now : ℕ) (due : Due) (old new : List ℕ)
      → Did sent s → s.moment ≤ now → ComesDue (at_moment now s) due old new t → Did sent t

-- A retransmission is a request that was sent, byte for byte, and less than 93 seconds have passed since.
abbrev pub RetransmissionsEnd : Type 0
RetransmissionsEnd =
    (sent : List Outstanding) (s t : State) (now n : ℕ) (old new : List ℕ)
    → Did sent s → s.moment ≤ now → ComesDue (at_moment now s) (Send n) old new t
    → (a : Outstanding) × Contains sent a × (take n new ≡ a.sent) × (now < transmission_end a) × (transmission_end a ≤ a.first + 93000)

-- A message that is taken comes from the peer of a request that was sent, and has its token.
abbrev pub TakenFromTheAsked : Type 0
TakenFromTheAsked =
    (sent : List Outstanding) (s : State) (from : Endpoint) (m : CoapMessage) → Did sent s → takes s from m ≡ true
    → (a : Outstanding) × Contains sent a × (from ≡ a.peer) × (m.token ≡ a.token)

-- A message that is taken comes from the peer of the outstanding request or of the observation, and has its token.
abbrev pub TakenFromAPeer : Type 0
TakenFromAPeer =
    (s : State) (from : Endpoint) (m : CoapMessage) → takes s from m ≡ true
    → ((o : Outstanding) × (s.outstanding ≡ Some o) × (from ≡ o.peer) × (m.token ≡ o.token))
    ⊎ ((o : Observation) × (s.observation ≡ Some o) × (from ≡ o.peer) × (m.token ≡ o.token))

-- Of two requests with one id the later is sent more than 400 seconds after the earlier.
abbrev pub IdsRest : Type 0
IdsRest =
    (sent : List Outstanding) (s : State) → Did sent s → AllPairs (λ a b. a.id ≡ b.id → a.first + 400000 < b.first) sent
