-- A response over CoAP is awaited, or the values of a property that is observed (RFC 7252, section 5.2; RFC 7641,
-- section 3; RFC 7959, section 2): the effect of each event. Taking a datagram and sending what is due are steps of the
-- client (`Delivers`, `ComesDue`, `Asks` of `coap_client`).
use Rattle.std.specs.Prelude.{◌≡◌, ◌-◌, ℕ, max, nat_lt, List, [], ◌∷◌, ◌++◌, take, Bool, true, false, Option, Some, None, Result, Ok, Err}
use Rattle.coap_msg.specs.declared.block.Block.{Block}
use Rattle.coap_msg.specs.declared.endpoint.Endpoint.{Endpoint}
use Rattle.coap_client.specs.declared.state.State.{State}
use Rattle.coap_client.specs.declared.fault.ClientFault.{ClientFault}
use Rattle.coap_client.specs.declared.fault.ClientFault.TheVariants as fault
use Rattle.coap_client.specs.Asking.{Asking}
use Rattle.coap_client.specs.declared.news.News.{News}
use Rattle.coap_client.specs.declared.news.News.TheVariants as news
use Rattle.coap_client.specs.declared.news.Delivered.{Delivered}
use Rattle.coap_client.specs.declared.due.Due.TheVariants as due
use Rattle.coap_client.specs.Exchange.{at_moment, Asks, IsRefused, Delivers, ComesDue}
use Rattle.servient_outside.specs.declared.net.What.{What}
use Rattle.servient_outside.specs.declared.net.What.TheVariants as what
use Rattle.servient_outside.specs.declared.net.EventWithBytes.{EventWithBytes}
use Rattle.servient_outside.specs.declared.net.Act.TheVariants as act
use Rattle.servient_outside.specs.Network.{Happening, did}
use Rattle.wot_consumer.specs.declared.chosen.Chosen.{Chosen}
use Rattle.network_consumer.specs.declared.purpose.Purpose.{Purpose}
use Rattle.network_consumer.specs.declared.consumed.Consumed.{Consumed}
use Rattle.network_consumer.specs.declared.consumed.Consumed.TheVariants.{Done, Other, Silent, Failed, Unprinted, Spent, NoMemory}
use Rattle.network_consumer.specs.declared.consumed.ConsumedOutcome.TheVariants as outcome
use Rattle.network_consumer.specs.declared.consumed.Status.TheVariants as status
use Rattle.network_consumer.specs.declared.answers.Verdict.{Verdict}
use Rattle.network_consumer.specs.declared.answers.Verdict.TheVariants as verdict
use Rattle.network_consumer.specs.declared.blocks.Blocks.{Blocks}
use Rattle.network_consumer.specs.declared.block_transfer.NextStep.TheVariants as step
use Rattle.network_consumer.specs.declared.coap_waiting.CoapWaiting.{CoapWaiting}
use Rattle.network_consumer.specs.Deeds.{Deed, happen}
use Rattle.network_consumer.specs.Answers.{AnswersAs, Closes}
use Rattle.network_consumer.specs.Asking.{asking_for, cancelling}
use Rattle.network_consumer.specs.Blockwise.{after_answer, is_joined, whole_payload}

-- the client at the moment of what is awaited
abbrev pub client_now : CoapWaiting → State
client_now w = at_moment w.moment w.client

-- ## The requests

-- the request with these blocks
abbrev pub asking_with : Chosen → CoapWaiting → Blocks → Asking
asking_with c w b = asking_for c w.transfer.input b

-- A request with these blocks is sent: what happens, and how it waits afterwards.
pub record IsSent (c : Chosen) (w : CoapWaiting) (b : Blocks) (happened : List Happening) (v : CoapWaiting) : Type 0 where
  pub size : ℕ
  pub old : List ℕ
  pub new : List ℕ
  pub client : State
  pub asks : Asks (client_now w) w.peer (asking_with c w b) size old new client
  pub happens : happened ≡ did (act.Datagram w.peer (take size new)) ∷ []
  pub waits : v ≡ record w { client = client; transfer = record w.transfer { asked = b } }

-- it is sent, or the client refuses it for this
abbrev pub Sends : Chosen → CoapWaiting → Blocks → List Happening → Result (Unit {0}) ClientFault → CoapWaiting → Type 0
Sends c w b happened (Ok _) v = IsSent c w b happened v
Sends c w b happened (Err f) v = IsRefused (client_now w) w.peer (asking_with c w b) f × (happened ≡ [])

-- ## A datagram

-- the reply to a datagram goes back to where that came from: the first n bytes of a room
abbrev pub replied : Endpoint → Option ℕ → List ℕ → List Happening
replied from None room = []
replied from (Some n) room = did (act.Datagram from (take n room)) ∷ []

-- the happenings where a datagram is delivered to the client, the news, and the wait afterwards
pub data DeliversNews (w : CoapWaiting) (from : Endpoint) (bytes : List ℕ) (happened : List Happening) (n : News) (v : CoapWaiting) : Type 0 where
  delivers : (told : Delivered) (old new : List ℕ) (s : State) → Delivers (client_now w) from bytes told old new s → n ≡ told.news
      → happened ≡ replied from told.reply new → v ≡ record w { client = s } → DeliversNews w from bytes happened n v

-- A further request with these blocks is sent; or it fits no message, which alone keeps the client from sending it, and the
-- operation ends.
pub data AsksFurther (c : Chosen) (w : CoapWaiting) (b : Blocks) (happened : List Happening) (r : Option Consumed) (v : CoapWaiting) : Type 0 where
  is_further : IsSent c w b happened v → r ≡ None → AsksFurther c w b happened r v
  is_no_further : IsRefused (client_now w) w.peer (asking_with c w b) fault.NoRoom → happened ≡ [] → r ≡ Some (Other outcome.Long) → AsksFurther c w b happened r v

-- so much of the answer came back
abbrev pub with_joined : CoapWaiting → List ℕ → CoapWaiting
with_joined w joined = record w { transfer = record w.transfer { joined = joined } }

-- The outcome of an answer with this code, Block2 and payload: a further request follows; or the answer is whole, and
-- judged; or it isn't one to this request; or it or the value that is handed in is too long.
pub data FollowsAnswer (p : Purpose) (c : Chosen) (w : CoapWaiting) (code : ℕ) (block2 : Option Block) (payload : List ℕ) (deeds : List Deed) (r : Option Consumed) (v : CoapWaiting) : Type 0 where
  leads_on : (b : Blocks) (joined : List ℕ) (happened : List Happening) → after_answer (is_joined c) w.transfer code block2 payload ≡ (step.Ask b, joined)
      → AsksFurther c (with_joined w joined) b happened r v → deeds ≡ happen happened → FollowsAnswer p c w code block2 payload deeds r v
  is_whole : (joined : List ℕ) (said : Verdict) (by_it : Consumed) → after_answer (is_joined c) w.transfer code block2 payload ≡ (step.Judge, joined)
      → AnswersAs p (status.Coap code) (whole_payload (is_joined c) (with_joined w joined).transfer payload) said → Closes said deeds by_it → r ≡ Some by_it
      → FollowsAnswer p c w code block2 payload deeds r v
  is_malformed : (joined : List ℕ) → after_answer (is_joined c) w.transfer code block2 payload ≡ (step.Malformed, joined) → deeds ≡ []
      → r ≡ Some (Other outcome.Malformed) → FollowsAnswer p c w code block2 payload deeds r v
  is_long : (joined : List ℕ) → after_answer (is_joined c) w.transfer code block2 payload ≡ (step.Long, joined) → deeds ≡ []
      → r ≡ Some (Other outcome.Long) → FollowsAnswer p c w code block2 payload deeds r v

-- Observing ends: a request says so, where it fits into a message. Its answer isn't awaited.
pub data Cancels (c : Chosen) (w : CoapWaiting) (happened : List Happening) : Type 0 where
  is_said : (n : ℕ) (old new : List ℕ) (s : State) → Asks (client_now w) w.peer (cancelling c) n old new s
      → happened ≡ did (act.Datagram w.peer (take n new)) ∷ [] → Cancels c w happened
  does_not_fit : (f : ClientFault) → IsRefused (client_now w) w.peer (cancelling c) f → happened ≡ [] → Cancels c w happened

-- further values are awaited after one by which the operation would end so, of this many that were still to come
abbrev pub awaits_more : ℕ → Consumed → Bool
awaits_more left Done = nat_lt 1 left
awaits_more left (Other outcome) = false
awaits_more left Silent = false
awaits_more left Failed = false
awaits_more left Unprinted = false
awaits_more left Spent = false
awaits_more left NoMemory = false

-- The outcome of an observed value by which the operation would end so: further values are awaited, or it was the last,
-- or the operation ends by it.
pub data AfterValue (c : Chosen) (w : CoapWaiting) (by_it : Consumed) (happened : List Happening) (r : Option Consumed) (v : CoapWaiting) : Type 0 where
  goes_on_observing : awaits_more w.left by_it ≡ true → happened ≡ [] → r ≡ None → v ≡ record w { left = w.left - 1 } → AfterValue c w by_it happened r v
  is_last : awaits_more w.left by_it ≡ false → Cancels c w happened → r ≡ Some by_it → AfterValue c w by_it happened r v

-- The outcome of an observed value, which is judged as the payload of a 2.05 is: it is printed, or the operation ends.
pub data FollowsValue (p : Purpose) (c : Chosen) (w : CoapWaiting) (payload : List ℕ) (deeds : List Deed) (r : Option Consumed) (v : CoapWaiting) : Type 0 where
  is_judged : (said : Verdict) (by_it : Consumed) (first : List Deed) (more : List Happening) → AnswersAs p (status.Coap 69) payload said → Closes said first by_it
      → AfterValue c w by_it more r v → deeds ≡ first ++ happen more → FollowsValue p c w payload deeds r v

-- The deeds on news, and the end that they bring, or the wait after them. A value that is older than another that came
-- isn't looked at.
abbrev pub Follows : Purpose → Chosen → CoapWaiting → News → List Deed → Option Consumed → CoapWaiting → Type 0
Follows p c w news.Nothing deeds r v = (deeds ≡ []) × (r ≡ None) × (v ≡ w)
Follows p c w news.Old deeds r v = (deeds ≡ []) × (r ≡ None) × (v ≡ w)
Follows p c w news.Reset deeds r v = (deeds ≡ []) × (r ≡ Some (Other outcome.Reset))
Follows p c w (news.Answered code block2 payload) deeds r v = FollowsAnswer p c w code block2 payload.now deeds r v
Follows p c w (news.Value payload) deeds r v = FollowsValue p c w payload.now deeds r v

-- ## An event

-- the event is neither a datagram nor the end of all
abbrev pub is_passed_over : What → Bool
is_passed_over (what.Opened d) = true
is_passed_over (what.Bytes d count) = true
is_passed_over (what.Ended d) = true
is_passed_over what.Tick = true
is_passed_over (what.Datagram from count) = false
is_passed_over what.Stop = false

-- the deeds on an event
pub data Meets (p : Purpose) (c : Chosen) (w : CoapWaiting) (e : EventWithBytes) (deeds : List Deed) (r : Option Consumed) (v : CoapWaiting) : Type 0 where
  is_datagram : (from : Endpoint) (count : ℕ) (first : List Happening) (n : News) (u : CoapWaiting) (more : List Deed) → e.event.what ≡ what.Datagram from count
      → DeliversNews w from e.bytes first n u → Follows p c u n more r v → deeds ≡ happen first ++ more → Meets p c w e deeds r v
  is_stop : e.event.what ≡ what.Stop → deeds ≡ [] → r ≡ Some (Other outcome.Stopped) → Meets p c w e deeds r v
  is_another : is_passed_over e.event.what ≡ true → deeds ≡ [] → r ≡ None → v ≡ w → Meets p c w e deeds r v

-- an act falls due: the request is sent again, or it has been awaited for too long
pub data FallsDue (w : CoapWaiting) (happened : List Happening) (r : Option Consumed) (v : CoapWaiting) : Type 0 where
  is_quiet : (old new : List ℕ) (s : State) → ComesDue (client_now w) due.Nothing old new s → happened ≡ [] → r ≡ None → v ≡ record w { client = s } → FallsDue w happened r v
  goes_again : (n : ℕ) (old new : List ℕ) (s : State) → ComesDue (client_now w) (due.Send n) old new s → happened ≡ did (act.Datagram w.peer (take n new)) ∷ [] → r ≡ None
      → v ≡ record w { client = s } → FallsDue w happened r v
  is_over : (old new : List ℕ) (s : State) → ComesDue (client_now w) due.TimedOut old new s → happened ≡ [] → r ≡ Some Silent → FallsDue w happened r v

-- The deeds on an event: first on the datagram that came, and then, where that ended nothing, on what falls due once.
pub data MeetsAndGoesOn (p : Purpose) (c : Chosen) (w : CoapWaiting) (e : EventWithBytes) (deeds : List Deed) (r : Option Consumed) (v : CoapWaiting) : Type 0 where
  ends_by_it : (by_it : Consumed) → Meets p c w e deeds (Some by_it) v → r ≡ Some by_it → MeetsAndGoesOn p c w e deeds r v
  then_due : (first : List Deed) (u : CoapWaiting) (more : List Happening) → Meets p c w e first None u → FallsDue u more r v → deeds ≡ first ++ happen more → MeetsAndGoesOn p c w e deeds r v

-- the moment is the greatest so far
abbrev pub HearsByCoap : Purpose → Chosen → CoapWaiting → EventWithBytes → List Deed → Option Consumed → CoapWaiting → Type 0
HearsByCoap p c w e deeds r v = MeetsAndGoesOn p c (record w { moment = max w.moment e.event.moment }) e deeds r v
