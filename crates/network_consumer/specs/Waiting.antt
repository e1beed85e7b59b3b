-- A request was sent, and what comes of it is awaited: what each event does, and all of them.
use Rattle.std.specs.Prelude.{◌≡◌, ◌≤◌, ⊤, ℕ, suc, List, [], ◌∷◌, ◌++◌, Option, Some, None}
use Rattle.servient_outside.specs.declared.net.EventWithBytes.{EventWithBytes}
use Rattle.servient_outside.specs.Network.{heard, broke, next_event}
use Rattle.wot_consumer.specs.declared.chosen.Chosen.{Chosen}
use Rattle.network_consumer.specs.declared.purpose.Purpose.{Purpose}
use Rattle.network_consumer.specs.declared.consumed.Consumed.{Consumed}
use Rattle.network_consumer.specs.declared.consumed.Consumed.TheVariants.{Failed, Spent}
use Rattle.network_consumer.specs.declared.waiting.Came.{Came}
use Rattle.network_consumer.specs.declared.waiting.Waiting.{Waiting}
use Rattle.network_consumer.specs.declared.waiting.Waiting.TheVariants.{Http, Coap}
use Rattle.network_consumer.specs.declared.http_waiting.HttpWaiting.{HttpWaiting}
use Rattle.network_consumer.specs.declared.coap_waiting.CoapWaiting.{CoapWaiting}
use Rattle.network_consumer.specs.Deeds.{Deed, happens}
use Rattle.network_consumer.specs.Asking.{IsAskable}
use Rattle.network_consumer.specs.HttpWaiting.{HearsByHttp, after_event}
use Rattle.network_consumer.specs.CoapWaiting.{HearsByCoap}
use Rattle.network_consumer.specs.Order.{IsInOrder}

-- an event that came, with its bytes
abbrev pub event_of : Came → EventWithBytes
event_of came = record { event = came.event; bytes = came.bytes.now }

-- the invariant of the wait before each event: the client's moment isn't later, the chosen request can be sent, and the client's
-- requests are in order
abbrev pub IsReady : Chosen → Waiting → Type 0
IsReady c (Http w) = ⊤
IsReady c (Coap w) = (w.client.moment ≤ w.moment) × IsAskable c × IsInOrder c w

-- the deeds on an event, and the end of the operation by it, or that it goes on, and the wait then
pub data Hears (p : Purpose) (c : Chosen) (w : Waiting) (e : EventWithBytes) (deeds : List Deed) (r : Option Consumed) (v : Waiting) : Type 0 where
  by_http : (x : HttpWaiting) → w ≡ Http x → HearsByHttp p x e deeds r → (r ≡ None → v ≡ Http (after_event x e)) → Hears p c w e deeds r v
  by_coap : (x y : CoapWaiting) → w ≡ Coap x → HearsByCoap p c x e deeds r y → v ≡ Coap y → Hears p c w e deeds r v

-- the deeds, and the end, where at most n further events are taken
pub data Awaits (p : Purpose) (c : Chosen) (r : Consumed) : ℕ → Waiting → List Deed → Type 0 where
  is_spent : (w : Waiting) (deeds : List Deed) → deeds ≡ [] → r ≡ Spent → Awaits p c r 0 w deeds
  is_broken : (n : ℕ) (w : Waiting) (deeds : List Deed) → deeds ≡ happens (broke next_event) ∷ [] → r ≡ Failed → Awaits p c r (suc n) w deeds
  comes_to : (n : ℕ) (w v : Waiting) (deeds : List Deed) (e : EventWithBytes) (by_it : List Deed) → Hears p c w e by_it (Some r) v
      → deeds ≡ happens (heard e) ∷ by_it → Awaits p c r (suc n) w deeds
  goes_on : (n : ℕ) (w v : Waiting) (deeds : List Deed) (e : EventWithBytes) (by_it rest : List Deed) → Hears p c w e by_it None v
      → Awaits p c r n v rest → deeds ≡ happens (heard e) ∷ by_it ++ rest → Awaits p c r (suc n) w deeds

-- the most events that are taken
abbrev pub most_events : ℕ
most_events = 100000
