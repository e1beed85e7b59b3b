-- Inside the crate: the invariant on observers beside their slots.
use Rattle.std.specs.Prelude.{◌≡◌, ◌<◌, ◌≤◌, ℕ, false, List}
use Rattle.std.specs.List.{list_any}
use Rattle.coap_msg.specs.declared.endpoint.Endpoint.{Endpoint}
use Rattle.coap_observe.specs.declared.observer.Observer.{Observer}
use Rattle.coap_observe.specs.declared.observers.Watchers.TheInside.{Inside}
use Rattle.coap_observe.specs.Laws.{count}
use Rattle.coap_observe.specs.Places.{observers_in}
use Rattle.coap_observe.specs.Watching.{Watching, is_pair, is_busy, is_due, is_sendable}

-- no notification is due before this moment
abbrev pub NoneDueBefore : ℕ → List Observer → Type 0
NoneDueBefore moment ws = (now : ℕ) → now < moment → list_any (is_due now) ws ≡ false

-- The invariant: no two observers have one endpoint and token, one message to an endpoint is unacknowledged at most,
-- and nothing is to be sent before the moment that is kept.
pub record AreWatched (ws : List Observer) (quiet_until : ℕ) : Type 0 where
  pub pairs : (from : Endpoint) (token : List ℕ) → count (is_pair from token) ws ≤ 1
  pub one : (from : Endpoint) → count (is_busy from) ws ≤ 1
  pub none_due : NoneDueBefore quiet_until ws
  pub none_free : 0 < quiet_until → list_any (is_sendable ws) ws ≡ false

-- the observers that are seen
abbrev pub watching_of : Inside → Watching
watching_of x = record { capacity = x.slots.capacity; list = observers_in x.slots }

abbrev pub IsWatched : Inside → Type 0
IsWatched x = AreWatched (observers_in x.slots) x.quiet_until
