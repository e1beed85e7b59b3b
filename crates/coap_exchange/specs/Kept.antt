-- Inside the crate: the slots and lists in which the code keeps its exchanges. Each slot is free or living; the living
-- ones are in one list in order of admission, and each of them in one list by its kind and in one by its bucket.
use Rattle.std.specs.Prelude.{◌≡◌, ◌+◌, ◌≤◌, ◌<◌, ℕ, List, length, map, filter, not, ◌==◌, All, AllPairs, Option, Some, None, true, false}
use Rattle.coap_msg.specs.declared.message.RequestType.{RequestType}
use Rattle.slot_lists.specs.Lists.{list_at}
use Rattle.coap_exchange.specs.Admission.{Arrival, lives, is_same_exchange}
use Rattle.coap_exchange.specs.Slots.{arrival_of, entry_at, exchange_at, age_list_at, bucket_at, AreDealt}
use Rattle.slot_lists.specs.Counts.{once_below, times_in}
use Rattle.coap_exchange.specs.Table.{Exchange, Table, at_moment, exchange_in}
use Rattle.coap_exchange.specs.declared.exchanges.Exchanges.TheInside.{Inside}

-- the free slots, and the living ones in order of admission
abbrev pub free_slots : Inside → List ℕ
free_slots x = list_at 0 x.kinds

abbrev pub living_slots : Inside → List ℕ
living_slots x = list_at 0 x.order

-- the request in a slot
abbrev pub arrival_at : Inside → ℕ → Arrival
arrival_at x slot = arrival_of (entry_at x.entries.items slot)

-- the table that contracts see
abbrev pub table_of : Inside → Table
table_of x = record { capacity = x.capacity; moment = x.moment; exchanges = map (exchange_at x.entries.items x.replies.items) (living_slots x) }

-- the invariant
pub record IsKept (x : Inside) : Type 0 where
  -- each slot is once among the free ones or once among the living ones
  pub slots : (s : ℕ) → times_in s (living_slots x) + times_in s (free_slots x) ≡ once_below s x.capacity
  pub count : length (living_slots x) + length (free_slots x) ≡ x.capacity
  -- the living ones live, came before now, and in their order
  pub living : All (λ s. lives x.moment (arrival_at x s) ≡ true) (living_slots x)
  pub past : All (λ s. (arrival_at x s).moment ≤ x.moment) (living_slots x)
  pub rising : AllPairs (λ s t. (arrival_at x s).moment ≤ (arrival_at x t).moment) (living_slots x)
  -- no two of them are one exchange
  pub apart : AllPairs (λ s t. is_same_exchange (arrival_at x t) (arrival_at x s) ≡ false) (living_slots x)
  -- each is in the list of its kind and in that of its bucket, in this order, and these have no others
  pub kinds : AreDealt (age_list_at x.entries.items) 1 (living_slots x) x.kinds.lists
  pub buckets : AreDealt (bucket_at x.entries.items x.capacity) 0 (living_slots x) x.buckets.lists
  -- there is room for as many as may live
  pub some : 0 < x.capacity
  pub entries : length x.entries.items ≡ x.capacity
  pub replies : length x.replies.items ≡ x.capacity
  pub kinds_capacity : x.kinds.capacity ≡ x.capacity
  pub buckets_capacity : x.buckets.capacity ≡ x.capacity
  pub order_capacity : x.order.capacity ≡ x.capacity
  pub kinds_count : length x.kinds.lists ≡ 3
  pub buckets_count : length x.buckets.lists ≡ x.capacity
  pub order_count : length x.order.lists ≡ 1

-- the table without the exchange in a slot
abbrev pub without_exchange : ℕ → Table → Table
without_exchange slot t = record t { exchanges = filter (λ e. not (e.slot == slot)) t.exchanges }

-- all exchanges of a kind live at a moment
abbrev pub AllLive : ℕ → RequestType → Table → Type 0
AllLive now kind t = All (λ e. e.arrival.kind ≡ kind → lives now e.arrival ≡ true) t.exchanges

-- an exchange that doesn't live at a moment is in this slot
pub record IsOver (now slot : ℕ) (t : Table) : Type 0 where
  pub exchange : Exchange
  pub there : exchange_in slot t ≡ Some exchange
  pub over : at_moment now (without_exchange slot t) ≡ at_moment now t

-- an exchange of a kind that doesn't live at a moment was found; or there is none
abbrev pub FindsOver : ℕ → RequestType → Table → Option ℕ → Type 0
FindsOver now kind t None = AllLive now kind t
FindsOver now kind t (Some slot) = IsOver now slot t
