-- Inside the crate: the slots and lists in which the code keeps observers. Each slot is free or has an observer. A free
-- one is in the list of the free slots once, and in no other. One with an observer is once in the list of all, in the
-- order of registration, once in the list of the bucket of its target, and once in the list of the bucket of its
-- endpoint. The lists hold nothing else.
use Rattle.std.specs.Prelude.{◌≡◌, ◌+◌, ◌<◌, ◌==◌, ◌&&◌, ℕ, Bool, not, List, [], ◌∷◌, ◌++◌, length, map, find, slice_index_or, is_some, if◌then◌else◌}
use Rattle.coap_msg.specs.declared.endpoint.Endpoint.{Endpoint}
use Rattle.slot_lists.specs.Counts.{times_in, once_below}
use Rattle.slot_lists.specs.Lists.{Lists, list_at, with_list, is_among, without}
use Rattle.coap_observe.specs.declared.observer.Observer.{Observer}
use Rattle.coap_observe.specs.declared.slots.ObserverSlots.TheInside.{Inside}
use Rattle.coap_observe.specs.Buckets.{target_bucket, endpoint_bucket}
use Rattle.coap_observe.specs.Watching.{newcomer, is_busy}
use Rattle.coap_observe.specs.Places.{Place, Places}

-- the content of a slot that was never used
abbrev pub no_observer : Observer
no_observer = newcomer (record { host = 0; port = 0 }) [] 0

-- the content of a slot
abbrev pub observer_at : List Observer → ℕ → Observer
observer_at observers slot = slice_index_or observers slot no_observer

abbrev pub place_at : List Observer → ℕ → Place
place_at observers slot = record { slot = slot; observer = observer_at observers slot }

-- the buckets of its content
abbrev pub target_bucket_at : ℕ → List Observer → ℕ → ℕ
target_bucket_at count observers slot = target_bucket count (observer_at observers slot).target

abbrev pub endpoint_bucket_at : ℕ → List Observer → ℕ → ℕ
endpoint_bucket_at count observers slot = endpoint_bucket count (observer_at observers slot).from

-- the observer of a slot is changed, if the slot is in a list
abbrev pub changed_among : List ℕ → (Observer → Observer) → ℕ → Observer → Observer
changed_among slots change slot w = if is_among slot slots then change w else w

-- each of these lists has the slots with its number, and no others
abbrev pub AreDealt : (ℕ → ℕ) → List ℕ → List (List ℕ) → Type 0
AreDealt number slots lists =
    (i s : ℕ) → i < length lists → times_in s (slice_index_or lists i []) ≡ (if number s == i then times_in s slots else 0)

-- those with an observer in order of registration, and the free ones
abbrev pub used_slots : Lists → List ℕ
used_slots order = list_at 0 order

abbrev pub free_slots : Lists → List ℕ
free_slots order = list_at 1 order

-- the invariant
pub record AreKept (capacity : ℕ) (observers : List Observer) (order targets endpoints : Lists) : Type 0 where
  -- each slot is once among those with an observer, or once among the free ones
  pub slots : (s : ℕ) → times_in s (used_slots order) + times_in s (free_slots order) ≡ once_below s capacity
  pub count : length (used_slots order) + length (free_slots order) ≡ capacity
  -- each with an observer is once in the list of its target's bucket and in that of its endpoint's
  pub by_target : AreDealt (target_bucket_at capacity observers) (used_slots order) targets.lists
  pub by_endpoint : AreDealt (endpoint_bucket_at capacity observers) (used_slots order) endpoints.lists
  -- there are as many slots, and as many buckets, as there may be observers
  pub some : 0 < capacity
  pub observers_count : length observers ≡ capacity
  pub order_capacity : order.capacity ≡ capacity
  pub targets_capacity : targets.capacity ≡ capacity
  pub endpoints_capacity : endpoints.capacity ≡ capacity
  pub order_count : length order.lists ≡ 2
  pub targets_count : length targets.lists ≡ capacity
  pub endpoints_count : length endpoints.lists ≡ capacity

abbrev pub IsKept : Inside → Type 0
IsKept x = AreKept x.capacity x.observers.items x.order x.targets x.endpoints

-- the places that are seen
abbrev pub places_in : ℕ → List Observer → Lists → Places
places_in capacity observers order = record { capacity = capacity; list = map (place_at observers) (used_slots order) }

abbrev pub places_of : Inside → Places
places_of x = places_in x.capacity x.observers.items x.order

-- ---- tests by a walk along the list of a bucket

-- something that was sent to an endpoint isn't acknowledged
abbrev pub is_busy_at : Lists → List Observer → ℕ → Endpoint → Bool
is_busy_at endpoints observers count from =
    is_some (find (λ slot. is_busy from (observer_at observers slot)) (list_at (endpoint_bucket count from) endpoints))

-- an observer has a value to be sent, and its endpoint acknowledged all
abbrev pub is_sendable_at : Lists → List Observer → ℕ → Observer → Bool
is_sendable_at endpoints observers count w = w.is_marked && not (is_busy_at endpoints observers count w.from)

-- ---- one of some lists with a slot more at its end, or without one

abbrev pub pushed_at : ℕ → ℕ → Lists → Lists
pushed_at list slot t = with_list list (list_at list t ++ slot ∷ []) t

abbrev pub without_at : ℕ → ℕ → Lists → Lists
without_at list slot t = with_list list (without slot (list_at list t)) t
