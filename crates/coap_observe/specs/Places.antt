-- Inside the crate: observers in slots, and searches among them.
use Rattle.std.specs.Prelude.{◌≡◌, ◌<◌, ◌≤◌, ◌==◌, ◌&&◌, ◌++◌, ◌∷◌, [], ℕ, Bool, true, false, not, List, length, map, filter, find, Option, Some, None, if◌then◌else◌}
use Rattle.std.specs.List.{list_any}
use Rattle.coap_msg.specs.declared.endpoint.Endpoint.{Endpoint}
use Rattle.coap_observe.specs.declared.observer.Observer.{Observer}
use Rattle.coap_observe.specs.declared.observer.SoughtObserver.{SoughtObserver}
use Rattle.coap_observe.specs.declared.observer.SoughtObserver.TheVariants.{Any, SentAs, Unacknowledged, Marked}
use Rattle.coap_observe.specs.declared.notice.Notice.{Notice}
use Rattle.coap_observe.specs.Sending.{Sent}
use Rattle.coap_observe.specs.Watching.{is_from, is_sent_as, is_busy, next_sequence, resent, renewed, IsNotification}

-- an observer and the slot that it is in
pub record Place : Type 0 where
  pub slot : ℕ
  pub observer : Observer

-- the number of slots, and those with an observer, in the order in which the observers registered
pub record Places : Type 0 where
  pub capacity : ℕ
  pub list : List Place

-- there is no observer
abbrev pub none_placed : ℕ → Places
none_placed capacity = record { capacity = capacity; list = [] }

-- the observers alone
abbrev pub observers_in : Places → List Observer
observers_in t = map (λ p. p.observer) t.list

-- this place is the one with this slot
abbrev pub IsAt : ℕ → Place → Places → Type 0
IsAt slot p t = filter (λ q. slot == q.slot) t.list ≡ p ∷ []

-- an observer is in this slot
abbrev pub IsUsed : ℕ → Places → Type 0
IsUsed slot t = (p : Place) × IsAt slot p t

-- ---- the effects of calls

-- the observer in a slot is changed
abbrev pub changed_in : ℕ → (Observer → Observer) → Place → Place
changed_in slot change p = if slot == p.slot then record p { observer = change p.observer } else p

abbrev pub with_change : ℕ → (Observer → Observer) → Places → Places
with_change slot change t = record t { list = map (changed_in slot change) t.list }

-- all observers are changed
abbrev pub changed_place : (Observer → Observer) → Place → Place
changed_place change p = record p { observer = change p.observer }

abbrev pub with_changes : (Observer → Observer) → Places → Places
with_changes change t = record t { list = map (changed_place change) t.list }

-- a slot has no observer any more
abbrev pub without_slot : ℕ → Places → Places
without_slot slot t = record t { list = filter (λ p. not (slot == p.slot)) t.list }

-- an observer is put behind the others, where there is room
abbrev pub IsAdded : Observer → Places → Bool → Places → Type 0
IsAdded w t true u = (length t.list < t.capacity) × ((slot : ℕ) × (u ≡ record t { list = t.list ++ record { slot = slot; observer = w } ∷ [] }))
IsAdded w t false u = (t.capacity ≤ length t.list) × (u ≡ t)

-- ---- searches

-- the slot of an observer that passes a test, if there is one
abbrev pub Finds : (Observer → Bool) → Places → Option ℕ → Type 0
Finds test t None = list_any test (observers_in t) ≡ false
Finds test t (Some slot) = (p : Place) × IsAt slot p t × (test p.observer ≡ true)

-- the slot of the first observer that passes a test, if there is one
abbrev pub FindsFirst : (Observer → Bool) → Places → Option ℕ → Type 0
FindsFirst test t None = list_any test (observers_in t) ≡ false
FindsFirst test t (Some slot) = (p : Place) × IsAt slot p t × (find (λ q. test q.observer) t.list ≡ Some p)

-- an observer of an endpoint that is wanted
abbrev pub is_wanted : Endpoint → SoughtObserver → Observer → Bool
is_wanted from Any w = is_from from w
is_wanted from (SentAs id) w = is_sent_as from id w
is_wanted from Unacknowledged w = is_busy from w
is_wanted from Marked w = is_from from w && w.is_marked

-- ---- sending

-- an observer to which something is sent again: the same message, or a new one where its target has a newer value
abbrev pub sent_once_more : ℕ → ℕ → Observer → Observer
sent_once_more now id w = if w.is_marked then renewed now id w else resent now w

-- and its notification
pub record IsSentOnceMore (id : ℕ) (w : Observer) (n : Notice) : Type 0 where
  pub newer : w.is_marked ≡ true → IsNotification w id (next_sequence w.sequence) true n
  pub same : w.is_marked ≡ false → (s : Sent) → w.notification ≡ Some s → IsNotification w s.id w.sequence false n
