-- The observers of a CoAP server, and the notifications to them (RFC 7641, sections 3 and 4).
use Rattle.std.specs.Prelude.{◌≡◌, ◌<◌, ◌≤◌, ◌+◌, ◌%◌, ◌^◌, ◌==◌, ◌&&◌, ◌++◌, ℕ, Bool, true, false, not, List, [], ◌∷◌, length, take, map, filter, find, Option, Some, None, is_some, option_map, option_and_then, if◌then◌else◌}
use Rattle.std.specs.List.{list_any}
use Rattle.std.specs.Str.{bytes_eq}
use Rattle.coap_msg.specs.declared.constants.TheConstants.{LONGEST_TOKEN}
use Rattle.coap_msg.specs.declared.endpoint.Endpoint.{Endpoint}
use Rattle.coap_msg.specs.Endpoints.{is_same_endpoint}
use Rattle.coap_observe.specs.Sending.{Sent, first_sent, sent_again, is_due as is_past, is_exhausted}
use Rattle.coap_observe.specs.declared.observer.Observer.{Observer}
use Rattle.coap_observe.specs.declared.notice.Registered.{Registered}
use Rattle.coap_observe.specs.declared.notice.Registered.TheVariants.{New, Replaced, Full}
use Rattle.coap_observe.specs.declared.notice.Notice.{Notice}

-- the observers, in the order in which they registered, and the number that there may be
pub record Watching : Type 0 where
  pub capacity : ℕ
  pub list : List Observer

-- there is no observer
abbrev pub none_watch : ℕ → Watching
none_watch capacity = record { capacity = capacity; list = [] }

-- ---- tests on observers

-- one of an endpoint
abbrev pub is_from : Endpoint → Observer → Bool
is_from from w = is_same_endpoint from w.from

-- the one of an endpoint and a token (section 4.1)
abbrev pub is_pair : Endpoint → List ℕ → Observer → Bool
is_pair from token w = is_same_endpoint from w.from && bytes_eq token w.token

-- one to which something was sent from an endpoint with a message ID that isn't acknowledged
abbrev pub is_named : Endpoint → ℕ → Endpoint → Option Sent → Bool
is_named from id to None = false
is_named from id to (Some n) = is_same_endpoint from to && id == n.id

abbrev pub is_sent_as : Endpoint → ℕ → Observer → Bool
is_sent_as from id w = is_named from id w.from w.notification

-- one of an endpoint to which something was sent that isn't acknowledged
abbrev pub is_busy : Endpoint → Observer → Bool
is_busy from w = is_some w.notification && is_same_endpoint from w.from

-- one of a target
abbrev pub is_of_target : ℕ → Observer → Bool
is_of_target target w = w.target == target

-- ---- registrations (section 4.1)

-- the sequence number after this one: they have 24 bits (section 3.4)
abbrev pub next_sequence : ℕ → ℕ
next_sequence sequence = (sequence + 1) % 2 ^ 24

-- an observer that registers now
abbrev pub newcomer : Endpoint → List ℕ → ℕ → Observer
newcomer from token target = record { from = from; token = token; target = target; sequence = 0; is_marked = false; notification = None }

-- one that registers anew: it keeps its place and takes the target, its sequence number goes on, and it forgets the
-- value to be sent and the notification to be acknowledged
abbrev pub replaced : ℕ → Observer → Observer
replaced target w = record w { target = target; sequence = next_sequence w.sequence; is_marked = false; notification = None }

-- the observers that pass a test are changed, the others stay
abbrev pub where_so : {X : Type 0} → (X → Bool) → (X → X) → X → X
where_so test change w = if test w then change w else w

-- The outcome of a registration: the observer of this endpoint and token registers anew, or there is a new one, or no
-- room for one.
abbrev pub Registers : Endpoint → List ℕ → ℕ → Watching → Registered → Watching → Type 0
Registers from token target t (Replaced sequence) u =
    (option_map (λ w. next_sequence w.sequence) (find (is_pair from token) t.list) ≡ Some sequence)
    × (u ≡ record t { list = map (where_so (is_pair from token) (replaced target)) t.list })
Registers from token target t (New sequence) u =
    (find (is_pair from token) t.list ≡ None) × (length t.list < t.capacity) × (sequence ≡ 0)
    × (u ≡ record t { list = t.list ++ newcomer from token target ∷ [] })
Registers from token target t Full u = (find (is_pair from token) t.list ≡ None) × (t.capacity ≤ length t.list) × (u ≡ t)

-- the sequence number that its response says; without room for it, none
abbrev pub sequence_of : Registered → Option ℕ
sequence_of (New sequence) = Some sequence
sequence_of (Replaced sequence) = Some sequence
sequence_of Full = None

-- those that fail a test stay
abbrev pub without : (Observer → Bool) → List Observer → List Observer
without test ws = filter (λ w. not (test w)) ws

abbrev pub without_observers : (Observer → Bool) → Watching → Watching
without_observers test t = record t { list = without test t.list }

-- the observer of this endpoint and token is gone (section 3.6)
abbrev pub without_pair : Endpoint → List ℕ → Watching → Watching
without_pair from token t = without_observers (is_pair from token) t

-- ---- notifications to be sent

-- its target has a value that wasn't sent to it yet
abbrev pub marked : Observer → Observer
marked w = record w { is_marked = true }

-- its notification is acknowledged
abbrev pub acknowledged : Observer → Observer
acknowledged w = record w { notification = None }

-- the observers of a target that has a new value
abbrev pub with_emission : ℕ → Watching → Watching
with_emission target t = record t { list = map (where_so (is_of_target target) marked) t.list }

-- an endpoint acknowledged the message with this ID (RFC 7252, section 4.2)
abbrev pub with_acknowledgement : Endpoint → ℕ → Watching → Watching
with_acknowledgement from id t = record t { list = map (where_so (is_sent_as from id) acknowledged) t.list }

-- an endpoint rejected the message with this ID, which ends the observation (section 3.6)
abbrev pub with_reset : Endpoint → ℕ → Watching → Watching
with_reset from id t = without_observers (is_sent_as from id) t

-- its notification isn't acknowledged and its timeout is over
abbrev pub is_late : ℕ → Option Sent → Bool
is_late now None = false
is_late now (Some n) = is_past now n

abbrev pub is_due : ℕ → Observer → Bool
is_due now w = is_late now w.notification

-- and it was sent again as often as it may be
abbrev pub is_spent : Option Sent → Bool
is_spent None = false
is_spent (Some n) = is_exhausted n

abbrev pub is_given_up : Observer → Bool
is_given_up w = is_spent w.notification

-- it has a value to be sent, and nothing that was sent to its endpoint is unacknowledged (section 4.5.1)
abbrev pub is_sendable : List Observer → Observer → Bool
is_sendable ws w = w.is_marked && not (list_any (is_busy w.from) ws)

-- the same message is sent to it again
abbrev pub resent : ℕ → Observer → Observer
resent now w = record w { notification = option_map (λ n. sent_again now n.id n) w.notification }

-- in place of it a new message is sent with the last value, of which the count and the timeouts go on (section 4.5.2)
abbrev pub renewed : ℕ → ℕ → Observer → Observer
renewed now id w = record w { sequence = next_sequence w.sequence; is_marked = false; notification = option_map (sent_again now id) w.notification }

-- the last value is sent to it
abbrev pub notified : ℕ → ℕ → Observer → Observer
notified now id w = record w { sequence = next_sequence w.sequence; is_marked = false; notification = Some (first_sent now id) }

-- the first that passes a test is changed
abbrev pub with_first : {X : Type 0} → (X → Bool) → (X → X) → List X → List X
with_first test change [] = []
with_first test change (w ∷ ws) = if test w then change w ∷ ws else w ∷ with_first test change ws

-- A notification to an observer, with this message ID and sequence number; fresh, where the id is the one that was
-- handed in.
pub record IsNotification (w : Observer) (id sequence : ℕ) (fresh : Bool) (n : Notice) : Type 0 where
  pub to : n.to ≡ w.from
  pub token : take n.token_length n.token ≡ w.token
  pub token_length : n.token_length ≡ length w.token
  pub target : n.target ≡ w.target
  pub id_is : n.id ≡ id
  pub sequence_is : n.sequence ≡ sequence
  pub fresh_is : n.fresh ≡ fresh

-- A notification whose token and sequence number can be written (section 3.4; RFC 7252, section 3).
pub record IsSendable (n : Notice) : Type 0 where
  pub token : n.token_length ≤ LONGEST_TOKEN
  pub sequence : n.sequence < 2 ^ 24

-- ---- the order of sending

-- the endpoint of an observer, if it is given up
abbrev pub given_up_endpoint : Observer → Option Endpoint
given_up_endpoint w = if is_given_up w then Some w.from else None

-- the endpoint of the first observer whose notification is due, in the order of registration, if it is given up
abbrev pub hopeless : ℕ → List Observer → Option Endpoint
hopeless now ws = option_and_then given_up_endpoint (find (is_due now) ws)

-- All observers of such an endpoint are removed (section 4.5), and the search begins again.
pub data GivesUp (now : ℕ) : List Observer → List Observer → Type 0 where
  nobody : (ws us : List Observer) → hopeless now ws ≡ None → us ≡ ws → GivesUp now ws us
  endpoint : (from : Endpoint) (ws us : List Observer) → hopeless now ws ≡ Some from
      → GivesUp now (without (is_from from) ws) us → GivesUp now ws us

-- At most one message is sent: to the first observer whose notification is due, the same message again, or a new one
-- where its target has a newer value; where none is due, to the first that has a value to be sent and whose endpoint
-- acknowledged all.
pub data Sends (now id : ℕ) (ws : List Observer) : Option Notice → List Observer → Type 0 where
  same : (w : Observer) (s : Sent) (n : Notice) (us : List Observer) → find (is_due now) ws ≡ Some w → w.is_marked ≡ false
      → w.notification ≡ Some s → IsNotification w s.id w.sequence false n → us ≡ with_first (is_due now) (resent now) ws
      → Sends now id ws (Some n) us
  newer : (w : Observer) (n : Notice) (us : List Observer) → find (is_due now) ws ≡ Some w → w.is_marked ≡ true
      → IsNotification w id (next_sequence w.sequence) true n → us ≡ with_first (is_due now) (renewed now id) ws
      → Sends now id ws (Some n) us
  first : (w : Observer) (n : Notice) (us : List Observer) → find (is_due now) ws ≡ None → find (is_sendable ws) ws ≡ Some w
      → IsNotification w id (next_sequence w.sequence) true n → us ≡ with_first (is_sendable ws) (notified now id) ws
      → Sends now id ws (Some n) us
  nothing : (us : List Observer) → find (is_due now) ws ≡ None → find (is_sendable ws) ws ≡ None → us ≡ ws → Sends now id ws None us

-- Endpoints are given up, and then one message at most is sent.
pub record Notifies (now id : ℕ) (ws : List Observer) (n : Option Notice) (us : List Observer) : Type 0 where
  pub left : List Observer
  pub gives_up : GivesUp now ws left
  pub sends : Sends now id left n us
