-- Laws of observers, over all calls from the beginning (RFC 7641, sections 3.6, 4.1 and 4.5).
use Rattle.std.specs.Prelude.{◌≡◌, ◌≤◌, ◌+◌, ◌&&◌, ℕ, Bool, true, false, List, length, take, filter, find, Option, Some, None, option_map, ◌⊎◌, if◌then◌else◌}
use Rattle.std.specs.List.{list_any}
use Rattle.std.specs.Str.{bytes_eq}
use Rattle.coap_msg.specs.declared.endpoint.Endpoint.{Endpoint}
use Rattle.coap_msg.specs.Endpoints.{is_same_endpoint}
use Rattle.coap_observe.specs.declared.observer.Observer.{Observer}
use Rattle.coap_observe.specs.declared.notice.Registered.{Registered}
use Rattle.coap_observe.specs.declared.notice.Registered.TheVariants.{New, Replaced, Full}
use Rattle.coap_observe.specs.declared.notice.Notice.{Notice}
use Rattle.coap_msg.specs.declared.transmission.TheConstants.{MOST_RETRANSMISSIONS}
use Rattle.coap_observe.specs.Sending.{Sent}
use Rattle.coap_observe.specs.Watching.{Watching, next_sequence, sequence_of, none_watch, is_from, is_pair, is_busy, is_sent_as, is_due, Registers, without_pair, with_emission, with_acknowledgement, with_reset, hopeless, GivesUp, IsNotification, Notifies}

-- The effect of one call on observers, where a registration may be of each endpoint and token of which `May` holds.
pub data Goes (May : Endpoint → List ℕ → Type 0) (t u : Watching) : Type 0 where
  registers : (from : Endpoint) (token : List ℕ) (target : ℕ) (r : Registered) → May from token → Registers from token target t r u
      → Goes May t u
  cancels : (from : Endpoint) (token : List ℕ) → u ≡ without_pair from token t → Goes May t u
  emits : (target : ℕ) → u ≡ with_emission target t → Goes May t u
  acknowledges : (from : Endpoint) (id : ℕ) → u ≡ with_acknowledgement from id t → Goes May t u
  rejects : (from : Endpoint) (id : ℕ) → u ≡ with_reset from id t → Goes May t u
  sends : (now id : ℕ) (n : Option Notice) → u.capacity ≡ t.capacity → Notifies now id t.list n u.list → Goes May t u

-- every registration
abbrev pub Any : Endpoint → List ℕ → Type 0
Any from token = true ≡ true

-- the lists to which such calls lead from one without observers
pub data Comes (capacity : ℕ) : Watching → Type 0 where
  begins : (t : Watching) → t ≡ none_watch capacity → Comes capacity t
  goes_on : (t u : Watching) → Comes capacity t → Goes Any t u → Comes capacity u

-- the number of observers that pass a test
abbrev pub count : (Observer → Bool) → List Observer → ℕ
count test ws = length (filter test ws)

-- At most one notification to an endpoint is unacknowledged at a time (section 4.5.1).
abbrev pub OneUnacknowledged : Type 0
OneUnacknowledged = (capacity : ℕ) (t : Watching) → Comes capacity t → (from : Endpoint) → count (is_busy from) t.list ≤ 1

-- At most one observer has a given endpoint and token (section 4.1).
abbrev pub PairsDiffer : Type 0
PairsDiffer = (capacity : ℕ) (t : Watching) → Comes capacity t → (from : Endpoint) (token : List ℕ) → count (is_pair from token) t.list ≤ 1

-- An endpoint that is given up has no observer left (section 4.5).
abbrev pub GivenUpLeavesNone : Type 0
GivenUpLeavesNone =
    (now : ℕ) (from : Endpoint) (ws us : List Observer) → hopeless now ws ≡ Some from → GivesUp now ws us → list_any (is_from from) us ≡ false

-- nobody is registered with this endpoint and token
abbrev pub IsAbsent : Endpoint → List ℕ → Watching → Type 0
IsAbsent from token t = list_any (is_pair from token) t.list ≡ false

-- A Reset takes the observer away to which the notification went (section 3.6).
abbrev pub ResetForgets : Type 0
ResetForgets =
    (capacity : ℕ) (t : Watching) (from : Endpoint) (id : ℕ) (w : Observer) → Comes capacity t → find (is_sent_as from id) t.list ≡ Some w
    → IsAbsent w.from w.token (with_reset from id t)

-- And it stays away until it is registered again.
abbrev pub AbsentStays : Type 0
AbsentStays =
    (from : Endpoint) (token : List ℕ) (t u : Watching) → IsAbsent from token t
    → Goes (λ end name. (is_same_endpoint from end && bytes_eq token name) ≡ false) t u → IsAbsent from token u

-- a notification goes to this endpoint with this token
abbrev pub is_for : Endpoint → List ℕ → Notice → Bool
is_for from token n = is_same_endpoint from n.to && bytes_eq token (take n.token_length n.token)

-- Nothing is sent to one that isn't registered.
abbrev pub NothingForAbsent : Type 0
NothingForAbsent =
    (from : Endpoint) (token : List ℕ) (t : Watching) (now id : ℕ) (n : Notice) (us : List Observer) → IsAbsent from token t
    → Notifies now id t.list (Some n) us → is_for from token n ≡ false

-- ---- sequence numbers

-- the last sequence number of the observer of an endpoint and a token, if there is one
abbrev pub last_number : Endpoint → List ℕ → List Observer → Option ℕ
last_number from token ws = option_map (λ w. w.sequence) (find (is_pair from token) ws)

-- While an observer stays, a call leaves its number or takes it to the next one.
abbrev pub NumbersRise : Type 0
NumbersRise =
    (capacity : ℕ) (t u : Watching) (from : Endpoint) (token : List ℕ) (before after : ℕ) → Comes capacity t → Goes Any t u
    → last_number from token t.list ≡ Some before → last_number from token u.list ≡ Some after
    → (after ≡ before) ⊎ (after ≡ next_sequence before)

-- a registration of which there was no observer
abbrev pub is_new : Registered → Bool
is_new (New n) = true
is_new (Replaced n) = false
is_new Full = false

-- A registration says the number that its observer has from then on: 0 where that is new, and else the next one.
abbrev pub RegistrationsSayIt : Type 0
RegistrationsSayIt =
    (from : Endpoint) (token : List ℕ) (target : ℕ) (t u : Watching) (r : Registered) (n : ℕ) → Registers from token target t r u
    → sequence_of r ≡ Some n
    → (last_number from token u.list ≡ Some n) × (option_map next_sequence (last_number from token t.list) ≡ (if is_new r then None else Some n))

-- And a notification says it too: a new message the next number, and one that is sent again the same.
abbrev pub NotificationsSayIt : Type 0
NotificationsSayIt =
    (capacity : ℕ) (t : Watching) (now id : ℕ) (n : Notice) (us : List Observer) → Comes capacity t → Notifies now id t.list (Some n) us
    → (before : ℕ) × (last_number n.to (take n.token_length n.token) t.list ≡ Some before)
    × (last_number n.to (take n.token_length n.token) us ≡ Some n.sequence)
    × (n.sequence ≡ (if n.fresh then next_sequence before else before))

-- ---- sendings

-- A call that isn't about a pair: it is neither registered nor cancelled, and its endpoint acknowledges and rejects nothing.
abbrev pub IsUnanswered : (from : Endpoint) (token : List ℕ) (t u : Watching) → Goes Any t u → Type 0
IsUnanswered from token t u (registers end name target r may is) = (is_same_endpoint from end && bytes_eq token name) ≡ false
IsUnanswered from token t u (cancels end name is) = (is_same_endpoint from end && bytes_eq token name) ≡ false
IsUnanswered from token t u (emits target is) = Unit {0}
IsUnanswered from token t u (acknowledges end id is) = is_same_endpoint from end ≡ false
IsUnanswered from token t u (rejects end id is) = is_same_endpoint from end ≡ false
IsUnanswered from token t u (sends now id n capacity is) = Unit {0}

-- the number of messages that a call sends to a pair
abbrev pub count_of : Endpoint → List ℕ → Option Notice → ℕ
count_of from token None = 0
count_of from token (Some n) = if is_for from token n then 1 else 0

abbrev pub sendings_in : (from : Endpoint) (token : List ℕ) (t u : Watching) → Goes Any t u → ℕ
sendings_in from token t u (sends now id n capacity is) = count_of from token n
sendings_in from token t u (registers end name target r may is) = 0
sendings_in from token t u (cancels end name is) = 0
sendings_in from token t u (emits target is) = 0
sendings_in from token t u (acknowledges end id is) = 0
sendings_in from token t u (rejects end id is) = 0

-- The lists to which such calls lead, and the number of messages that they send to the pair.
pub data StaysUnanswered (from : Endpoint) (token : List ℕ) (before : Watching) : ℕ → Watching → Type 0 where
  starts : (t : Watching) → t ≡ before → StaysUnanswered from token before 0 t
  continues : (n : ℕ) (t u : Watching) (goes : Goes Any t u) → StaysUnanswered from token before n t → IsUnanswered from token t u goes
      → StaysUnanswered from token before (n + sendings_in from token t u goes) u

-- After a notification was sent for the first time, at most four further messages are sent to its pair while nothing answers
-- it (section 4.5; RFC 7252, section 4.2).
abbrev pub AtMostFiveSendings : Type 0
AtMostFiveSendings =
    (capacity n : ℕ) (t u : Watching) (from : Endpoint) (token : List ℕ) (w : Observer) (s : Sent) → Comes capacity t → find (is_pair from token) t.list ≡ Some w
    → w.notification ≡ Some s → s.retransmissions ≡ 0 → StaysUnanswered from token t n u → n ≤ MOST_RETRANSMISSIONS

-- Each of them is the same message, or a new one where the target has a newer value.
abbrev pub SendsTheSame : Type 0
SendsTheSame =
    (capacity now id : ℕ) (t : Watching) (from : Endpoint) (token : List ℕ) (w : Observer) (s : Sent) (n : Notice) (us : List Observer) → Comes capacity t
    → find (is_pair from token) t.list ≡ Some w → w.notification ≡ Some s → Notifies now id t.list (Some n) us → is_for from token n ≡ true
    → ((w.is_marked ≡ false) × IsNotification w s.id w.sequence false n) ⊎ ((w.is_marked ≡ true) × IsNotification w id (next_sequence w.sequence) true n)

-- And then all observers of the endpoint are gone: where nothing is sent any more at a moment, an endpoint whose
-- notification was due has no observer.
abbrev pub DueAreGone : Type 0
DueAreGone =
    (capacity now id : ℕ) (t : Watching) (from : Endpoint) (token : List ℕ) (w : Observer) (us : List Observer) → Comes capacity t
    → find (is_pair from token) t.list ≡ Some w → is_due now w ≡ true → Notifies now id t.list None us → list_any (is_from from) us ≡ false
