-- All calls from the beginning, and their consequences for a notification: its observer registered, it says a value of
-- the target of that registration, and it goes after those that were sent for it before (RFC 7641, sections 3.4, 4.1
-- and 4.5).
use Rattle.std.specs.Prelude.{◌≡◌, ◌<◌, ◌≤◌, ◌+◌, ◌==◌, ◌^◌, ◌⊎◌, ◌&&◌, ℕ, Bool, true, List, [], ◌∷◌, ◌++◌, length, take, Option, Some, None, Contains, All, if◌then◌else◌}
use Rattle.std.specs.Str.{bytes_eq}
use Rattle.coap_msg.specs.declared.constants.TheConstants.{LONGEST_TOKEN}
use Rattle.coap_msg.specs.declared.endpoint.Endpoint.{Endpoint}
use Rattle.coap_msg.specs.Endpoints.{is_same_endpoint}
use Rattle.coap_observe.specs.declared.observer.Observer.{Observer}
use Rattle.coap_observe.specs.declared.notice.Registered.{Registered}
use Rattle.coap_observe.specs.declared.notice.Registered.TheVariants.{New, Replaced, Full}
use Rattle.coap_observe.specs.declared.notice.Notice.{Notice}
use Rattle.coap_observe.specs.Watching.{Watching, none_watch, Registers, without_pair, with_emission, with_acknowledgement, with_reset, Notifies, IsSendable}
use Rattle.coap_observe.specs.Laws.{is_for}

-- a registration for which there was room
pub record Registration : Type 0 where
  pub from : Endpoint
  pub token : List ℕ
  pub target : ℕ

-- a notification that was sent, and the place of the value that it says among all values
pub record SentNotification : Type 0 where
  pub notice : Notice
  pub place : ℕ

-- The registrations, the targets that got a new value, and the notifications that were sent, each in order.
pub record Account : Type 0 where
  pub registered : List Registration
  pub emitted : List ℕ
  pub sent : List SentNotification

-- nothing was done
abbrev pub no_account : Account
no_account = record { registered = []; emitted = []; sent = [] }

-- ---- the place of a value

-- the place of the last value of a target among these, where so many came before and this was its last place
abbrev pub place_after : ℕ → ℕ → ℕ → List ℕ → ℕ
place_after target count place [] = place
place_after target count place (t ∷ emitted) = place_after target (count + 1) (if t == target then count + 1 else place) emitted

-- The place of the last value of a target among all values, which are counted from 1; 0 where it has none.
abbrev pub last_place : ℕ → List ℕ → ℕ
last_place target emitted = place_after target 0 0 emitted

-- ---- additions

abbrev pub with_registration : Registered → Registration → Account → Account
with_registration (New n) r a = record a { registered = a.registered ++ r ∷ [] }
with_registration (Replaced n) r a = record a { registered = a.registered ++ r ∷ [] }
with_registration Full r a = a

abbrev pub with_value : ℕ → Account → Account
with_value target a = record a { emitted = a.emitted ++ target ∷ [] }

-- a notification says the last value of its target
abbrev pub with_notification : Option Notice → Account → Account
with_notification None a = a
with_notification (Some n) a = record a { sent = a.sent ++ record { notice = n; place = last_place n.target a.emitted } ∷ [] }

-- The account of the calls on a list that had no observers, and the list now: tokens and message IDs are those of
-- messages (RFC 7252, section 3).
pub data Did (capacity : ℕ) : Account → Watching → Type 0 where
  nothing : (t : Watching) → t ≡ none_watch capacity → Did capacity no_account t
  registered : (a : Account) (t u : Watching) (from : Endpoint) (token : List ℕ) (target : ℕ) (r : Registered) → Did capacity a t
      → length token ≤ LONGEST_TOKEN → Registers from token target t r u
      → Did capacity (with_registration r (record { from = from; token = token; target = target }) a) u
  cancelled : (a : Account) (t u : Watching) (from : Endpoint) (token : List ℕ) → Did capacity a t → u ≡ without_pair from token t → Did capacity a u
  emitted : (a : Account) (t u : Watching) (target : ℕ) → Did capacity a t → u ≡ with_emission target t → Did capacity (with_value target a) u
  acknowledged : (a : Account) (t u : Watching) (from : Endpoint) (id : ℕ) → Did capacity a t → u ≡ with_acknowledgement from id t → Did capacity a u
  rejected : (a : Account) (t u : Watching) (from : Endpoint) (id : ℕ) → Did capacity a t → u ≡ with_reset from id t → Did capacity a u
  sent : (a : Account) (t u : Watching) (now id : ℕ) (n : Option Notice) → Did capacity a t → id < 2 ^ 16 → u.capacity ≡ t.capacity
      → Notifies now id t.list n u.list → Did capacity (with_notification n a) u

-- ---- consequences

-- the token that a notification has
abbrev pub token_of : Notice → List ℕ
token_of n = take n.token_length n.token

-- one if it holds
abbrev pub one_if : Bool → ℕ
one_if b = if b then 1 else 0

-- the number of times that a pair registered
abbrev pub registrations_of : Endpoint → List ℕ → List Registration → ℕ
registrations_of from token [] = 0
registrations_of from token (r ∷ rs) = registrations_of from token rs + one_if (is_same_endpoint from r.from && bytes_eq token r.token)

-- the number of notifications that were sent as new messages, each with the message ID that was handed in
abbrev pub fresh_count : List SentNotification → ℕ
fresh_count [] = 0
fresh_count (s ∷ ss) = fresh_count ss + one_if s.notice.fresh

-- Of a pair that registered once a notification before this one was for the same target. It had the same number and said the
-- same value, or it had a lower number and said no later value.
pub record GoesBefore (place : ℕ) (n : Notice) (s : SentNotification) : Type 0 where
  pub target : s.notice.target ≡ n.target
  pub order : ((s.notice.sequence ≡ n.sequence) × (s.place ≡ place)) ⊎ ((s.notice.sequence < n.sequence) × (s.place ≤ place))

-- A notification is one to an observer that registered for its target, which has a value, and can be written.
pub record IsToRegistered (a : Account) (n : Notice) : Type 0 where
  pub registered : Contains a.registered (record { from = n.to; token = token_of n; target = n.target })
  pub valued : 0 < last_place n.target a.emitted
  pub sendable : IsSendable n
  pub id : n.id < 2 ^ 16

-- A new message has a number of its own, and a notification goes after those that were sent for its pair before.
pub record IsInOrder (a : Account) (n : Notice) : Type 0 where
  pub some : 0 < n.sequence
  pub count : n.sequence ≤ fresh_count a.sent + one_if n.fresh
  pub after : All (λ s. is_for n.to (token_of n) s.notice ≡ true → GoesBefore (last_place n.target a.emitted) n s) a.sent

-- A notification goes to an observer that registered for its target.
abbrev pub NotificationsGoToTheRegistered : Type 0
NotificationsGoToTheRegistered =
    (capacity : ℕ) (a : Account) (t : Watching) (now id : ℕ) (n : Notice) (us : List Observer) → Did capacity a t → id < 2 ^ 16
    → Notifies now id t.list (Some n) us → IsToRegistered a n

-- To a pair that registered once notifications go in order, and say values in order, if fewer new messages were sent than there
-- are numbers.
abbrev pub NotificationsAreInOrder : Type 0
NotificationsAreInOrder =
    (capacity : ℕ) (a : Account) (t : Watching) (now id : ℕ) (n : Notice) (us : List Observer) → Did capacity a t
    → Notifies now id t.list (Some n) us → registrations_of n.to (token_of n) a.registered ≤ 1 → fresh_count a.sent + 1 < 2 ^ 24 → IsInOrder a n
