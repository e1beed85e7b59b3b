-- Observers converge (RFC 7641, section 1.3): what was sent last to an observer says the last value of its target, or a
-- notification to its endpoint is on its way.
use Rattle.std.specs.Prelude.{◌≡◌, ◌==◌, ℕ, true, false, List, [], ◌∷◌, ◌++◌, map, take, All, Contains, Option, Some, unwrap_or}
use mathlib.Core.Logic.{inl, inr}
use Rattle.coap_msg.specs.declared.endpoint.Endpoint.{Endpoint}
use Rattle.coap_msg.specs.Grammar.{spelling}
use Rattle.thing_ops.specs.declared.outcome.Outcome.{Outcome}
use Rattle.thing_state.specs.State.{Emission, LastValue, last_of, last_after}
use Rattle.coap_observe.specs.declared.observer.Observer.{Observer}
use Rattle.coap_observe.specs.declared.notice.Registered.{Registered}
use Rattle.coap_observe.specs.declared.notice.Registered.TheVariants.{New, Replaced, Full}
use Rattle.coap_observe.specs.declared.notice.Notice.{Notice}
use Rattle.coap_observe.specs.Sending.{Sent}
use Rattle.coap_observe.specs.Watching.{Watching, is_pair, is_due}
use Rattle.coap_observe.specs.Laws.{is_for}
use Rattle.coap_bind.specs.declared.observing.Effect.{Effect}
use Rattle.coap_bind.specs.declared.pending.PendingReply.{PendingReply}
use Rattle.coap_bind.specs.declared.server.Server.{Server}
use Rattle.coap_bind.specs.declared.blocks.BlockUse.{BlockUse}
use Rattle.coap_bind.specs.Blocks.{answer_reply}
use Rattle.coap_bind.specs.Observing.{may_notify, Watches, leaves, cancels, registers as registers_at}
use Rattle.coap_bind.specs.Writing.{ReplyHead, observed, coap_reply, notification}
use Rattle.coap_bind.specs.Server.{Heard, ignored, answered_at_once, asked, Answers}
use Rattle.servient_outside.specs.declared.net.What.{What}
use Rattle.servient_outside.specs.declared.net.What.TheVariants as what
use Rattle.servient_outside.specs.declared.net.EventWithBytes.{EventWithBytes}
use Rattle.servient_trace.specs.Trace.{Sighting}
use Rattle.servient_core.specs.Machine.{Site, State, start, AnswersDatagram, HearsDatagram, Follows, EventAndStep, Run}
use Rattle.servient_ends.specs.Ends.{emitted_by, notifications_in, datagrams_in}

-- ---- what a run does about its observers

pub data Deed : Type 0 where
  -- an endpoint registers by a token for a target, is told an outcome, and gets it in these bytes
  registers : (from : Endpoint) (token : List ℕ) (target : ℕ) (o : Outcome) (bytes : List ℕ) → Deed
  -- a target has a new value
  emits : (e : Emission) → Deed
  -- a notification is sent that says this text
  notifies : (n : Notice) (text : List ℕ) → Deed

-- the registration, where there was room for it
abbrev pub registered_as : Registered → Endpoint → List ℕ → ℕ → Outcome → List ℕ → List Deed
registered_as (New n) from token target o bytes = registers from token target o bytes ∷ []
registered_as (Replaced n) from token target o bytes = registers from token target o bytes ∷ []
registered_as Full from token target o bytes = []

abbrev pub registered_by : (does : Effect) (from : Endpoint) (token : List ℕ) (old : Watching) (observe : Option ℕ) (new : Watching) → Watches does from token old observe new → Outcome → List ℕ → List Deed
registered_by does from token old observe new (leaves is none same) o bytes = []
registered_by does from token old observe new (cancels is none gone) o bytes = []
registered_by does from token old observe new (registers_at target r is at says) o bytes = registered_as r from token target o bytes

abbrev pub registered_in : (ask : PendingReply) (o : Outcome) (target : Option ℕ) (bytes : List ℕ) (s t : Server) → Answers ask o target bytes s t → List Deed
registered_in ask o target bytes s t a = registered_by _ ask.from ask.token s.observers a.observe a.observers a.watches o bytes

-- by the answer to a datagram
abbrev pub registered_on : (site : Site) (from : Endpoint) (h : Heard) (s : State) (seen : List Sighting) (t : State) → AnswersDatagram site from h s seen t → List Deed
registered_on site from ignored s seen t r = []
registered_on site from (answered_at_once bytes) s seen t r = []
registered_on site from (asked ask pending) s seen t r = registered_in pending r.0.outcome _ r.1.other.one.0 _ _ r.1.other.one.1.one.1

abbrev pub registered_of : (site : Site) (from : Endpoint) (bytes : List ℕ) (s : State) (seen : List Sighting) (t : State) → HearsDatagram site from bytes s seen t → List Deed
registered_of site from bytes s seen t (inl long) = []
registered_of site from bytes s seen t (inr h) = registered_on site from h.1.0 h.1.1.mid h.1.1.second t h.1.1.other

-- by any event
abbrev pub registrations_by : (site : Site) (w : What) (bytes : List ℕ) (s : State) (seen : List Sighting) (t : State) → Follows site w bytes s seen t → List Deed
registrations_by site (what.Opened c) bytes s seen t f = []
registrations_by site (what.Bytes c size) bytes s seen t f = []
registrations_by site (what.Ended c) bytes s seen t f = []
registrations_by site (what.Datagram from size) bytes s seen t f = registered_of site from bytes s seen t f
registrations_by site what.Tick bytes s seen t f = []
registrations_by site what.Stop bytes s seen t f = []

-- the last value of a target, as a notification says it
abbrev pub value_of : ℕ → List LastValue → List ℕ
value_of target last = unwrap_or (last_of target last) []

abbrev pub told : List LastValue → Notice → Deed
told last n = notifies n (value_of n.target last)

-- The deeds of one event: a registration, where it is one; what it emits; and the notifications at its end.
abbrev pub deeds_of_event : (site : Site) (e : EventWithBytes) (s : State) (seen : List Sighting) (t : State) → EventAndStep site e s seen t → List Deed
deeds_of_event site e s seen t step =
    registrations_by site e.event.what e.bytes _ step.other.first step.other.mid step.other.one
    ++ (map emits (emitted_by site e.event.what e.bytes _ step.other.first step.other.mid step.other.one)
    ++ map (told t.thing.last) (notifications_in step.other.mid step.other.second t step.other.other))

-- those of a run, one event after another
abbrev pub deeds_of : (site : Site) (took : List EventWithBytes) (s : State) (seen : List Sighting) (t : State) → Run site took s seen t → List Deed
deeds_of site [] s seen t stays = []
deeds_of site (e ∷ took) s seen t run = deeds_of_event site e s run.first run.mid run.one ++ deeds_of site took run.mid run.second t run.other

-- ---- what an observer was told

-- the bytes are the response that registered an observer: they say its number and the outcome
pub record IsResponse (w : Observer) (o : Outcome) (bytes : List ℕ) : Type 0 where
  pub blocks : BlockUse
  pub head : ReplyHead
  pub id : ℕ
  pub spelled : bytes ≡ spelling (coap_reply (observed (Some w.sequence) (answer_reply blocks o)) head id)
  pub token : head.token ≡ w.token
  pub value : may_notify o ≡ true

-- A deed tells an observer of its target, with the number that the observer has: by the response of its registration, or
-- by a notification that says the last value of the target.
abbrev pub Tells : Observer → List LastValue → Deed → Type 0
Tells w last (registers from token target o bytes) = (from ≡ w.from) × (token ≡ w.token) × (target ≡ w.target) × IsResponse w o bytes
Tells w last (emits e) = ⊥
Tells w last (notifies n text) =
    (n.to ≡ w.from) × (take n.token_length n.token ≡ w.token) × (n.target ≡ w.target) × (n.sequence ≡ w.sequence) × (text ≡ value_of w.target last)

-- a deed tells this observer nothing, and isn't an emission of its target
abbrev pub IsNoneOf : Observer → Deed → Type 0
IsNoneOf w (registers from token target o bytes) = is_pair from token w ≡ false
IsNoneOf w (emits e) = (w.target == e.target) ≡ false
IsNoneOf w (notifies n text) = is_for w.from w.token n ≡ false

-- The deed that told the observer last, since which its target had no new value.
pub record IsToldTheLast (w : Observer) (last : List LastValue) (deeds : List Deed) : Type 0 where
  pub before : List Deed
  pub deed : Deed
  pub later : List Deed
  pub whole : deeds ≡ before ++ deed ∷ later
  pub tells : Tells w last deed
  pub none : All (IsNoneOf w) later

-- An observer of its endpoint has a notification that isn't acknowledged, and whose timeout isn't over: it is sent again
-- then, or the endpoint is given up and has no observer any more.
pub record IsAwaited (w : Observer) (now : ℕ) (ws : List Observer) : Type 0 where
  pub one : Observer
  pub there : Contains ws one
  pub from : one.from ≡ w.from
  pub sent : Sent
  pub unacknowledged : one.notification ≡ Some sent
  pub waits : is_due now one ≡ false

-- "Observers converge": after each run, an observer that isn't marked was told the last value, and one that is marked
-- awaits an acknowledgement of its endpoint.
pub record HasConverged (s : State) (deeds : List Deed) (w : Observer) : Type 0 where
  pub unmarked : w.is_marked ≡ false → IsToldTheLast w s.thing.last deeds
  pub marked : w.is_marked ≡ true → IsAwaited w s.moment s.coap.observers.list

abbrev pub ObserversConverge : Type 0
ObserversConverge =
    (site : Site) (exchanges : ℕ) (epoch : Option ℕ) (took : List EventWithBytes) (seen : List Sighting) (s : State) (run : Run site took (start site exchanges epoch) seen s)
    → All (HasConverged s (deeds_of site took (start site exchanges epoch) seen s run)) s.coap.observers.list

-- ---- deeds are seen

abbrev pub emissions_in : List Deed → List Emission
emissions_in [] = []
emissions_in (registers from token target o bytes ∷ deeds) = emissions_in deeds
emissions_in (emits e ∷ deeds) = e ∷ emissions_in deeds
emissions_in (notifies n text ∷ deeds) = emissions_in deeds

-- a deed that tells something is one of these datagrams
abbrev pub IsSent : List (Endpoint × List ℕ) → Deed → Type 0
IsSent sent (registers from token target o bytes) = Contains sent (from, bytes)
IsSent sent (emits e) = Unit {0}
IsSent sent (notifies n text) = Contains sent (n.to, spelling (notification n text))

-- "Deeds are seen": what a run told its observers are datagrams of its trace, and what it emitted are the last values.
pub record AreSeen (last after : List LastValue) (seen : List Sighting) (deeds : List Deed) : Type 0 where
  pub sent : All (IsSent (datagrams_in seen)) deeds
  pub emitted : after ≡ last_after (emissions_in deeds) last

abbrev pub DeedsAreSeen : Type 0
DeedsAreSeen =
    (site : Site) (exchanges : ℕ) (epoch : Option ℕ) (took : List EventWithBytes) (seen : List Sighting) (s : State) (run : Run site took (start site exchanges epoch) seen s)
    → AreSeen (start site exchanges epoch).thing.last s.thing.last seen (deeds_of site took (start site exchanges epoch) seen s run)
