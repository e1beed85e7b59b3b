-- The world of both ends with the whole servient in the place of its CoAP server: each event that comes to the servient
-- is an event of its machine, and what it sends, acts on and emits is read off the step that the machine makes on it.
--
-- `World` of servient_world says what the client does, what was sent for what, and which datagrams may come;
-- `EventAndStep` of servient_core says what the servient does. Nothing here says how a server treats a datagram.
use Rattle.std.specs.Prelude.{◌≡◌, ◌+◌, ℕ, true, false, List, [], ◌∷◌, ◌++◌, length, map, Option, Some, None, slice_get, if◌then◌else◌}
use mathlib.Core.Logic.{inl, inr}
use Rattle.servient_base.specs.Moves.{Until, is_done, goes_on, Each}
use Rattle.coap_msg.specs.declared.endpoint.Endpoint.{Endpoint}
use Rattle.coap_msg.specs.Endpoints.{is_same_endpoint}
use Rattle.coap_client.specs.Asking.{Asking}
use Rattle.coap_observe.specs.declared.notice.Notice.{Notice}
use Rattle.coap_observe.specs.Accounts.{one_if}
use Rattle.coap_bind.specs.Server.{Heard, ignored, answered_at_once, asked}
use Rattle.coap_bind.specs.Treating.{Acted}
use Rattle.http_bind.specs.Streams.{Taken, asks, wants_continue, is_faulty, interrupts, IsDry}
use Rattle.thing_site.specs.Site.{Placed, events_of}
use Rattle.thing_state.specs.State.{State as ThingState, Emission as ThingEmission}
use Rattle.servient_outside.specs.declared.net.What.{What}
use Rattle.servient_outside.specs.declared.net.What.TheVariants as what
use Rattle.servient_outside.specs.declared.net.EventWithBytes.{EventWithBytes}
use Rattle.servient_outside.specs.declared.net.Act.{Act}
use Rattle.servient_outside.specs.declared.net.Act.TheVariants as act
use Rattle.servient_outside.specs.Network.{Happening, heard, did, broke}
use Rattle.servient_core.specs.declared.capacity.TheConstants.{MOST_WATCHERS}
use Rattle.servient_trace.specs.Trace.{Sighting, at_network, at_handler}
use Rattle.servient_core.specs.Machine.{Site, State, start, Move, observed_target, notification_bytes, AnswersDatagram, HearsDatagram, AnswersTaken, TakesNextMessage, PollsAndDelivers, SendsNotification, NothingIsDue, EndsEvent, Follows, EventAndStep}
use Rattle.servient_world.specs.World.{WorldState, Datagram, Purpose, Emission, client_place, server_place, is_end, other, purpose_of, purpose_back, acts_for, id_used, with_sent, may_come, IsStart, ClientAsks, ClientDoesDue, ClientTakes}

-- Both ends at a moment: the world, and the machine of which its server is a part.
pub record EndsState : Type 0 where
  pub world : WorldState
  pub servient : State

-- nothing happened yet, and the server of the world is the servient's, with the links to its Things
pub record IsBeginning (site : Site) (first_id exchanges : ℕ) (p : EndsState) : Type 0 where
  pub world : IsStart first_id exchanges MOST_WATCHERS p.world
  pub server : p.world.server ≡ p.servient.coap
  pub epoch : Option ℕ
  pub servient : p.servient ≡ start site exchanges epoch

-- ---- what is read off a step

-- the results of a row of moves, one after another
abbrev pub along : {A : Type 0} (P : Move) (IsDone : State → Type 0) → ((s : State) (seen : List Sighting) (t : State) → P s seen t → List A)
    → (s : State) (seen : List Sighting) (t : State) → Until P IsDone s seen t → List A
along {A} P IsDone each s seen t (is_done s' seen' t' done stays) = []
along {A} P IsDone each s seen t (goes_on s' mid t' seen' first second one more whole) = each s first mid one ++ along P IsDone each mid second t more

-- the act that was made on what was heard
abbrev pub act_on : (site : Site) (from : Endpoint) (h : Heard) (s : State) (seen : List Sighting) (t : State) → AnswersDatagram site from h s seen t → Option Acted
act_on site from ignored s seen t r = None
act_on site from (answered_at_once bytes) s seen t r = None
act_on site from (asked ask request) s seen t r =
    Some (record { what = ask; outcome = r.0.outcome; target = observed_target site r.1.mid.thing ask })

-- the datagrams that were sent back
abbrev pub sent_on : (site : Site) (from : Endpoint) (h : Heard) (s : State) (seen : List Sighting) (t : State) → AnswersDatagram site from h s seen t → List (List ℕ)
sent_on site from ignored s seen t r = []
sent_on site from (answered_at_once bytes) s seen t r = bytes ∷ []
sent_on site from (asked ask request) s seen t r = r.1.other.one.0 ∷ []

-- and what was emitted
abbrev pub emitted_on : (site : Site) (from : Endpoint) (h : Heard) (s : State) (seen : List Sighting) (t : State) → AnswersDatagram site from h s seen t → List ThingEmission
emitted_on site from ignored s seen t r = []
emitted_on site from (answered_at_once bytes) s seen t r = []
emitted_on site from (asked ask request) s seen t r = r.0.emissions

-- the same of a datagram, which may be too long
abbrev pub act_of : (site : Site) (from : Endpoint) (bytes : List ℕ) (s : State) (seen : List Sighting) (t : State) → HearsDatagram site from bytes s seen t → Option Acted
act_of site from bytes s seen t (inl long) = None
act_of site from bytes s seen t (inr h) = act_on site from h.1.0 h.1.1.mid h.1.1.second t h.1.1.other

abbrev pub back_of : (site : Site) (from : Endpoint) (bytes : List ℕ) (s : State) (seen : List Sighting) (t : State) → HearsDatagram site from bytes s seen t → List (List ℕ)
back_of site from bytes s seen t (inl long) = []
back_of site from bytes s seen t (inr h) = sent_on site from h.1.0 h.1.1.mid h.1.1.second t h.1.1.other

abbrev pub emitted_by_datagram : (site : Site) (from : Endpoint) (bytes : List ℕ) (s : State) (seen : List Sighting) (t : State) → HearsDatagram site from bytes s seen t → List ThingEmission
emitted_by_datagram site from bytes s seen t (inl long) = []
emitted_by_datagram site from bytes s seen t (inr h) = emitted_on site from h.1.0 h.1.1.mid h.1.1.second t h.1.1.other

-- the emissions of a request that came by HTTP
abbrev pub emitted_by_message : (site : Site) (c : ℕ) (taken : Taken) (s : State) (seen : List Sighting) (t : State) → AnswersTaken site c taken s seen t → List ThingEmission
emitted_by_message site c (asks q) s seen t r = r.0.emissions
emitted_by_message site c wants_continue s seen t r = []
emitted_by_message site c (is_faulty status) s seen t r = []
emitted_by_message site c interrupts s seen t r = []

abbrev pub emitted_by_next : (site : Site) (c : ℕ) (s : State) (seen : List Sighting) (t : State) → TakesNextMessage site c s seen t → List ThingEmission
emitted_by_next site c s seen t r = emitted_by_message site c r.0 r.1.mid r.1.second t r.1.other

-- the emissions of polls
abbrev pub emitted_by_polls : (events : List Placed) (s : State) (seen : List Sighting) (t : State) → Each PollsAndDelivers events s seen t → List ThingEmission
emitted_by_polls [] s seen t stays = []
emitted_by_polls (p ∷ events) s seen t polls = polls.one.0 ++ emitted_by_polls events polls.mid polls.second t polls.other

-- the emissions on any event
abbrev pub emitted_by : (site : Site) (w : What) (bytes : List ℕ) (s : State) (seen : List Sighting) (t : State) → Follows site w bytes s seen t → List ThingEmission
emitted_by site (what.Opened c) bytes s seen t f = []
emitted_by site (what.Bytes c size) bytes s seen t f = along (TakesNextMessage site c) (λ s. IsDry c s.http) (emitted_by_next site c) f.mid f.second t f.other
emitted_by site (what.Ended c) bytes s seen t f = []
emitted_by site (what.Datagram from size) bytes s seen t f = emitted_by_datagram site from bytes s seen t f
emitted_by site what.Tick bytes s seen t f = emitted_by_polls (events_of site.things) s seen t f
emitted_by site what.Stop bytes s seen t f = []

-- the notifications that were sent at the end of an event, in order
abbrev pub notifications_in : (s : State) (seen : List Sighting) (t : State) → EndsEvent s seen t → List Notice
notifications_in s seen t ends = along SendsNotification NothingIsDue (λ u shown v sends. sends.0 ∷ []) s ends.one.first ends.one.mid ends.one.one

-- ---- the world after a step

abbrev pub as_emission : ThingEmission → Emission
as_emission e = record { target = e.target; text = e.text }

-- the number of these that used the next message ID
abbrev pub fresh_among : List Notice → ℕ
fresh_among [] = 0
fresh_among (n ∷ ns) = one_if n.fresh + fresh_among ns

-- a notification as it was sent, where this was the state of the Things
abbrev pub notification_of : WorldState → ThingState → Notice → Datagram
notification_of w thing n = record {
  moment = w.moment;
  from = server_place;
  to = n.to;
  bytes = notification_bytes n thing;
  purpose = purpose_of n w.asks w.emitted;
}

-- these were emitted
abbrev pub with_emissions : List ThingEmission → WorldState → WorldState
with_emissions es w = record w { emitted = w.emitted ++ map as_emission es }

-- these notifications were sent
abbrev pub with_notifications : ThingState → List Notice → WorldState → WorldState
with_notifications thing ns w = record w { sent = w.sent ++ map (notification_of w thing) ns; ids = w.ids + fresh_among ns }

-- the event of the machine that this is, when it comes at a moment
abbrev pub event_at : ℕ → What → List ℕ → EventWithBytes
event_at now w bytes = record { event = record { moment = now; what = w }; bytes = bytes }

-- A datagram comes to the servient, which was sent from this endpoint for this.
pub record ServientHears (site : Site) (from : Endpoint) (size : ℕ) (bytes : List ℕ) (purpose : Purpose) (p q : EndsState) : Type 0 where
  pub seen : List Sighting
  pub step : EventAndStep site (event_at p.world.moment (what.Datagram from size) bytes) p.servient seen q.servient
  pub next : q.world ≡ with_notifications q.servient.thing (notifications_in step.other.mid step.other.second q.servient step.other.other)
      (with_emissions (emitted_by_datagram site from bytes _ step.other.first step.other.mid step.other.one)
      (with_sent (record p.world {
        server = q.servient.coap;
        acts = p.world.acts ++ acts_for purpose (act_of site from bytes _ step.other.first step.other.mid step.other.one);
        ids = p.world.ids + id_used p.servient.coap step.other.mid.coap;
      }) server_place from (purpose_back purpose) (back_of site from bytes _ step.other.first step.other.mid step.other.one)))

-- Anything else comes to it.
pub record ServientDoes (site : Site) (w : What) (bytes : List ℕ) (p q : EndsState) : Type 0 where
  pub seen : List Sighting
  pub step : EventAndStep site (event_at p.world.moment w bytes) p.servient seen q.servient
  pub next : q.world ≡ with_notifications q.servient.thing (notifications_in step.other.mid step.other.second q.servient step.other.other)
      (with_emissions (emitted_by site w bytes _ step.other.first step.other.mid step.other.one)
      (record p.world { server = q.servient.coap }))

-- ---- moves

-- The turns that may happen: the client asks, or does the work that is due; the datagram that was sent as this one
-- comes; so much time passes; any other event comes to the servient.
pub data Turn : Type 0 where
  asks_next : Asking → Turn
  does_due : Turn
  delivers : ℕ → Turn
  passes : ℕ → Turn
  happens : What → List ℕ → Turn

-- only the client does something, or nobody
pub record AtClient (Does : WorldState → WorldState → Type 0) (p q : EndsState) : Type 0 where
  pub does : Does p.world q.world
  pub same : q.servient ≡ p.servient

abbrev pub Stays : WorldState → WorldState → Type 0
Stays w v = v ≡ w

-- a datagram comes to where it was sent
pub data Arrives (site : Site) (d : Datagram) (p q : EndsState) : Type 0 where
  too_late : may_come p.world.moment d ≡ false → AtClient Stays p q → Arrives site d p q
  to_client : may_come p.world.moment d ≡ true → d.to ≡ client_place → AtClient (ClientTakes d) p q → Arrives site d p q
  to_servient : may_come p.world.moment d ≡ true → d.to ≡ server_place
      → ServientHears site d.from (length d.bytes) d.bytes d.purpose p q → Arrives site d p q

abbrev pub ArrivesIfSent : Site → Option Datagram → EndsState → EndsState → Type 0
ArrivesIfSent site None p q = AtClient Stays p q
ArrivesIfSent site (Some d) p q = Arrives site d p q

-- a datagram of another endpoint comes to the servient
pub data FromElsewhere (site : Site) (from : Endpoint) (size : ℕ) (bytes : List ℕ) (p q : EndsState) : Type 0 where
  comes_from_elsewhere : is_end from ≡ false → ServientHears site from size bytes other p q → FromElsewhere site from size bytes p q
  is_of_an_end : is_end from ≡ true → AtClient Stays p q → FromElsewhere site from size bytes p q

-- an event besides is no datagram of either end
abbrev pub Besides : Site → What → List ℕ → EndsState → EndsState → Type 0
Besides site (what.Datagram from size) bytes p q = FromElsewhere site from size bytes p q
Besides site w bytes p q = ServientDoes site w bytes p q

-- The effect of a turn. One that isn't allowed is skipped.
abbrev pub Takes : Site → Turn → EndsState → EndsState → Type 0
Takes site (asks_next a) p q = AtClient (ClientAsks a) p q
Takes site does_due p q = AtClient ClientDoesDue p q
Takes site (delivers i) p q = ArrivesIfSent site (slice_get p.world.sent i) p q
Takes site (passes n) p q = AtClient (λ w v. v ≡ record w { moment = w.moment + n }) p q
Takes site (happens w bytes) p q = Besides site w bytes p q

-- one turn after another
abbrev pub TakesAll : Site → List Turn → EndsState → EndsState → Type 0
TakesAll site [] p q = q ≡ p
TakesAll site (m ∷ ms) p q = (mid : EndsState) × Takes site m p mid × TakesAll site ms mid q

-- ---- what is sent

-- the datagrams among what is seen, in order, with their receivers
abbrev pub datagrams_of : Act → List (Endpoint × List ℕ)
datagrams_of (act.Datagram to bytes) = (to, bytes) ∷ []
datagrams_of a = []

abbrev pub datagrams_at : Happening → List (Endpoint × List ℕ)
datagrams_at (did a) = datagrams_of a
datagrams_at (heard e) = []
datagrams_at (broke call) = []

abbrev pub datagrams_in : List Sighting → List (Endpoint × List ℕ)
datagrams_in [] = []
datagrams_in (at_network h ∷ seen) = datagrams_at h ++ datagrams_in seen
datagrams_in (at_handler call ∷ seen) = datagrams_in seen

-- those that the servient sent, among all that was sent
abbrev pub sent_by_servient : List Datagram → List (Endpoint × List ℕ)
sent_by_servient [] = []
sent_by_servient (d ∷ ds) = if is_same_endpoint d.from server_place then (d.to, d.bytes) ∷ sent_by_servient ds else sent_by_servient ds
