-- The fates of the requests that wait by HTTP (TD 1.1's long polls), over a whole run: each is replied to at the first
-- delivery of its target, or told that nothing came once it is late, or its connection is cut off.
use mathlib.Core.Logic.{inl, inr}
use Rattle.std.specs.Prelude.{◌≡◌, ◌≢◌, ◌<◌, ◌≤◌, ◌-◌, ◌+◌, ◌==◌, ℕ, max, Bool, true, false, List, [], ◌∷◌, ◌++◌, map, find, drop, Contains, Option, Some, None, if◌then◌else◌}
use Rattle.servient_base.specs.Moves.{Each, is_done, goes_on}
use Rattle.coap_msg.specs.declared.endpoint.Endpoint.{Endpoint}
use Rattle.coap_bind.specs.Server.{Heard, ignored, answered_at_once, asked}
use Rattle.thing_site.specs.Site.{Placed, events_of}
use Rattle.thing_state.specs.State.{State as ThingState, Emission, last_of}
use Rattle.http_bind.specs.declared.owed.Owed.{Owed}
use Rattle.http_bind.specs.declared.waits.Wait.{Wait}
use Rattle.http_bind.specs.Replying.{reply}
use Rattle.http_bind.specs.Streams.{Connection, Taken, asks, wants_continue, is_faulty, interrupts, connection_at, is_waiting, is_late, woken_by}
use Rattle.servient_outside.specs.declared.net.What.{What}
use Rattle.servient_outside.specs.declared.net.What.TheVariants as what
use Rattle.servient_outside.specs.declared.net.EventWithBytes.{EventWithBytes}
use Rattle.servient_outside.specs.declared.net.Act.{Act}
use Rattle.servient_outside.specs.declared.net.Act.TheVariants as act
use Rattle.servient_outside.specs.Network.{heard, did, broke}
use Rattle.servient_trace.specs.Trace.{Sighting, at_network, at_handler}
use Rattle.servient_core.specs.Machine.{Site, State, start, acts_of_reply, AnswersDatagram, HearsDatagram, AnswersTaken, TakesEveryMessage, PollsAndDelivers, Follows, EventAndStep, Run}

-- ---- deliveries

-- a target whose new value is delivered, and the last value that it has then
pub record Delivery : Type 0 where
  pub target : ℕ
  pub text : Option (List ℕ)

abbrev pub delivery_of : ThingState → Emission → Delivery
delivery_of thing emission = record { target = emission.target; text = last_of emission.target thing.last }

-- Emissions are delivered in their order, where the Things' state is this.
abbrev pub deliveries_of : ThingState → List Emission → List Delivery
deliveries_of thing emissions = map (delivery_of thing) emissions

-- those of a request that was taken from a connection
abbrev pub deliveries_of_taken : (site : Site) (c : ℕ) (taken : Taken) (s t : State) (seen : List Sighting) → AnswersTaken site c taken s seen t → List Delivery
deliveries_of_taken site c (asks q) s t seen (done, w) = deliveries_of w.mid.thing done.emissions
deliveries_of_taken site c wants_continue s t seen w = []
deliveries_of_taken site c (is_faulty status) s t seen w = []
deliveries_of_taken site c interrupts s t seen w = []

-- those of messages that are taken one after another
abbrev pub deliveries_of_messages : (site : Site) (c : ℕ) (s t : State) (seen : List Sighting) → TakesEveryMessage site c s seen t → List Delivery
deliveries_of_messages site c s t seen (is_done s' seen' t' done stays) = []
deliveries_of_messages site c s t seen (goes_on s' mid t' seen' first second one more whole) =
    deliveries_of_taken site c one.0 one.1.mid mid one.1.second one.1.other ++ deliveries_of_messages site c mid t second more

-- those of a datagram
abbrev pub deliveries_of_answer : (site : Site) (from : Endpoint) (h : Heard) (s t : State) (seen : List Sighting) → AnswersDatagram site from h s seen t → List Delivery
deliveries_of_answer site from ignored s t seen w = []
deliveries_of_answer site from (answered_at_once bytes) s t seen w = []
deliveries_of_answer site from (asked ask pending) s t seen (done, w) = deliveries_of w.mid.thing done.emissions

abbrev pub deliveries_of_datagram : (site : Site) (from : Endpoint) (bytes : List ℕ) (s t : State) (seen : List Sighting) → HearsDatagram site from bytes s seen t → List Delivery
deliveries_of_datagram site from bytes s t seen (inl long) = []
deliveries_of_datagram site from bytes s t seen (inr (short, (h, w))) = deliveries_of_answer site from h w.mid t w.second w.other

-- those of event affordances that are polled one after another
abbrev pub deliveries_of_polls : (affordances : List Placed) (s t : State) (seen : List Sighting) → Each PollsAndDelivers affordances s seen t → List Delivery
deliveries_of_polls [] s t seen stays = []
deliveries_of_polls (p ∷ affordances) s t seen w = deliveries_of w.one.1.mid.thing w.one.0 ++ deliveries_of_polls affordances w.mid t w.second w.other

abbrev pub deliveries_of_event : (site : Site) (w : What) (bytes : List ℕ) (s t : State) (seen : List Sighting) → Follows site w bytes s seen t → List Delivery
deliveries_of_event site (what.Opened c) bytes s t seen w = []
deliveries_of_event site (what.Bytes c size) bytes s t seen w = deliveries_of_messages site c w.mid t w.second w.other
deliveries_of_event site (what.Ended c) bytes s t seen w = []
deliveries_of_event site (what.Datagram from size) bytes s t seen w = deliveries_of_datagram site from bytes s t seen w
deliveries_of_event site what.Tick bytes s t seen w = deliveries_of_polls (events_of site.things) s t seen w
deliveries_of_event site what.Stop bytes s t seen w = []

-- The deliveries at an event, in their order.
abbrev pub deliveries_at : (site : Site) (it : EventWithBytes) (s t : State) (seen : List Sighting) → EventAndStep site it s seen t → List Delivery
deliveries_at site it s t seen w =
    let step = w.other in deliveries_of_event site it.event.what it.bytes (record w.mid { moment = max w.mid.moment it.event.moment }) step.mid step.first step.one

abbrev pub is_delivery_of : ℕ → Delivery → Bool
is_delivery_of target d = d.target == target

-- the first one of a target
abbrev pub first_of : ℕ → List Delivery → Option Delivery
first_of target deliveries = find (is_delivery_of target) deliveries

-- ---- what is done to a connection

abbrev pub is_act_on : ℕ → Act → Bool
is_act_on c (act.Sent d bytes) = c == d
is_act_on c (act.Closed d) = c == d
is_act_on c (act.Datagram to bytes) = false
is_act_on c (act.Listened place) = false
is_act_on c (act.Dialled host port connection) = false
is_act_on c (act.Looked host port to) = false

-- all acts on a connection, in their order
abbrev pub acts_on : ℕ → List Sighting → List Act
acts_on c [] = []
acts_on c (at_network (heard e) ∷ seen) = acts_on c seen
acts_on c (at_network (did a) ∷ seen) = if is_act_on c a then a ∷ acts_on c seen else acts_on c seen
acts_on c (at_network (broke call) ∷ seen) = acts_on c seen
acts_on c (at_handler call ∷ seen) = acts_on c seen

-- All that is done to the connection of a wait is that its request is replied to, as it asked for, with this text or with
-- none, and then that it is closed where the request asked for that.
pub record IsToldOf (text : Option (List ℕ)) (w : Wait) (s : State) (seen : List Sighting) : Type 0 where
  pub connection : Connection
  pub owed : Owed
  pub bytes : List ℕ
  pub is : connection_at w.connection s.http ≡ Some connection
  pub owes : connection.owed ≡ Some owed
  pub replies : reply owed.bodiless owed.closes (woken_by text) ≡ Some bytes
  pub acts : acts_on w.connection seen ≡ acts_of_reply w.connection (record { bytes = bytes; closes = owed.closes })

-- ---- the fate of a wait at an event

-- bytes came behind the request that waits
pub record IsInterrupted (w : Wait) (it : EventWithBytes) (s : State) : Type 0 where
  pub size : ℕ
  pub connection : Connection
  pub event : it.event.what ≡ what.Bytes w.connection size
  pub is : connection_at w.connection s.http ≡ Some connection
  pub behind : drop connection.taken (connection.stream ++ it.bytes) ≢ []

-- After it no request of its connection waits.
abbrev pub IsOver : Wait → State → Type 0
IsOver w t = is_waiting w.connection t.http.waits ≡ false

-- The fate of a wait at an event, at which there are these deliveries.
pub data Fate (w : Wait) (it : EventWithBytes) (deliveries : List Delivery) (s : State) (seen : List Sighting) (t : State) : Type 0 where
  -- its connection is opened anew, or was ended
  is_opened : it.event.what ≡ what.Opened w.connection → acts_on w.connection seen ≡ [] → IsOver w t → Fate w it deliveries s seen t
  has_ended : it.event.what ≡ what.Ended w.connection → acts_on w.connection seen ≡ [] → IsOver w t → Fate w it deliveries s seen t
  -- it is interrupted, and its connection is closed
  is_cut_off : IsInterrupted w it s → acts_on w.connection seen ≡ act.Closed w.connection ∷ [] → IsOver w t → Fate w it deliveries s seen t
  -- its target is delivered, and it is told of that at the first delivery
  is_told : (d : Delivery) → first_of w.target deliveries ≡ Some d → IsToldOf d.text w s seen → IsOver w t → Fate w it deliveries s seen t
  -- it is late, and is told of nothing
  is_too_late : first_of w.target deliveries ≡ None → is_late t.moment w ≡ true → IsToldOf None w s seen → IsOver w t → Fate w it deliveries s seen t
  -- it waits on
  waits_on : first_of w.target deliveries ≡ None → is_late t.moment w ≡ false → acts_on w.connection seen ≡ [] → Contains t.http.waits w → Fate w it deliveries s seen t

-- ---- the sentence

-- So it is at an event, from a state to the next.
pub record EndWaits (site : Site) (it : EventWithBytes) (s : State) (seen : List Sighting) (t : State) (step : EventAndStep site it s seen t) : Type 0 where
  pub moment : t.moment ≡ max s.moment it.event.moment
  -- after it none is late
  pub on_time : (w : Wait) → Contains t.http.waits w → t.moment - w.since < 60000
  -- one that is new came at its moment
  pub new : (w : Wait) → Contains t.http.waits w → ¬ (Contains s.http.waits w) → w.since ≡ t.moment
  -- each that there was has its fate
  pub fates : (w : Wait) → Contains s.http.waits w → Fate w it (deliveries_at site it s t seen step) s seen t
  -- where it is at most 1,000 ms after the event before it, none that there was waited for 61,000 ms
  pub short : it.event.moment ≤ s.moment + 1000 → (w : Wait) → Contains s.http.waits w → t.moment - w.since < 61000

-- "A wait ends": so it is at each event of each run.
abbrev pub WaitsEnd : Type 0
WaitsEnd =
    (site : Site) (exchanges : ℕ) (epoch : Option ℕ) (took : List EventWithBytes) (before seen : List Sighting) (s t : State) (it : EventWithBytes)
    → Run site took (start site exchanges epoch) before s → (step : EventAndStep site it s seen t) → EndWaits site it s seen t step
