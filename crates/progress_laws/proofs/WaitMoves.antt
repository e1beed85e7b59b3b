-- Each move of the machine keeps the connections sound, and what waits after it waited before, or came at its moment.
use Rattle.std.proofs.Common.{◌≡◌, ◌⊎◌, ℕ, max, Bool, true, false, List, [], ◌∷◌, map, Option, Some, None, refl, sym, ap, subst, ◌∙◌, inl, inr}
use Rattle.servient_base.specs.Moves.{Becomes, Then, Each, Until, is_done, goes_on}
use Rattle.coap_msg.specs.declared.endpoint.Endpoint.{Endpoint}
use Rattle.coap_bind.specs.declared.server.Server.{Server}
use Rattle.coap_bind.specs.declared.pending.PendingReply.{PendingReply}
use Rattle.coap_bind.specs.Server.{Heard, ignored, answered_at_once, asked as is_asked, Hears, Answers, SendsNext, with_emitted}
use Rattle.coap_opts.specs.Reading.{AskSeen}
use Rattle.thing_ops.specs.declared.outcome.Outcome.{Outcome}
use Rattle.thing_ops.specs.Requests.{RequestSeen}
use Rattle.thing_site.specs.Site.{Placed, events_of}
use Rattle.thing_state.specs.State.{Emission, last_of}
use Rattle.thing_state.specs.Calls.{Move as ThingMove}
use Rattle.thing_core.specs.Thing.{Done, Acts, PollsEvent}
use Rattle.http_bind.specs.declared.waits.Wait.{Wait}
use Rattle.http_bind.specs.Streams.{HttpReply, Connection, Streams, none_open, Taken, asks, wants_continue, is_faulty, interrupts, with_connection, without_wait, other_waits, Opened, opened_at, Ended, Lengthened, Takes, IsDry, Answers as AnswersRequest, lets_wait, sends_reply, Wakes, after_reply, Continues, Refuses, Closes, oldest_for, oldest_late, IsIdle, NoneIdle}
use Rattle.servient_outside.specs.declared.net.What.{What}
use Rattle.servient_outside.specs.declared.net.What.TheVariants as what
use Rattle.servient_outside.specs.declared.net.EventWithBytes.{EventWithBytes}
use Rattle.servient_outside.specs.declared.net.Act.{Act}
use Rattle.servient_outside.specs.declared.net.Act.TheVariants as act
use Rattle.servient_outside.specs.Network.{did}
use Rattle.servient_trace.specs.Trace.{Sighting, at_network, at_handler}
use Rattle.servient_core.specs.Machine.{Site, State, Move, start, OnHttp, OnCoap, OnThing, Does, acts_of_reply, Sends, SendsIfAny, RepliesToWait, AnswersWait, MarksObservers, Delivers, DeliversEach, Performs, PerformsByHttp, AnswersAsk, AnswersDatagram, HearsDatagram, AnswersMessage, AnswersTaken, TakesNextMessage, TakesEveryMessage, SendsNotification, NothingIsDue, SendsNotifications, AnswersLateWait, ClosesIdle, EndsEvent, PollsAndDelivers, Follows, Step, EventAndStep, Run, observed_target, notification_bytes}
use Rattle.progress_laws.proofs.WaitingStreams.{IsAmong, among_others, among_more, IsSound, cut_sound, lengthened_sound, begun_sound}

-- at a moment, over those that waited at first
pub record Base (at_first : List Wait) (now : ℕ) (u : State) : Type 0 where
  pub moment : u.moment ≡ now
  pub sound : IsSound u.http
  pub new : (v : Wait) → IsAmong v u.http.waits → IsAmong v at_first ⊎ (v.since ≡ now)

abbrev pub KeepsBase : List Wait → ℕ → Move → Type 0
KeepsBase at_first now P = (s t : State) (a : List Sighting) → Base at_first now s → P s a t → Base at_first now t

-- ---- moves put together

pub base_then : (from : List Wait) (now : ℕ) (P Q : Move) → KeepsBase from now P → KeepsBase from now Q → KeepsBase from now (Then P Q)
base_then from now P Q one other s t a b w = other w.mid t w.second (one s w.mid w.first b w.one) w.other

pub base_each : {A : Type 0} (from : List Wait) (now : ℕ) (M : A → Move) (xs : List A) → ((x : A) → KeepsBase from now (M x)) → KeepsBase from now (Each M xs)
base_each from now M [] each s t a b stays = subst (Base from now) (sym stays.next) b
base_each from now M (x ∷ xs) each s t a b w = base_then from now (M x) (Each M xs) (each x) (base_each from now M xs each) s t a b w

pub base_until : (from : List Wait) (now : ℕ) (P : Move) (IsDone : State → Type 0) → KeepsBase from now P → KeepsBase from now (Until P IsDone)
base_until from now P IsDone each s t a b (is_done s' a' t' done stays) = subst (Base from now) (sym stays.next) b
base_until from now P IsDone each s t a b (goes_on s' m t' a' first second one more whole) =
    base_until from now P IsDone each m t second (each s m first b one) more

-- the connections stay
pub base_same : (from : List Wait) (now : ℕ) (s t u : State) (shown a : List Sighting) → u.http ≡ s.http → u.moment ≡ s.moment → Becomes u shown a t → Base from now s → Base from now t
base_same from now s t u shown a http moment p b = subst (Base from now) (sym p.next) (record {
  moment = moment ∙ b.moment;
  sound = subst IsSound (sym http) b.sound;
  new = λ v there. b.new v (subst (λ (h : Streams). IsAmong v h.waits) http there);
})

pub base_coap : (from : List Wait) (now : ℕ) (C : ℕ → Server → Server → Type 0) → KeepsBase from now (OnCoap C)
base_coap from now C s t a b (d, change, p) = base_same from now s t (record s { coap = d }) [] a refl refl p b

pub base_thing : (from : List Wait) (now : ℕ) (M : ThingMove) → KeepsBase from now (OnThing M)
base_thing from now M s t a b (x, calls, m, p) = base_same from now s t (record s { thing = x }) (map at_handler calls) a refl refl p b

pub base_does : (from : List Wait) (now : ℕ) (acts : List Act) → KeepsBase from now (Does acts)
base_does from now acts s t a b p = base_same from now s t s (map (λ it. at_network (did it)) acts) a refl refl p b

-- the connections change
pub record Changes (now : ℕ) (h k : Streams) : Type 0 where
  pub sound : IsSound h → IsSound k
  pub new : (v : Wait) → IsAmong v k.waits → IsAmong v h.waits ⊎ (v.since ≡ now)

pub base_http : (from : List Wait) (now : ℕ) (C : ℕ → Streams → Streams → Type 0) → ((h k : Streams) → C now h k → Changes now h k) → KeepsBase from now (OnHttp C)
base_http from now C each s t a b (h, change, p) = subst (Base from now) (sym p.next) (record {
  moment = b.moment;
  sound = changes.sound b.sound;
  new = λ v there. by v (changes.new v there);
})
  where
    changes : Changes now s.http h
    changes = each s.http h (subst (λ (n : ℕ). C n s.http h) b.moment change)

    by : (v : Wait) → IsAmong v s.http.waits ⊎ (v.since ≡ now) → IsAmong v from ⊎ (v.since ≡ now)
    by v (inl there) = b.new v there
    by v (inr is) = inr is

-- a connection changes, and waits no longer
pub cut_changes : (now d : ℕ) (y : Option Connection) (h k : Streams) → k ≡ with_connection d y (without_wait d h) → Changes now h k
cut_changes now d y h k is = record {
  sound = cut_sound d y h k is;
  new = λ v there. inl (among_others d v h.waits (subst (λ (x : Streams). IsAmong v x.waits) is there)).0;
}

pub lengthened_changes : (now d : ℕ) (piece : List ℕ) (h k : Streams) → Lengthened d piece now h k → Changes now h k
lengthened_changes now d piece h k is = record {
  sound = lengthened_sound d piece now h k is;
  new = λ v there. inl (subst (λ (x : Streams). IsAmong v x.waits) is there);
}

pub same_changes : (now : ℕ) (h k : Streams) → k ≡ h → Changes now h k
same_changes now h k is = record { sound = λ s. subst IsSound (sym is) s; new = λ v there. inl (subst (λ (x : Streams). IsAmong v x.waits) is there) }

pub takes_changes : (now d : ℕ) (taken : Taken) (h k : Streams) → Takes d taken h k → Changes now h k
takes_changes now d taken h k (x, y, there, lets, after) = cut_changes now d y h k after

pub wakes_changes : (now d : ℕ) (text : Option (List ℕ)) (bytes : List ℕ) (closes : Bool) (h k : Streams) → Wakes d text now bytes closes h k → Changes now h k
wakes_changes now d text bytes closes h k wakes = cut_changes now d (after_reply closes now wakes.1.0) h k wakes.1.6

pub answer_changes : (now d : ℕ) (o : Outcome) (reply : Option HttpReply) (h k : Streams) → AnswersRequest d o now reply h k → Changes now h k
answer_changes now d o reply h k (lets_wait target is (x, owed, there, owes, after) none) = record {
  sound = begun_sound (record { connection = d; target = target; since = now }) owed h k after (record { connection = x; is = there; owed = owes });
  new = λ v there. by v (among_more v (record { connection = d; target = target; since = now }) (other_waits d h.waits) (subst (λ (y : Streams). IsAmong v y.waits) after there));
}
  where
    one : Wait
    one = record { connection = d; target = target; since = now }

    by : (v : Wait) → IsAmong v (other_waits d h.waits) ⊎ (one ≡ v) → IsAmong v h.waits ⊎ (v.since ≡ now)
    by v (inl there) = inl (among_others d v h.waits there).0
    by v (inr same) = inr (sym (ap (λ (y : Wait). y.since) same))
answer_changes now d o reply h k (sends_reply bytes closes waits (x, owed, there, owes, closes_is, reply_is, after) is) = cut_changes now d (after_reply closes now x) h k after

-- ---- new values

pub base_wait_reply : (from : List Wait) (now d : ℕ) (text : Option (List ℕ)) → KeepsBase from now (RepliesToWait d text)
base_wait_reply from now d text s t a b (r, w) =
    base_then from now (OnHttp (λ n. Wakes d text n r.bytes r.closes)) (Sends d r)
    (base_http from now (λ n. Wakes d text n r.bytes r.closes) (λ h k. wakes_changes now d text r.bytes r.closes h k)) (base_does from now (acts_of_reply d r)) s t a b w

pub base_wait : (from : List Wait) (now target : ℕ) → KeepsBase from now (AnswersWait target)
base_wait from now target s t a b (d, found, w) = base_wait_reply from now d (last_of target s.thing.last) s t a b w

pub base_delivers : (from : List Wait) (now target : ℕ) → KeepsBase from now (Delivers target)
base_delivers from now target =
    base_then from now (Until (AnswersWait target) (λ state. oldest_for target state.http.waits ≡ None)) (MarksObservers target)
    (base_until from now (AnswersWait target) (λ state. oldest_for target state.http.waits ≡ None) (base_wait from now target))
    (base_coap from now (λ n before after. after ≡ with_emitted target before))

pub base_deliveries : (from : List Wait) (now : ℕ) (emissions : List Emission) → KeepsBase from now (DeliversEach emissions)
base_deliveries from now emissions = base_each from now Delivers (map (λ e. e.target) emissions) (λ target. base_delivers from now target)

-- ---- CoAP

pub base_ask : (from : List Wait) (now : ℕ) (site : Site) (to : Endpoint) (ask : AskSeen) (pending : PendingReply) (done : Done) → KeepsBase from now (AnswersAsk site to ask pending done)
base_ask from now site to ask pending done s t a b (bytes, w) =
    base_then from now (OnCoap (λ n. Answers pending done.outcome (observed_target site s.thing ask) bytes)) (Does (act.Datagram to bytes ∷ []))
    (base_coap from now (λ n. Answers pending done.outcome (observed_target site s.thing ask) bytes)) (base_does from now (act.Datagram to bytes ∷ [])) s t a b w

pub base_answer : (from : List Wait) (now : ℕ) (site : Site) (to : Endpoint) (h : Heard) → KeepsBase from now (AnswersDatagram site to h)
base_answer from now site to ignored s t a b p = base_same from now s t s [] a refl refl p b
base_answer from now site to (answered_at_once bytes) s t a b p = base_does from now (act.Datagram to bytes ∷ []) s t a b p
base_answer from now site to (is_asked ask pending) s t a b (done, w) =
    base_then from now (Performs site ask.request done) (Then (AnswersAsk site to ask pending done) (DeliversEach done.emissions)) (base_thing from now (Acts site ask.request done))
    (base_then from now (AnswersAsk site to ask pending done) (DeliversEach done.emissions) (base_ask from now site to ask pending done) (base_deliveries from now done.emissions)) s t a b w

pub base_datagram : (from : List Wait) (now : ℕ) (site : Site) (to : Endpoint) (bytes : List ℕ) → KeepsBase from now (HearsDatagram site to bytes)
base_datagram from now site to bytes s t a b (inl long) = base_same from now s t s [] a refl refl long.1 b
base_datagram from now site to bytes s t a b (inr (short, (h, w))) =
    base_then from now (OnCoap (λ n. Hears to bytes n h)) (AnswersDatagram site to h) (base_coap from now (λ n. Hears to bytes n h)) (base_answer from now site to h) s t a b w

-- ---- HTTP

pub base_performs : (from : List Wait) (now : ℕ) (site : Site) (q : RequestSeen) (done : Done) → KeepsBase from now (PerformsByHttp site q done)
base_performs from now site q done s t a b (inl (is, (d, acts, none, p))) = base_same from now s t (record s { directory = d }) [] a refl refl p b
base_performs from now site q done s t a b (inr (isnt, p)) = base_thing from now (Acts site q done) s t a b p

pub base_if_any : (from : List Wait) (now d : ℕ) (reply : Option HttpReply) → KeepsBase from now (SendsIfAny d reply)
base_if_any from now d None s t a b p = base_same from now s t s [] a refl refl p b
base_if_any from now d (Some r) s t a b p = base_does from now (acts_of_reply d r) s t a b p

pub base_message : (from : List Wait) (now d : ℕ) (done : Done) → KeepsBase from now (AnswersMessage d done)
base_message from now d done s t a b (reply, w) =
    base_then from now (OnHttp (λ n. AnswersRequest d done.outcome n reply)) (SendsIfAny d reply)
    (base_http from now (λ n. AnswersRequest d done.outcome n reply) (λ h k. answer_changes now d done.outcome reply h k)) (base_if_any from now d reply) s t a b w

pub base_taken : (from : List Wait) (now : ℕ) (site : Site) (d : ℕ) (taken : Taken) → KeepsBase from now (AnswersTaken site d taken)
base_taken from now site d (asks q) s t a b (done, w) =
    base_then from now (PerformsByHttp site q done) (Then (AnswersMessage d done) (DeliversEach done.emissions)) (base_performs from now site q done)
    (base_then from now (AnswersMessage d done) (DeliversEach done.emissions) (base_message from now d done) (base_deliveries from now done.emissions)) s t a b w
base_taken from now site d wants_continue s t a b (bytes, w) =
    base_then from now (OnHttp (λ n. Continues bytes)) (Sends d (record { bytes = bytes; closes = false })) (base_http from now (λ n. Continues bytes) (λ h k is. same_changes now h k is.1))
    (base_does from now (acts_of_reply d (record { bytes = bytes; closes = false }))) s t a b w
base_taken from now site d (is_faulty status) s t a b (bytes, w) =
    base_then from now (OnHttp (λ n. Refuses d status bytes)) (Sends d (record { bytes = bytes; closes = true })) (base_http from now (λ n. Refuses d status bytes) (λ h k is. cut_changes now d None h k is.1))
    (base_does from now (acts_of_reply d (record { bytes = bytes; closes = true }))) s t a b w
base_taken from now site d interrupts s t a b p = base_does from now (act.Closed d ∷ []) s t a b p

pub base_next : (from : List Wait) (now : ℕ) (site : Site) (d : ℕ) → KeepsBase from now (TakesNextMessage site d)
base_next from now site d s t a b (taken, w) =
    base_then from now (OnHttp (λ n. Takes d taken)) (AnswersTaken site d taken) (base_http from now (λ n. Takes d taken) (λ h k. takes_changes now d taken h k)) (base_taken from now site d taken) s t a b w

pub base_messages : (from : List Wait) (now : ℕ) (site : Site) (d : ℕ) → KeepsBase from now (TakesEveryMessage site d)
base_messages from now site d = base_until from now (TakesNextMessage site d) (λ state. IsDry d state.http) (base_next from now site d)

-- ---- the end of an event

pub base_notification : (from : List Wait) (now : ℕ) → KeepsBase from now SendsNotification
base_notification from now s t a b (n, w) =
    base_then from now (OnCoap (λ m. SendsNext m (Some n))) (Does (act.Datagram n.to (notification_bytes n s.thing) ∷ []))
    (base_coap from now (λ m. SendsNext m (Some n))) (base_does from now (act.Datagram n.to (notification_bytes n s.thing) ∷ [])) s t a b w

pub base_notifications : (from : List Wait) (now : ℕ) → KeepsBase from now SendsNotifications
base_notifications from now =
    base_then from now (Until SendsNotification NothingIsDue) (OnCoap (λ m. SendsNext m None)) (base_until from now SendsNotification NothingIsDue (base_notification from now))
    (base_coap from now (λ m. SendsNext m None))

pub base_late : (from : List Wait) (now : ℕ) → KeepsBase from now AnswersLateWait
base_late from now s t a b (d, found, w) = base_wait_reply from now d None s t a b w

pub base_idle : (from : List Wait) (now : ℕ) → KeepsBase from now ClosesIdle
base_idle from now s t a b (d, w) =
    base_then from now (OnHttp (λ n before after. IsIdle d n before × Closes d before after)) (Does (act.Closed d ∷ []))
    (base_http from now (λ n before after. IsIdle d n before × Closes d before after) (λ h k is. cut_changes now d None h k is.1)) (base_does from now (act.Closed d ∷ [])) s t a b w

pub base_lates : (from : List Wait) (now : ℕ) → KeepsBase from now (Until AnswersLateWait (λ state. oldest_late state.moment state.http.waits ≡ None))
base_lates from now = base_until from now AnswersLateWait (λ state. oldest_late state.moment state.http.waits ≡ None) (base_late from now)

pub base_all_idle : (from : List Wait) (now : ℕ) → KeepsBase from now (Until ClosesIdle (λ state. NoneIdle state.moment state.http))
base_all_idle from now = base_until from now ClosesIdle (λ state. NoneIdle state.moment state.http) (base_idle from now)

pub base_ends : (from : List Wait) (now : ℕ) → KeepsBase from now EndsEvent
base_ends from now =
    base_then from now SendsNotifications (Then (Until AnswersLateWait (λ state. oldest_late state.moment state.http.waits ≡ None)) (Until ClosesIdle (λ state. NoneIdle state.moment state.http)))
    (base_notifications from now)
    (base_then from now (Until AnswersLateWait (λ state. oldest_late state.moment state.http.waits ≡ None)) (Until ClosesIdle (λ state. NoneIdle state.moment state.http)) (base_lates from now) (base_all_idle from now))

-- ---- events

pub base_poll : (from : List Wait) (now : ℕ) (p : Placed) → KeepsBase from now (PollsAndDelivers p)
base_poll from now p s t a b (emissions, w) =
    base_then from now (OnThing (PollsEvent p emissions)) (DeliversEach emissions) (base_thing from now (PollsEvent p emissions)) (base_deliveries from now emissions) s t a b w

pub base_follows : (from : List Wait) (now : ℕ) (site : Site) (it : What) (bytes : List ℕ) → KeepsBase from now (Follows site it bytes)
base_follows from now site (what.Opened d) bytes s t a b p = base_http from now (Opened d) (λ h k is. cut_changes now d (Some (opened_at now)) h k is) s t a b p
base_follows from now site (what.Bytes d size) bytes s t a b p =
    base_then from now (OnHttp (Lengthened d bytes)) (TakesEveryMessage site d) (base_http from now (Lengthened d bytes) (λ h k is. lengthened_changes now d bytes h k is)) (base_messages from now site d) s t a b p
base_follows from now site (what.Ended d) bytes s t a b p = base_http from now (λ n. Ended d) (λ h k is. cut_changes now d None h k is) s t a b p
base_follows from now site (what.Datagram to size) bytes s t a b p = base_datagram from now site to bytes s t a b p
base_follows from now site what.Tick bytes s t a b p = base_each from now PollsAndDelivers (events_of site.things) (λ affordance. base_poll from now affordance) s t a b p
base_follows from now site what.Stop bytes s t a b p = base_same from now s t s [] a refl refl p b

-- the machine's state when an event has come
abbrev pub moved : State → EventWithBytes → State
moved s it = record s { moment = max s.moment it.event.moment }

pub base_first : (s : State) (it : EventWithBytes) → IsSound s.http → Base s.http.waits (max s.moment it.event.moment) (moved s it)
base_first s it sound = record { moment = refl; sound = sound; new = λ v there. inl there }

pub event_base : (site : Site) (it : EventWithBytes) (s t : State) (a : List Sighting) → IsSound s.http → EventAndStep site it s a t → Base s.http.waits (max s.moment it.event.moment) t
event_base site it s t a sound w =
    let step : Step site it s w.second t = subst (λ (x : State). Step site it x w.second t) w.one.next w.other in
    base_ends s.http.waits (max s.moment it.event.moment) step.mid t step.second
    (base_follows s.http.waits (max s.moment it.event.moment) site it.event.what it.bytes (moved s it) step.mid step.first (base_first s it sound) step.one) step.other

pub none_sound : IsSound none_open
none_sound = record { owed = λ v there. absurd there; apart = λ u v one other same. absurd one }

pub run_sound : (site : Site) (took : List EventWithBytes) (s t : State) (a : List Sighting) → IsSound s.http → Run site took s a t → IsSound t.http
run_sound site [] s t a sound stays = subst (λ (x : State). IsSound x.http) (sym stays.next) sound
run_sound site (it ∷ took) s t a sound w = run_sound site took w.mid t w.second (event_base site it s w.mid w.first sound w.one).sound w.other

pub reached_sound : (site : Site) (exchanges : ℕ) (epoch : Option ℕ) (took : List EventWithBytes) (s : State) (a : List Sighting) → Run site took (start site exchanges epoch) a s → IsSound s.http
reached_sound site exchanges epoch took s a run = run_sound site took (start site exchanges epoch) s a none_sound run
