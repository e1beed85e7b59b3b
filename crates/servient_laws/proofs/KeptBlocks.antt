-- The moves that leave the bodies and the parts of the CoAP server: all but that a datagram is heard, and that its
-- request is answered.
use Rattle.std.proofs.Common.{◌≡◌, ◌≤◌, ℕ, List, [], ◌∷◌, map, refl, ap, subst, ◌∙◌, max, inl, inr, length}
use Rattle.std.specs.Prelude.{◌⊎◌, Option, Some, None, Bool, true, false, if◌then◌else◌}
use Rattle.servient_base.specs.Moves.{Each, Until, is_done, goes_on}
use Rattle.coap_msg.specs.declared.constants.TheConstants.{LONGEST_DATAGRAM}
use Rattle.coap_msg.specs.declared.endpoint.Endpoint.{Endpoint}
use Rattle.coap_observe.specs.declared.notice.Notice.{Notice}
use Rattle.coap_bind.specs.declared.server.Server.{Server}
use Rattle.coap_bind.specs.Server.{with_next_id, with_notification_sent, with_observers, SendsNext}
use Rattle.http_bind.specs.Streams.{HttpReply, Streams, Taken, asks, wants_continue, is_faulty, interrupts, oldest_for, oldest_late, IsDry, NoneIdle}
use Rattle.thing_ops.specs.Requests.{RequestSeen}
use Rattle.thing_core.specs.Thing.{Done}
use Rattle.thing_state.specs.State.{State as ThingState, Emission, last_of}
use Rattle.thing_site.specs.Site.{Placed, events_of}
use Rattle.servient_outside.specs.declared.net.What.{What}
use Rattle.servient_outside.specs.declared.net.What.TheVariants as what
use Rattle.servient_outside.specs.declared.net.EventWithBytes.{EventWithBytes}
use Rattle.servient_trace.specs.Trace.{Sighting}
use Rattle.servient_core.specs.Machine.{Site, State, Move, OnCoap, SendsIfAny, RepliesToWait, AnswersWait, AnswersLateWait, Delivers, DeliversEach, PerformsByHttp, AnswersTaken, TakesNextMessage, ClosesIdle, PollsAndDelivers, SendsNotification, NothingIsDue, EndsEvent, Follows, Step, EventAndStep}

-- the bodies, the parts and the links are as they were, and so is the moment
pub record SameBlocks (s t : State) : Type 0 where
  pub parts : t.coap.parts ≡ s.coap.parts
  pub bodies : t.coap.bodies ≡ s.coap.bodies
  pub links : t.coap.links ≡ s.coap.links
  pub moment : t.moment ≡ s.moment

-- a state whose CoAP server and moment are as they were
pub same_as : (s u t : State) → t ≡ u → u.coap ≡ s.coap → u.moment ≡ s.moment → SameBlocks s t
same_as s u t is coap moment = record {
  parts = ap (λ (x : State). x.coap.parts) is ∙ ap (λ (x : Server). x.parts) coap;
  bodies = ap (λ (x : State). x.coap.bodies) is ∙ ap (λ (x : Server). x.bodies) coap;
  links = ap (λ (x : State). x.coap.links) is ∙ ap (λ (x : Server). x.links) coap;
  moment = ap (λ (x : State). x.moment) is ∙ moment;
}

pub same_state : (s t : State) → t ≡ s → SameBlocks s t
same_state s t is = same_as s s t is refl refl

pub then_same : (s m t : State) → SameBlocks s m → SameBlocks m t → SameBlocks s t
then_same s m t one other = record { parts = other.parts ∙ one.parts; bodies = other.bodies ∙ one.bodies; links = other.links ∙ one.links; moment = other.moment ∙ one.moment }

until_same : (P : Move) (IsDone : State → Type 0) → ((s t : State) (seen : List Sighting) → P s seen t → SameBlocks s t)
    → (s t : State) (seen : List Sighting) → Until P IsDone s seen t → SameBlocks s t
until_same P IsDone each s t seen (is_done s' seen' t' done stays) = same_state s t stays.next
until_same P IsDone each s t seen (goes_on s' mid t' seen' first second one more whole) =
    then_same s mid t (each s mid first one) (until_same P IsDone each mid t second more)

each_same : {A : Type 0} (P : A → Move) → ((x : A) (s t : State) (seen : List Sighting) → P x s seen t → SameBlocks s t)
    → (xs : List A) (s t : State) (seen : List Sighting) → Each P xs s seen t → SameBlocks s t
each_same P each [] s t seen stays = same_state s t stays.next
each_same P each (x ∷ xs) s t seen w = then_same s w.mid t (each x s w.mid w.first w.one) (each_same P each xs w.mid t w.second w.other)

-- the connections change, and then something is sent
http_same : (s t : State) (h : Streams) → t ≡ (record s { http = h }) → SameBlocks s t
http_same s t h is = same_as s (record s { http = h }) t is refl refl

http_then_same : (s m t : State) (h : Streams) → m ≡ (record s { http = h }) → t ≡ m → SameBlocks s t
http_then_same s m t h one other = then_same s m t (http_same s m h one) (same_state m t other)

-- the CoAP server changes, and keeps its bodies, parts and links
coap_same : (s t : State) (c : Server) → t ≡ (record s { coap = c }) → c.parts ≡ s.coap.parts → c.bodies ≡ s.coap.bodies → c.links ≡ s.coap.links → SameBlocks s t
coap_same s t c is parts bodies links = record {
  parts = ap (λ (x : State). x.coap.parts) is ∙ parts;
  bodies = ap (λ (x : State). x.coap.bodies) is ∙ bodies;
  links = ap (λ (x : State). x.coap.links) is ∙ links;
  moment = ap (λ (x : State). x.moment) is;
}

thing_same : (s t : State) (x : ThingState) → t ≡ (record s { thing = x }) → SameBlocks s t
thing_same s t x is = same_as s (record s { thing = x }) t is refl refl

-- ---- new values

wait_reply_same : (c : ℕ) (text : Option (List ℕ)) (s t : State) (seen : List Sighting) → RepliesToWait c text s seen t → SameBlocks s t
wait_reply_same c text s t seen is = http_then_same s is.1.mid t is.1.one.0 is.1.one.2.next is.1.other.next

delivers_same : (target : ℕ) (s t : State) (seen : List Sighting) → Delivers target s seen t → SameBlocks s t
delivers_same target s t seen w =
    then_same s w.mid t
    (until_same (AnswersWait target) (λ (x : State). oldest_for target x.http.waits ≡ None)
    (λ x y calls move. wait_reply_same move.0 (last_of target x.thing.last) x y calls move.2) s w.mid w.first w.one)
    (coap_same w.mid t w.other.0 w.other.2.next (ap (λ (x : Server). x.parts) w.other.1) (ap (λ (x : Server). x.bodies) w.other.1) (ap (λ (x : Server). x.links) w.other.1))

pub delivers_each_same : (emissions : List Emission) (s t : State) (seen : List Sighting) → DeliversEach emissions s seen t → SameBlocks s t
delivers_each_same emissions s t seen each = each_same Delivers delivers_same (map (λ e. e.target) emissions) s t seen each

-- ---- HTTP

if_any_same : (c : ℕ) (reply : Option HttpReply) (s t : State) (seen : List Sighting) → SendsIfAny c reply s seen t → SameBlocks s t
if_any_same c None s t seen stays = same_state s t stays.next
if_any_same c (Some reply) s t seen does = same_state s t does.next

by_http_same : (site : Site) (q : RequestSeen) (done : Done) (s t : State) (seen : List Sighting) → PerformsByHttp site q done s seen t → SameBlocks s t
by_http_same site q done s t seen (inl directory) = same_as s (record s { directory = directory.1.0 }) t directory.1.3.next refl refl
by_http_same site q done s t seen (inr things) = thing_same s t things.1.0 things.1.3.next

taken_same : (site : Site) (c : ℕ) (taken : Taken) (s t : State) (seen : List Sighting) → AnswersTaken site c taken s seen t → SameBlocks s t
taken_same site c (asks q) s t seen (done, w) =
    let written = w.other.one.1 in
    then_same s w.mid t (by_http_same site q done s w.mid w.first w.one)
    (then_same w.mid w.other.mid t
    (then_same w.mid written.mid w.other.mid (http_same w.mid written.mid written.one.0 written.one.2.next)
    (if_any_same c w.other.one.0 written.mid w.other.mid written.second written.other))
    (delivers_each_same done.emissions w.other.mid t w.other.second w.other.other))
taken_same site c wants_continue s t seen is = http_then_same s is.1.mid t is.1.one.0 is.1.one.2.next is.1.other.next
taken_same site c (is_faulty status) s t seen is = http_then_same s is.1.mid t is.1.one.0 is.1.one.2.next is.1.other.next
taken_same site c interrupts s t seen does = same_state s t does.next

takes_same : (site : Site) (c : ℕ) (s t : State) (seen : List Sighting) → TakesNextMessage site c s seen t → SameBlocks s t
takes_same site c s t seen (taken, w) = then_same s w.mid t (http_same s w.mid w.one.0 w.one.2.next) (taken_same site c taken w.mid t w.second w.other)

closes_same : (s t : State) (seen : List Sighting) → ClosesIdle s seen t → SameBlocks s t
closes_same s t seen is = http_then_same s is.1.mid t is.1.one.0 is.1.one.2.next is.1.other.next

-- ---- polls, and the end of each event

polls_same : (p : Placed) (s t : State) (seen : List Sighting) → PollsAndDelivers p s seen t → SameBlocks s t
polls_same p s t seen (emissions, w) =
    then_same s w.mid t (thing_same s w.mid w.one.0 w.one.3.next) (delivers_each_same emissions w.mid t w.second w.other)

notification_sent : (n : Option Notice) (s : Server) → ((with_notification_sent n s).parts ≡ s.parts) × ((with_notification_sent n s).bodies ≡ s.bodies) × ((with_notification_sent n s).links ≡ s.links)
notification_sent None s = (refl, refl, refl)
notification_sent (Some n) s = by n.fresh
  where
    by : (b : Bool) → ((if b then with_next_id s else s).parts ≡ s.parts) × ((if b then with_next_id s else s).bodies ≡ s.bodies) × ((if b then with_next_id s else s).links ≡ s.links)
    by true = (refl, refl, refl)
    by false = (refl, refl, refl)

sends_same : (n : Option Notice) (s t : State) (seen : List Sighting) → OnCoap (λ now. SendsNext now n) s seen t → SameBlocks s t
sends_same n s t seen on =
    let sent = notification_sent n (with_observers on.1.observers s.coap) in
    coap_same s t on.0 on.2.next (ap (λ (x : Server). x.parts) on.1.after ∙ sent.0) (ap (λ (x : Server). x.bodies) on.1.after ∙ sent.1) (ap (λ (x : Server). x.links) on.1.after ∙ sent.2)

notification_same : (s t : State) (seen : List Sighting) → SendsNotification s seen t → SameBlocks s t
notification_same s t seen (n, w) = then_same s w.mid t (sends_same (Some n) s w.mid w.first w.one) (same_state w.mid t w.other.next)

pub ends_same : (s t : State) (seen : List Sighting) → EndsEvent s seen t → SameBlocks s t
ends_same s t seen w =
    let told = w.one in
    let rest = w.other in
    then_same s w.mid t
    (then_same s told.mid w.mid (until_same SendsNotification NothingIsDue notification_same s told.mid told.first told.one) (sends_same None told.mid w.mid told.second told.other))
    (then_same w.mid rest.mid t
    (until_same AnswersLateWait (λ (x : State). oldest_late x.moment x.http.waits ≡ None) (λ x y calls move. wait_reply_same move.0 None x y calls move.2) w.mid rest.mid rest.first rest.one)
    (until_same ClosesIdle (λ (x : State). NoneIdle x.moment x.http) closes_same rest.mid t rest.second rest.other))

-- ---- events

-- a datagram that is looked at came
pub record BringsDatagram (e : EventWithBytes) : Type 0 where
  pub from : Endpoint
  pub size : ℕ
  pub datagram : e.event.what ≡ what.Datagram from size
  pub short : length e.bytes ≤ LONGEST_DATAGRAM

-- this comes with these bytes, and is such a datagram
abbrev IsDatagram : What → List ℕ → Type 0
IsDatagram w bytes = (from : Endpoint) × (size : ℕ) × (w ≡ what.Datagram from size) × (length bytes ≤ LONGEST_DATAGRAM)

-- any other event leaves them
follows_same : (site : Site) (w : What) (bytes : List ℕ) (s t : State) (seen : List Sighting) → Follows site w bytes s seen t
    → SameBlocks s t ⊎ IsDatagram w bytes
follows_same site (what.Opened c) bytes s t seen on = inl (http_same s t on.0 on.2.next)
follows_same site (what.Bytes c size) bytes s t seen w =
    inl (then_same s w.mid t (http_same s w.mid w.one.0 w.one.2.next)
    (until_same (TakesNextMessage site c) (λ (x : State). IsDry c x.http) (takes_same site c) w.mid t w.second w.other))
follows_same site (what.Ended c) bytes s t seen on = inl (http_same s t on.0 on.2.next)
follows_same site (what.Datagram from size) bytes s t seen (inl long) = inl (same_state s t long.1.next)
follows_same site (what.Datagram from size) bytes s t seen (inr heard) = inr (from, size, refl, heard.0)
follows_same site what.Tick bytes s t seen each = inl (each_same PollsAndDelivers polls_same (events_of site.things) s t seen each)
follows_same site what.Stop bytes s t seen stays = inl (same_state s t stays.next)

-- so does an event that brings nothing that is looked at
pub event_same : (site : Site) (e : EventWithBytes) (s t : State) (seen : List Sighting) → EventAndStep site e s seen t
    → SameBlocks (record s { moment = max s.moment e.event.moment }) t ⊎ BringsDatagram e
event_same site e s t seen both =
    let step : Step site e s both.second t = subst (λ (x : State). Step site e x both.second t) both.one.next both.other in
    by step.mid step.second step.other (follows_same site e.event.what e.bytes (record s { moment = max s.moment e.event.moment }) step.mid step.first step.one)
  where
    by : (m : State) (rest : List Sighting) → EndsEvent m rest t
        → SameBlocks (record s { moment = max s.moment e.event.moment }) m ⊎ IsDatagram e.event.what e.bytes
        → SameBlocks (record s { moment = max s.moment e.event.moment }) t ⊎ BringsDatagram e
    by m rest ends (inl same) = inl (then_same (record s { moment = max s.moment e.event.moment }) m t same (ends_same m t rest ends))
    by m rest ends (inr (from, size, is, short)) = inr (record { from = from; size = size; datagram = is; short = short })
