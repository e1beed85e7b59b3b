-- The calls of a datagram and those of a tick.
use Rattle.std.proofs.Common.{◌≡◌, ℕ, false, max, List, [], ◌∷◌, ◌++◌, length, map, Option, Some, None, refl, sym, ap, subst, ◌∙◌, append_assoc, inl, inr}
use Rattle.std.specs.Prelude.{Contains}
use Rattle.std.proofs.lemmas.List.{append-nil}
use Rattle.std.proofs.lemmas.List.Elements.{Contains-push, Contains-append_left}
use Rattle.servient_base.specs.Moves.{Each}
use Rattle.coap_msg.specs.declared.endpoint.Endpoint.{Endpoint}
use Rattle.coap_msg.specs.Grammar.{CoapMessage}
use Rattle.coap_msg.specs.declared.message.RequestType.{RequestType}
use Rattle.coap_msg.specs.declared.message.RequestType.TheVariants.{Confirmable, NonConfirmable}
use Rattle.coap_msg.specs.Empty.{empty_reply, rejection_of}
use Rattle.coap_msg.specs.Requests.{request_type}
use Rattle.coap_opts.specs.Reading.{AskSeen, asked as what_is_asked}
use Rattle.coap_exchange.specs.declared.met.Met.TheVariants.{Fresh}
use Rattle.thing_ops.specs.Requests.{RequestSeen}
use Rattle.thing_handler.specs.Turns.{HandlerCall}
use Rattle.thing_site.specs.Site.{Placed, events_of}
use Rattle.coap_bind.specs.declared.pending.PendingReply.{PendingReply}
use Rattle.coap_bind.specs.declared.server.Server.{Server}
use Rattle.coap_bind.specs.Server.{Heard, ignored, answered_at_once, asked as is_asked, with_whole_body, malformed, no_request, duplicate, full, IsMet, replied_at_once, duplicate_reply, Reads, replied, bad_option_ignored, gives_links, asks as reads_asks, asks_whole, Hears, settled, admitted}
use Rattle.http_bind.specs.Streams.{Streams}
use Rattle.servient_outside.specs.declared.net.What.TheVariants as what
use Rattle.servient_outside.specs.declared.net.EventWithBytes.{EventWithBytes}
use Rattle.servient_outside.specs.Network.{heard, did, broke, events_in}
use Rattle.servient_trace.specs.Trace.{Sighting, at_network, at_handler, calls_in, happened_in}
use Rattle.servient_core.specs.Machine.{Site, State, AnswersDatagram, HearsDatagram, PollsAndDelivers}
use Rattle.servient_core.specs.Meaning.{by_coap}
use Rattle.servient_core.proofs.MachineLaws.{polls_keeps}
use Rattle.servient_core.proofs.MeaningLaws.{each_quiet, rest_quiet}
use Rattle.servient_laws.specs.CallRequests.{is_call, NoneHeard, IsHeardLast, IsRequestOf, as_it_is, with_blocks, CallsCome, no_call, is_poll, by_datagram}
use Rattle.servient_laws.proofs.CallHistories.{HasHeard, admitted_by}
use Rattle.servient_laws.proofs.CallsOfActs.{acts_have_calls, polls_are_one}
use Rattle.servient_laws.proofs.TakenMessages.{Settled, Settles64, settled_same, settled_then, deliveries_settle}

-- ---- what makes no call

abbrev NoCallIn : List Sighting → Type 0
NoCallIn [] = Unit {0}
NoCallIn (x ∷ a) = (is_call x ≡ false) × NoCallIn a

pub none_of : (a : List Sighting) → calls_in a ≡ [] → NoCallIn a
none_of [] none = tt
none_of (at_network h ∷ a) none = (refl, none_of a none)
none_of (at_handler c ∷ a) none = absurd (let e : c ∷ calls_in a ≡ [] = none in cc)

pub quiet_come : (site : Site) (exchanges : ℕ) (seen a : List Sighting) (used : ℕ → ℕ) → CallsCome site exchanges seen used → NoCallIn a → CallsCome site exchanges (seen ++ a) used
quiet_come site exchanges seen [] used come none = subst (λ (x : List Sighting). CallsCome site exchanges x used) (sym (append-nil seen)) come
quiet_come site exchanges seen (x ∷ a) used come none =
    subst (λ (l : List Sighting). CallsCome site exchanges l used) (append_assoc seen (x ∷ []) a) (quiet_come site exchanges (seen ++ x ∷ []) a used (no_call seen x used come none.0) none.1)

-- ---- events

-- the machine's moment is the event's, unless it was later
abbrev pub moved_to : EventWithBytes → State → State
moved_to e s = record s { moment = max s.moment e.event.moment }

same_ask : (a b : AskSeen) (r q : PendingReply) → is_asked a r ≡ is_asked b q → a ≡ b
same_ask a b r q same = cc

never_sent : (o : Option CoapMessage) (ask : AskSeen) (r : PendingReply) → is_asked ask r ≡ replied_at_once o → ⊥
never_sent None ask r e = cc
never_sent (Some m) ask r e = cc

never_repeated : (kind : RequestType) (o : Option (List ℕ)) (ask : AskSeen) (r : PendingReply) → is_asked ask r ≡ duplicate_reply kind o → ⊥
never_repeated Confirmable None ask r e = cc
never_repeated Confirmable (Some bytes) ask r e = cc
never_repeated NonConfirmable o ask r e = cc

-- the request of a message that was admitted
read_request : (from : Endpoint) (now : ℕ) (m : CoapMessage) (slot : ℕ) (ask : AskSeen) (r : PendingReply) (s t : Server) → Reads from now m slot (is_asked ask r) s t → IsRequestOf m ask.request
read_request from now m slot ask r s t (replied q parts bytes why replies is) = absurd (let e : is_asked ask r ≡ answered_at_once bytes = is in cc)
read_request from now m slot ask r s t (bad_option_ignored number first non is after) = absurd (let e : is_asked ask r ≡ ignored = is in cc)
read_request from now m slot ask r s t (gives_links bytes none acts links get replies is) = absurd (let e : is_asked ask r ≡ answered_at_once bytes = is in cc)
read_request from now m slot ask r s t (reads_asks none acts apart is after) = as_it_is (ap (λ (x : AskSeen). x.request) (same_ask ask (what_is_asked m) r _ is))
read_request from now m slot ask r s t (asks_whole b place parts whole none joins apart adds there is after) =
    with_blocks b whole.bytes joins (ap (λ (x : AskSeen). x.request) (same_ask ask (with_whole_body whole.bytes (what_is_asked m)) r _ is))

-- a datagram that is asked is a request, with what it asks
record Brought (from : Endpoint) (bytes : List ℕ) (now : ℕ) (q : RequestSeen) (s : Server) : Type 0 where
  m : CoapMessage
  slot : ℕ
  after : Server
  met : IsMet from bytes now m (Fresh slot) s after
  asks_for : IsRequestOf m q

brought : (from : Endpoint) (bytes : List ℕ) (now : ℕ) (ask : AskSeen) (r : PendingReply) (h : Heard) (s t : Server) → h ≡ is_asked ask r → Hears from bytes now h s t → Brought from bytes now ask.request s
brought from bytes now ask r h s t told (settled (malformed f fault is after)) = absurd (never_sent (rejection_of bytes) ask r (sym told ∙ is))
brought from bytes now ask r h s t told (settled (no_request m spells isnt is after)) = absurd (never_sent (empty_reply m.kind m.id false) ask r (sym told ∙ is))
brought from bytes now ask r h s t told (settled (duplicate m kept e met found is)) = absurd (never_repeated (request_type m.kind) e.reply ask r (sym told ∙ is))
brought from bytes now ask r h s t told (settled (full m u met is after)) = absurd (let e : is_asked ask r ≡ answered_at_once _ = sym told ∙ is in cc)
brought from bytes now ask r h s t told (admitted m slot u met reads) = record {
  m = m;
  slot = slot;
  after = u;
  met = met;
  asks_for = read_request from now m slot ask r u t (subst (λ (x : Heard). Reads from now m slot x u t) told reads);
}

-- the event was heard
pub heard_come : (site : Site) (exchanges : ℕ) (seen : List Sighting) (e : EventWithBytes) (used : ℕ → ℕ) → CallsCome site exchanges seen used → CallsCome site exchanges (seen ++ at_network (heard e) ∷ []) used
heard_come site exchanges seen e used come = no_call seen (at_network (heard e)) used come refl

-- what follows it
pub after_heard : (site : Site) (exchanges : ℕ) (seen : List Sighting) (e : EventWithBytes) (a : List Sighting) (used : ℕ → ℕ) → CallsCome site exchanges ((seen ++ at_network (heard e) ∷ []) ++ a) used → CallsCome site exchanges (seen ++ at_network (heard e) ∷ a) used
after_heard site exchanges seen e a used come = subst (λ (l : List Sighting). CallsCome site exchanges l used) (append_assoc seen (at_network (heard e) ∷ []) a) come

-- the calls of a datagram
pub datagram_come : (site : Site) (exchanges : ℕ) (from : Endpoint) (count : ℕ) (e : EventWithBytes) (seen a : List Sighting) (s t : State) (used : ℕ → ℕ) → e.event.what ≡ what.Datagram from count → HasHeard exchanges seen s
    → CallsCome site exchanges seen used → HearsDatagram site from e.bytes (moved_to e s) a t
    → CallsCome site exchanges (seen ++ at_network (heard e) ∷ a) used
datagram_come site exchanges from count e seen a s t used is told come (inl p) = after_heard site exchanges seen e a used (quiet_come site exchanges (seen ++ at_network (heard e) ∷ []) a used (heard_come site exchanges seen e used come) (none_of a (ap calls_in p.1.saw)))
datagram_come site exchanges from count e seen a s t used is told come (inr (under, (h, w))) = by h refl w.other
  where
    a_is : a ≡ w.second
    a_is = w.whole ∙ ap (λ (x : List Sighting). x ++ w.second) w.one.2.saw

    quiet : calls_in w.second ≡ [] → CallsCome site exchanges (seen ++ at_network (heard e) ∷ a) used
    quiet none = after_heard site exchanges seen e a used (quiet_come site exchanges (seen ++ at_network (heard e) ∷ []) a used (heard_come site exchanges seen e used come) (none_of a (ap calls_in a_is ∙ none)))

    by : (g : Heard) → h ≡ g → AnswersDatagram site from g w.mid w.second t → CallsCome site exchanges (seen ++ at_network (heard e) ∷ a) used
    by ignored same p = quiet (ap calls_in p.saw)
    by (answered_at_once bytes) same p = quiet (ap calls_in p.saw)
    by (is_asked ask r) same (done, v) =
        let b = brought from e.bytes (moved_to e s).moment ask r h s.coap w.one.0 same w.one.1 in
        let made : CallsCome site exchanges ((seen ++ at_network (heard e) ∷ []) ++ v.first) used =
        subst (λ (l : List Sighting). CallsCome site exchanges ((seen ++ at_network (heard e) ∷ []) ++ l) used) (sym v.one.3.saw)
        (by_datagram seen e from count b.m ask.request v.one.1 used (heard_come site exchanges seen e used come) is b.met.spells b.met.request
        (admitted_by exchanges seen e from b.m b.slot s b.after told b.met) b.asks_for (acts_have_calls site ask.request done w.mid.thing v.one.0 v.one.1 v.one.2)) in
        let rest = quiet_come site exchanges ((seen ++ at_network (heard e) ∷ []) ++ v.first) v.second used made (none_of v.second (rest_quiet site (by_coap from ask r) done v.mid t v.second v.other).calls) in
        after_heard site exchanges seen e a used (subst (λ (l : List Sighting). CallsCome site exchanges l used)
        (append_assoc (seen ++ at_network (heard e) ∷ []) v.first v.second ∙ ap (λ (l : List Sighting). (seen ++ at_network (heard e) ∷ []) ++ l) (sym (a_is ∙ v.whole))) rest)

pub datagram_settles : (site : Site) (from : Endpoint) (bytes : List ℕ) → Settles64 (HearsDatagram site from bytes)
datagram_settles site from bytes s t a places (inl p) = settled_same s.http t.http places (ap (λ (x : State). x.http) p.1.next)
datagram_settles site from bytes s t a places (inr (under, (h, w))) = by h w.other
  where
    mid : w.mid.http ≡ s.http
    mid = ap (λ (x : State). x.http) w.one.2.next

    by : (g : Heard) → AnswersDatagram site from g w.mid w.second t → Settled s.http t.http
    by ignored p = settled_same s.http t.http places (ap (λ (x : State). x.http) p.next ∙ mid)
    by (answered_at_once bytes) p = settled_same s.http t.http places (ap (λ (x : State). x.http) p.next ∙ mid)
    by (is_asked ask r) (done, v) =
        let there : v.other.mid.http ≡ s.http = ap (λ (x : State). x.http) (v.other.one.1.other.next ∙ v.other.one.1.one.2.next) ∙ ap (λ (x : State). x.http) v.one.3.next ∙ mid in
        let d = deliveries_settle done.emissions v.other.mid t v.other.second (ap (λ (h : Streams). length h.places) there ∙ places) v.other.other in
        settled_then s.http v.other.mid.http t.http (settled_same s.http v.other.mid.http places there) d

-- ---- polls

none_heard_then : (a b : List Sighting) → NoneHeard a → NoneHeard b → NoneHeard (a ++ b)
none_heard_then [] b p q = q
none_heard_then (x ∷ a) b p q = (p.0, none_heard_then a b p.1 q)

calls_none_heard : (calls : List HandlerCall) → NoneHeard (map at_handler calls)
calls_none_heard [] = tt
calls_none_heard (c ∷ calls) = (refl, calls_none_heard calls)

-- the trace of a move that hears nothing
none_heard_of : (a : List Sighting) → events_in (happened_in a) ≡ [] → NoneHeard a
none_heard_of [] none = tt
none_heard_of (at_network (heard e) ∷ a) none = absurd (let x : e ∷ events_in (happened_in a) ≡ [] = none in cc)
none_heard_of (at_network (did x) ∷ a) none = (refl, none_heard_of a none)
none_heard_of (at_network (broke x) ∷ a) none = (refl, none_heard_of a none)
none_heard_of (at_handler c ∷ a) none = (refl, none_heard_of a none)

still_last : (e : EventWithBytes) (seen a : List Sighting) → IsHeardLast e seen → NoneHeard a → IsHeardLast e (seen ++ a)
still_last e seen a last none = record {
  before = last.before;
  later = last.later ++ a;
  whole = ap (λ (l : List Sighting). l ++ a) last.whole ∙ append_assoc last.before (at_network (heard e) ∷ last.later) a;
  none = none_heard_then last.later a last.none none;
}

poll_hears : (p : Placed) (s t : State) (a : List Sighting) → PollsAndDelivers p s a t → events_in (happened_in a) ≡ []
poll_hears p s t a w = (polls_keeps p s a t w).hears

-- the polls of a tick, one after another
pub record Polled (site : Site) (exchanges : ℕ) (seen : List Sighting) (used : ℕ → ℕ) (h k : Streams) : Type 0 where
  pub come : CallsCome site exchanges seen used
  pub settled : Settled h k

pub polls_come : (site : Site) (exchanges : ℕ) (e : EventWithBytes) (before ps : List Placed) (seen a : List Sighting) (s t : State) (used : ℕ → ℕ) → e.event.what ≡ what.Tick → events_of site.things ≡ before ++ ps → IsHeardLast e seen → CallsCome site exchanges seen used
    → length s.http.places ≡ 64 → Each PollsAndDelivers ps s a t → Polled site exchanges (seen ++ a) used s.http t.http
polls_come site exchanges e before [] seen a s t used is all last come places stays = record {
  come = subst (λ (l : List Sighting). CallsCome site exchanges (seen ++ l) used) (sym stays.saw) (subst (λ (l : List Sighting). CallsCome site exchanges l used) (sym (append-nil seen)) come);
  settled = settled_same s.http t.http places (ap (λ (x : State). x.http) stays.next);
}
polls_come site exchanges e before (p ∷ ps) seen a s t used is all last come places w =
    let polled = w.one.1 in
    let on = polled.one in
    let among : Contains (events_of site.things) p = subst (λ (xs : List Placed). Contains xs p) (append_assoc before (p ∷ []) ps ∙ sym all) (Contains-append_left (before ++ p ∷ []) ps p (Contains-push before p)) in
    let made : CallsCome site exchanges (seen ++ polled.first) used =
    subst (λ (l : List Sighting). CallsCome site exchanges (seen ++ l) used) (sym on.3.saw) (is_poll seen e p on.1 used come last is among (polls_are_one p w.one.0 s.thing on.0 on.1 on.2)) in
    let delivered = each_quiet (map (λ x. x.target) w.one.0) polled.mid w.mid polled.second polled.other in
    let after : CallsCome site exchanges (seen ++ w.first) used =
    subst (λ (l : List Sighting). CallsCome site exchanges l used) (append_assoc seen polled.first polled.second ∙ ap (λ (l : List Sighting). seen ++ l) (sym polled.whole))
    (quiet_come site exchanges (seen ++ polled.first) polled.second used made (none_of polled.second delivered.calls)) in
    let mid_is : polled.mid.http ≡ s.http = ap (λ (x : State). x.http) on.3.next in
    let d = deliveries_settle w.one.0 polled.mid w.mid polled.second (ap (λ (h : Streams). length h.places) mid_is ∙ places) polled.other in
    let first : Settled s.http w.mid.http = settled_then s.http polled.mid.http w.mid.http (settled_same s.http polled.mid.http places mid_is) d in
    let none : NoneHeard w.first = none_heard_of w.first (poll_hears p s w.mid w.first w.one) in
    let rest = polls_come site exchanges e (before ++ p ∷ []) ps (seen ++ w.first) w.second w.mid t used is (all ∙ sym (append_assoc before (p ∷ []) ps)) (still_last e seen w.first last none) after first.places w.other in
    record {
      come = subst (λ (l : List Sighting). CallsCome site exchanges l used) (append_assoc seen w.first w.second ∙ ap (λ (l : List Sighting). seen ++ l) (sym w.whole)) rest.come;
      settled = settled_then s.http w.mid.http t.http first rest.settled;
    }
