-- Each run has a history of requests.
use Rattle.std.specs.Prelude.{Option, Some, Bool}
use Rattle.std.proofs.Common.{None, ◌≡◌, ℕ, ◌≤◌, ◌++◌, List, [], ◌∷◌, map, refl, sym, ap, subst, ◌∙◌, arith, max, inl, inr, false, append_assoc}
use Rattle.std.proofs.lemmas.List.{append-nil}
use Rattle.servient_base.specs.Moves.{Becomes, Each, Until, is_done, goes_on}
use Rattle.coap_msg.specs.declared.endpoint.Endpoint.{Endpoint}
use Rattle.coap_msg.specs.Grammar.{CoapMessage}
use Rattle.coap_msg.proofs.Messages.{at_most_one_message}
use Rattle.coap_msg.proofs.FaultLaws.{no_fault_of_message}
use Rattle.coap_exchange.specs.Admission.{Arrival}
use Rattle.coap_exchange.specs.declared.met.Met.{Met}
use Rattle.coap_exchange.specs.declared.met.Met.TheVariants.{Fresh, Repeat, Full}
use Rattle.coap_bind.specs.declared.pending.PendingReply.{PendingReply}
use Rattle.coap_bind.specs.declared.server.Server.{Server}
use Rattle.coap_bind.specs.Server.{start as nothing_came, Heard, ignored, answered_at_once, asked, arrival, is_request, with_observers, IsMet, malformed, no_request, duplicate, full, Hears, settled, admitted, Answers, SendsNext}
use Rattle.coap_opts.specs.Reading.{AskSeen}
use Rattle.coap_observe.specs.declared.notice.Notice.{Notice}
use Rattle.coap_bind.specs.Laws.{AreArrivals, IsOpen, Did, nothing, heard_of, answered, emitted, sent, linked}
use Rattle.coap_bind.specs.Writing.{head_in}
use Rattle.coap_bind.proofs.HistoryLaws.{sent_stays}
use Rattle.coap_exchange.specs.Table.{Table}
use Rattle.coap_bind.proofs.OpenLaws.{asks_are_open}
use Rattle.coap_bind.proofs.DuplicateLaws.{ready}
use Rattle.coap_bind.proofs.MomentLaws.{replies_moment, hears_moment}
use Rattle.http_bind.specs.Streams.{HttpReply, Streams, Taken, asks, wants_continue, is_faulty, interrupts, oldest_for, oldest_late, IsDry, NoneIdle}
use Rattle.thing_ops.specs.declared.outcome.Outcome.{Outcome}
use Rattle.thing_ops.specs.Requests.{RequestSeen}
use Rattle.thing_core.specs.Thing.{Done}
use Rattle.thing_site.specs.Site.{Placed, events_of}
use Rattle.thing_state.specs.State.{State as ThingState, Emission, last_of}
use Rattle.servient_outside.specs.declared.net.What.{What}
use Rattle.servient_outside.specs.declared.net.What.TheVariants as what
use Rattle.servient_outside.specs.declared.net.EventWithBytes.{EventWithBytes}
use Rattle.servient_core.specs.declared.serving.Served.{Served}
use Rattle.servient_core.specs.declared.serving.Served.TheVariants as served
use Rattle.servient_core.specs.declared.capacity.TheConstants.{MOST_WATCHERS}
use Rattle.servient_trace.specs.Trace.{Sighting, at_handler}
use Rattle.servient_core.specs.Links.{segments_of, text_of_links}
use Rattle.servient_core.specs.Machine.{Site, State, start, Move, OnCoap, SendsIfAny, RepliesToWait, AnswersWait, AnswersLateWait, Delivers, DeliversEach, observed_target, PerformsByHttp, AnswersDatagram, HearsDatagram, AnswersTaken, TakesNextMessage, ClosesIdle, PollsAndDelivers, SendsNotification, NothingIsDue, EndsEvent, Follows, Step, Run}
use Rattle.servient_core.specs.Serving.{Ends}
use Rattle.servient_core.specs.Runs.{AreRequestsOf, AreRequestsFrom, HasHistory, EachRunHasAHistory, ServingHasAHistory}

-- ---- a datagram

-- the requests of a datagram that was heard
one_arrival : (from : Endpoint) (bytes : List ℕ) (now : ℕ) (m : CoapMessage) (met : Met) (s t : Server) → IsMet from bytes now m met s t
    → (new : List Arrival) × AreArrivals from bytes now new
one_arrival from bytes now m met s t is = (arrival from now m ∷ [], (m, is.spells, is.request, refl))

arrivals : (from : Endpoint) (bytes : List ℕ) (now : ℕ) (h : Heard) (s t : Server) → Hears from bytes now h s t → (new : List Arrival) × AreArrivals from bytes now new
arrivals from bytes now h s t (settled (malformed f fault is same)) = ([], (λ m spells. absurd (no_fault_of_message f m bytes spells fault)))
arrivals from bytes now h s t (settled (no_request n spells isnt is same)) =
    ([], (λ m other. subst (λ (x : CoapMessage). is_request x ≡ false) (at_most_one_message n m bytes spells other) isnt))
arrivals from bytes now h s t (settled (duplicate m kept e met found is)) = one_arrival from bytes now m (Repeat kept) s t met
arrivals from bytes now h s t (settled (full m u met is same)) = one_arrival from bytes now m Full s u met
arrivals from bytes now h s t (admitted m slot u met reads) = one_arrival from bytes now m (Fresh slot) s u met

-- ---- moves

-- At a moment, the server holds what it holds after a history.
pub record Holds (k : ℕ) (history : List Arrival) (now : ℕ) (s : State) : Type 0 where
  pub did : Did k history s.coap
  pub early : s.coap.exchanges.moment ≤ now
  pub at : s.moment ≡ now

-- the same server at the same moment
stays : (k : ℕ) (history : List Arrival) (now : ℕ) (s t : State) → t.coap ≡ s.coap → t.moment ≡ s.moment → Holds k history now s → Holds k history now t
stays k history now s t same at h = record {
  did = subst (Did k history) (sym same) h.did;
  early = omega (arith, ap (λ (x : Server). x.exchanges.moment) same, h.early);
  at = at ∙ h.at;
}

-- another state, which is known
becomes : (k : ℕ) (history : List Arrival) (now : ℕ) (u t : State) → t ≡ u → Holds k history now u → Holds k history now t
becomes k history now u t next h = subst (Holds k history now) (sym next) h

http_stays : (k : ℕ) (history : List Arrival) (now : ℕ) (s t : State) (h : Streams) (seen : List Sighting) → Becomes (record s { http = h }) [] seen t → Holds k history now s → Holds k history now t
http_stays k history now s t h seen b = stays k history now s t (ap (λ (x : State). x.coap) b.next) (ap (λ (x : State). x.moment) b.next)

thing_stays : (k : ℕ) (history : List Arrival) (now : ℕ) (s t : State) (x : ThingState) (shown seen : List Sighting) → Becomes (record s { thing = x }) shown seen t
    → Holds k history now s → Holds k history now t
thing_stays k history now s t x shown seen b = stays k history now s t (ap (λ (y : State). y.coap) b.next) (ap (λ (y : State). y.moment) b.next)

answers_holds : (k : ℕ) (history : List Arrival) (now : ℕ) (request : PendingReply) (o : Outcome) (target : Option ℕ) (bytes : List ℕ) (s t : State) (seen : List Sighting)
    → IsOpen request s.coap → OnCoap (λ moment. Answers request o target bytes) s seen t → Holds k history now s → Holds k history now t
answers_holds k history now request o target bytes s t seen open_ask on h =
    becomes k history now (record s { coap = on.0 }) t on.2.next (record {
      did = (h.did.0, answered history s.coap on.0 request o target bytes h.did.1 open_ask on.1);
      early = omega (arith, replies_moment _ (head_in request) request.slot bytes (ready request o on.1.observers s.coap) on.0 on.1.replies, h.early);
      at = h.at;
    })

-- a move for each of some things
each_holds : {A : Type 0} (k : ℕ) (history : List Arrival) (now : ℕ) (P : A → Move)
    → ((x : A) (s t : State) (seen : List Sighting) → P x s seen t → Holds k history now s → Holds k history now t)
    → (xs : List A) (s t : State) (seen : List Sighting) → Each P xs s seen t → Holds k history now s → Holds k history now t
each_holds k history now P each [] s t seen stays h = becomes k history now s t stays.next h
each_holds k history now P each (x ∷ xs) s t seen both h =
    each_holds k history now P each xs both.mid t both.second both.other (each x s both.mid both.first both.one h)

until_holds : (k : ℕ) (history : List Arrival) (now : ℕ) (P : Move) (IsDone : State → Type 0)
    → ((s t : State) (seen : List Sighting) → P s seen t → Holds k history now s → Holds k history now t)
    → (s t : State) (seen : List Sighting) → Until P IsDone s seen t → Holds k history now s → Holds k history now t
until_holds k history now P IsDone each s t seen (is_done s' seen' t' done stays) h = becomes k history now s t stays.next h
until_holds k history now P IsDone each s t seen (goes_on s' mid t' seen' first second one more whole) h =
    until_holds k history now P IsDone each mid t second more (each s mid first one h)

-- ---- new values

wait_reply_holds : (k : ℕ) (history : List Arrival) (now c : ℕ) (text : Option (List ℕ)) (s t : State) (seen : List Sighting) → RepliesToWait c text s seen t
    → Holds k history now s → Holds k history now t
wait_reply_holds k history now c text s t seen is h =
    becomes k history now is.1.mid t is.1.other.next (http_stays k history now s is.1.mid is.1.one.0 is.1.first is.1.one.2 h)

delivers_holds : (k : ℕ) (history : List Arrival) (now target : ℕ) (s t : State) (seen : List Sighting) → Delivers target s seen t → Holds k history now s → Holds k history now t
delivers_holds k history now target s t seen both h =
    let waited = until_holds k history now (AnswersWait target) (λ (x : State). oldest_for target x.http.waits ≡ None)
    (λ x y calls move. wait_reply_holds k history now move.0 (last_of target x.thing.last) x y calls move.2) s both.mid both.first both.one h in
    let on = both.other in
    becomes k history now (record both.mid { coap = on.0 }) t on.2.next (record {
      did = (waited.did.0, emitted history both.mid.coap on.0 target waited.did.1 on.1);
      early = omega (arith, ap (λ (x : Server). x.exchanges.moment) on.1, waited.early);
      at = waited.at;
    })

delivers_each_holds : (k : ℕ) (history : List Arrival) (now : ℕ) (emissions : List Emission) (s t : State) (seen : List Sighting) → DeliversEach emissions s seen t
    → Holds k history now s → Holds k history now t
delivers_each_holds k history now emissions s t seen each h =
    each_holds k history now Delivers (λ x a b calls move. delivers_holds k history now x a b calls move) (map (λ e. e.target) emissions) s t seen each h

-- ---- answers

responds_holds : (k : ℕ) (history : List Arrival) (now : ℕ) (site : Site) (from : Endpoint) (heard : Heard) (s t : State) (seen : List Sighting) → AnswersDatagram site from heard s seen t
    → ((ask : AskSeen) (request : PendingReply) → heard ≡ asked ask request → IsOpen request s.coap) → Holds k history now s → Holds k history now t
responds_holds k history now site from ignored s t seen stays opens h = becomes k history now s t stays.next h
responds_holds k history now site from (answered_at_once bytes) s t seen does opens h = becomes k history now s t does.next h
responds_holds k history now site from (asked ask request) s t seen is opens h =
    let one = is.1 in
    let two = one.other in
    let three = two.one.1 in
    delivers_each_holds k history now is.0.emissions two.mid t two.second two.other
    (becomes k history now three.mid two.mid three.other.next
    (answers_holds k history now request is.0.outcome (observed_target site one.mid.thing ask) two.one.0 one.mid three.mid three.first
    (subst (λ (x : Server). IsOpen request x) (sym (ap (λ (x : State). x.coap) one.one.3.next)) (opens ask request refl)) three.one
    (thing_stays k history now s one.mid one.one.0 (map at_handler one.one.1) one.first one.one.3 h)))

if_any_holds : (k : ℕ) (history : List Arrival) (now c : ℕ) (reply : Option HttpReply) (s t : State) (seen : List Sighting) → SendsIfAny c reply s seen t
    → Holds k history now s → Holds k history now t
if_any_holds k history now c None s t seen stays h = becomes k history now s t stays.next h
if_any_holds k history now c (Some reply) s t seen does h = becomes k history now s t does.next h

by_http_holds : (k : ℕ) (history : List Arrival) (now : ℕ) (site : Site) (q : RequestSeen) (done : Done) (s t : State) (seen : List Sighting) → PerformsByHttp site q done s seen t
    → Holds k history now s → Holds k history now t
by_http_holds k history now site q done s t seen (inl directory) h =
    let next = directory.1.3.next in
    stays k history now s t (ap (λ (x : State). x.coap) next) (ap (λ (x : State). x.moment) next) h
by_http_holds k history now site q done s t seen (inr things) h = thing_stays k history now s t things.1.0 (map at_handler things.1.1) seen things.1.3 h

handles_holds : (k : ℕ) (history : List Arrival) (now : ℕ) (site : Site) (c : ℕ) (taken : Taken) (s t : State) (seen : List Sighting) → AnswersTaken site c taken s seen t
    → Holds k history now s → Holds k history now t
handles_holds k history now site c (asks q) s t seen is h =
    let one = is.1 in
    let two = one.other in
    let three = two.one.1 in
    delivers_each_holds k history now is.0.emissions two.mid t two.second two.other
    (if_any_holds k history now c two.one.0 three.mid two.mid three.second three.other
    (http_stays k history now one.mid three.mid three.one.0 three.first three.one.2 (by_http_holds k history now site q is.0 s one.mid one.first one.one h)))
handles_holds k history now site c wants_continue s t seen is h =
    becomes k history now is.1.mid t is.1.other.next (http_stays k history now s is.1.mid is.1.one.0 is.1.first is.1.one.2 h)
handles_holds k history now site c (is_faulty status) s t seen is h =
    becomes k history now is.1.mid t is.1.other.next (http_stays k history now s is.1.mid is.1.one.0 is.1.first is.1.one.2 h)
handles_holds k history now site c interrupts s t seen does h = becomes k history now s t does.next h

takes_holds : (k : ℕ) (history : List Arrival) (now : ℕ) (site : Site) (c : ℕ) (s t : State) (seen : List Sighting) → TakesNextMessage site c s seen t
    → Holds k history now s → Holds k history now t
takes_holds k history now site c s t seen is h =
    handles_holds k history now site c is.0 is.1.mid t is.1.second is.1.other (http_stays k history now s is.1.mid is.1.one.0 is.1.first is.1.one.2 h)

closes_holds : (k : ℕ) (history : List Arrival) (now : ℕ) (s t : State) (seen : List Sighting) → ClosesIdle s seen t → Holds k history now s → Holds k history now t
closes_holds k history now s t seen is h =
    becomes k history now is.1.mid t is.1.other.next (http_stays k history now s is.1.mid is.1.one.0 is.1.first is.1.one.2 h)

-- ---- polls, and the end of each event

polls_holds : (k : ℕ) (history : List Arrival) (now : ℕ) (p : Placed) (s t : State) (seen : List Sighting) → PollsAndDelivers p s seen t
    → Holds k history now s → Holds k history now t
polls_holds k history now p s t seen is h =
    let both = is.1 in
    delivers_each_holds k history now is.0 both.mid t both.second both.other
    (thing_stays k history now s both.mid both.one.0 (map at_handler both.one.1) both.first both.one.3 h)

-- the server was asked what is to be sent
sends_holds : (k : ℕ) (history : List Arrival) (now : ℕ) (n : Option Notice) (s t : State) (seen : List Sighting) → OnCoap (λ moment. SendsNext moment n) s seen t
    → Holds k history now s → Holds k history now t
sends_holds k history now n s t seen on h =
    becomes k history now (record s { coap = on.0 }) t on.2.next (record {
      did = (h.did.0, sent history s.coap on.0 s.moment n h.did.1 on.1);
      early = omega (
        arith,
        ap (λ (x : Table). x.moment) (ap (λ (x : Server). x.exchanges) on.1.after ∙ sent_stays n (with_observers on.1.observers s.coap)),
        h.early,
      );
      at = h.at;
    })

notification_holds : (k : ℕ) (history : List Arrival) (now : ℕ) (s t : State) (seen : List Sighting) → SendsNotification s seen t → Holds k history now s → Holds k history now t
notification_holds k history now s t seen is h =
    becomes k history now is.1.mid t is.1.other.next (sends_holds k history now (Some is.0) s is.1.mid is.1.first is.1.one h)

ends_holds : (k : ℕ) (history : List Arrival) (now : ℕ) (s t : State) (seen : List Sighting) → EndsEvent s seen t → Holds k history now s → Holds k history now t
ends_holds k history now s t seen both h =
    let told = both.one in
    let rest = both.other in
    until_holds k history now ClosesIdle (λ (x : State). NoneIdle x.moment x.http) (λ x y calls move. closes_holds k history now x y calls move) rest.mid t rest.second rest.other
    (until_holds k history now AnswersLateWait (λ (x : State). oldest_late x.moment x.http.waits ≡ None)
    (λ x y calls move. wait_reply_holds k history now move.0 None x y calls move.2) both.mid rest.mid rest.first rest.one
    (sends_holds k history now None told.mid both.mid told.second told.other
    (until_holds k history now SendsNotification NothingIsDue (λ x y calls move. notification_holds k history now x y calls move) s told.mid told.first told.one h)))

-- ---- events

-- the history has the requests of what comes more
pub record GoesOn (k : ℕ) (history : List Arrival) (now : ℕ) (w : What) (bytes : List ℕ) (t : State) : Type 0 where
  pub new : List Arrival
  pub requests : AreRequestsOf w bytes now new
  pub holds : Holds k (history ++ new) now t

-- by none
nothing_new : (k : ℕ) (history : List Arrival) (now : ℕ) (t : State) → Holds k history now t → Holds k (history ++ []) now t
nothing_new k history now t h = subst (λ (x : List Arrival). Holds k x now t) (sym (append-nil history)) h

receives_goes_on : (k : ℕ) (history : List Arrival) (now : ℕ) (site : Site) (from : Endpoint) (size : ℕ) (bytes : List ℕ) (s t : State) (seen : List Sighting)
    → HearsDatagram site from bytes s seen t → Holds k history now s → GoesOn k history now (what.Datagram from size) bytes t
receives_goes_on k history now site from size bytes s t seen (inl long) h =
    record { new = []; requests = inl (long.0, refl); holds = becomes k (history ++ []) now s t long.1.next (nothing_new k history now s h) }
receives_goes_on k history now site from size bytes s t seen (inr heard) h =
    let both = heard.1.1 in
    let on = both.one in
    let hears : Hears from bytes now heard.1.0 s.coap on.0 = subst (λ (n : ℕ). Hears from bytes n heard.1.0 s.coap on.0) h.at on.1 in
    let new = arrivals from bytes now heard.1.0 s.coap on.0 hears in
    record {
      new = new.0;
      requests = inr (heard.0, new.1);
      holds = responds_holds k (history ++ new.0) now site from heard.1.0 both.mid t both.second both.other
          (λ ask request is. subst (λ (x : Server). IsOpen request x) (sym (ap (λ (x : State). x.coap) on.2.next))
          (asks_are_open from bytes now ask request s.coap on.0 (subst (λ (x : Heard). Hears from bytes now x s.coap on.0) is hears)))
          (becomes k (history ++ new.0) now (record s { coap = on.0 }) both.mid on.2.next (record {
            did = (h.did.0, heard_of history new.0 s.coap on.0 from bytes now heard.1.0 h.did.1 h.early hears new.1);
            early = hears_moment from bytes now heard.1.0 s.coap on.0 hears h.early;
            at = h.at;
          }));
    }

follows_goes_on : (k : ℕ) (history : List Arrival) (now : ℕ) (site : Site) (w : What) (bytes : List ℕ) (s t : State) (seen : List Sighting) → Follows site w bytes s seen t
    → Holds k history now s → GoesOn k history now w bytes t
follows_goes_on k history now site (what.Opened c) bytes s t seen on h =
    record { new = []; requests = refl; holds = nothing_new k history now t (http_stays k history now s t on.0 seen on.2 h) }
follows_goes_on k history now site (what.Bytes c size) bytes s t seen both h = record {
  new = [];
  requests = refl;
  holds = nothing_new k history now t
      (until_holds k history now (TakesNextMessage site c) (λ (x : State). IsDry c x.http) (λ x y calls move. takes_holds k history now site c x y calls move) both.mid t both.second both.other
      (http_stays k history now s both.mid both.one.0 both.first both.one.2 h));
}
follows_goes_on k history now site (what.Ended c) bytes s t seen on h =
    record { new = []; requests = refl; holds = nothing_new k history now t (http_stays k history now s t on.0 seen on.2 h) }
follows_goes_on k history now site (what.Datagram from size) bytes s t seen receives h = receives_goes_on k history now site from size bytes s t seen receives h
follows_goes_on k history now site what.Tick bytes s t seen each h = record {
  new = [];
  requests = refl;
  holds = nothing_new k history now t
      (each_holds k history now PollsAndDelivers (λ x a b calls move. polls_holds k history now x a b calls move) (events_of site.things) s t seen each h);
}
follows_goes_on k history now site what.Stop bytes s t seen ends h =
    record { new = []; requests = refl; holds = nothing_new k history now t (becomes k history now s t ends.next h) }

pub step_goes_on : (k : ℕ) (history : List Arrival) (now : ℕ) (site : Site) (e : EventWithBytes) (s t : State) (seen : List Sighting) → Step site e s seen t
    → Holds k history now s → GoesOn k history (max now e.event.moment) e.event.what e.bytes t
step_goes_on k history now site e s t seen step h =
    let later : ℕ = max now e.event.moment in
    let moved : State = record s { moment = max s.moment e.event.moment } in
    let there : Holds k history later moved = record { did = h.did; early = omega (arith, h.early); at = ap (λ (n : ℕ). max n e.event.moment) h.at } in
    let goes = follows_goes_on k history later site e.event.what e.bytes moved step.mid step.first step.one there in
    record {
      new = goes.new;
      requests = goes.requests;
      holds = ends_holds k (history ++ goes.new) later step.mid t step.second step.other goes.holds;
    }

-- ---- runs

record RunsOn (k : ℕ) (history : List Arrival) (now : ℕ) (es : List EventWithBytes) (t : State) : Type 0 where
  new : List Arrival
  requests : AreRequestsFrom now es new
  later : ℕ
  holds : Holds k (history ++ new) later t

run_goes_on : (k : ℕ) (history : List Arrival) (now : ℕ) (site : Site) (es : List EventWithBytes) (s t : State) (seen : List Sighting) → Run site es s seen t
    → Holds k history now s → RunsOn k history now es t
run_goes_on k history now site [] s t seen r h =
    record { new = []; requests = refl; later = now; holds = becomes k (history ++ []) now s t r.next (nothing_new k history now s h) }
run_goes_on k history now site (e ∷ es) s t seen r h =
    let one = step_goes_on k history now site e r.one.mid r.mid r.one.second r.one.other (becomes k history now s r.one.mid r.one.one.next h) in
    let others = run_goes_on k (history ++ one.new) (max now e.event.moment) site es r.mid t r.second r.other one.holds in
    record {
      new = one.new ++ others.new;
      requests = (one.new, others.new, one.requests, others.requests, refl);
      later = others.later;
      holds = subst (λ (x : List Arrival). Holds k x others.later t) (append_assoc history one.new others.new) others.holds;
    }

-- before the first event
pub starts_so : (site : Site) (k : ℕ) (epoch : Option ℕ) → Holds k [] 0 (start site k epoch)
starts_so site k epoch = record {
  did = (MOST_WATCHERS, linked [] (nothing_came k MOST_WATCHERS) (start site k epoch).coap (text_of_links (segments_of site)) nothing refl);
  early = omega arith;
  at = refl;
}

pub each_run_has_a_history : EachRunHasAHistory
each_run_has_a_history site k epoch took seen t r =
    let run = run_goes_on k [] 0 site took (start site k epoch) t seen r (starts_so site k epoch) in
    record { history = run.new; requests = run.requests; did = run.holds.did; moment = omega (arith, run.holds.early, run.holds.at) }

-- the end of serving changes nothing
ends_same : (result : Served) (s t : State) (seen : List Sighting) → Ends result s seen t → t ≡ s
ends_same served.Stopped s t seen ends = ends.next
ends_same served.Failed s t seen ends = ends.next
ends_same served.Spent s t seen ends = ends.next

pub serving_has_a_history : ServingHasAHistory
serving_has_a_history site k budget epoch result seen t r =
    subst (HasHistory k r.took) (sym (ends_same result r.run.mid t r.run.second r.run.other)) (each_run_has_a_history site k epoch r.took r.run.first r.run.mid r.run.one)
