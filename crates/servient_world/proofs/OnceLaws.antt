-- Each move keeps `Holds`, so an ask is acted on at most once.
use Rattle.std.proofs.Common.{◌≡◌, ◌≢◌, ℕ, ◌+◌, ◌-◌, ◌≤◌, ◌∙◌, Bool, true, false, cond, Option, Some, None, List, [], ◌∷◌, ◌++◌, map, take, length, refl, sym, ap, subst, arith}
use Rattle.std.specs.Prelude.{All, AllPairs, Contains, slice_get, option_map}
use Rattle.std.specs.Option.{option_to_list}
use Rattle.std.proofs.lemmas.List.Elements.{All-append, All-map, All-nil, All-push, All-weaker, Contains-push}
use Rattle.coap_msg.specs.declared.endpoint.Endpoint.{Endpoint}
use Rattle.coap_msg.specs.Endpoints.{is_same_endpoint}
use Rattle.coap_exchange.specs.Table.{Table}
use Rattle.coap_client.specs.declared.outstanding.Outstanding.{Outstanding}
use Rattle.coap_client.specs.declared.state.State.{State}
use Rattle.coap_client.specs.declared.due.Due.TheVariants as what
use Rattle.coap_client.specs.Asking.{Asking, MayAsk}
use Rattle.coap_client.specs.Exchange.{at_moment, request_for, Asks, ComesDue}
use Rattle.coap_client.specs.Laws.{Did as ClientDid, nothing as client_did_nothing, asked as client_asked, refused as client_refused, took as client_took, retransmitted as client_retransmitted}
use Rattle.coap_client.proofs.HistoryLaws.{follows, keeps_delivered}
use Rattle.coap_client.proofs.StepLaws.{keeps_due}
use Rattle.coap_client.proofs.RequestLaws.{last_is_retransmitted}
use Rattle.coap_observe.specs.declared.notice.Notice.{Notice}
use Rattle.coap_observe.specs.Accounts.{last_place, token_of}
use Rattle.coap_bind.specs.declared.server.Server.{Server}
use Rattle.coap_bind.specs.Server.{start as nothing_came, with_emitted, with_links, with_observers}
use Rattle.coap_bind.specs.Laws.{Did as ServerDid, nothing as server_did_nothing, emitted as server_emitted, sent as server_sent, linked as server_linked}
use Rattle.coap_bind.specs.Treating.{Acted}
use Rattle.coap_bind.proofs.HistoryLaws.{sent_stays}
use Rattle.servient_world.specs.declared.network.TheConstants.{MAX_LATENCY}
use Rattle.servient_world.specs.World.{Emission, client_place, server_place, Purpose, copy_of, other, Datagram, Act, AskEnd, Value, WorldState, IsStart, WorldMove, ask, due, deliver, pass, elsewhere, emit, notify, latest, with_sent, ClientAsks, sends_ask, refuses_ask, skips_ask, ClientDoesDue, retransmits, gives_up, waits, ClientTakes, end_by, taken_by, acts_for, id_used, purpose_back, ServerTakes, with_new_value, targets_of, registration_from, purpose_at, purpose_of, notification_sent, with_notification, ServerNotifies, Comes, too_late, to_client, to_server, ComesIfSent, from_elsewhere, ComesElsewhere, comes_elsewhere, skips_end, Plays, PlaysAll}
use Rattle.servient_world.specs.Laws.{ActedOnce}
use Rattle.servient_world.proofs.Places.{all_at, at_last, at_end}
use Rattle.servient_world.proofs.AskLaws.{HasMessage, asks_are_asks}
use Rattle.servient_world.proofs.Holds.{Holds, IsSentFor, IsActed, sent_for_more, admitted_more, back, Served, serves, came_soon}

-- ---- datagrams

-- these were sent now
past_sent : (w : WorldState) (from to : Endpoint) (p : Purpose) (said : List (List ℕ)) → All (λ d. d.moment ≤ w.moment) w.sent
    → All (λ d. d.moment ≤ w.moment) (with_sent w from to p said).sent
past_sent w from to p said all =
    let one : List ℕ → Datagram = λ bytes. record { moment = w.moment; from = from; to = to; bytes = bytes; purpose = p } in
    All-append (λ (d : Datagram). d.moment ≤ w.moment) w.sent (map one said) all
    (All-map (λ (d : Datagram). d.moment ≤ w.moment) one said (λ k d within. omega arith))

-- and are as their purposes say
purposes_sent : (w : WorldState) (from to : Endpoint) (p : Purpose) (said : List (List ℕ)) → All (λ d. IsSentFor w.asks d d.purpose) w.sent
    → ((d : Datagram) → IsSentFor w.asks d p) → All (λ d. IsSentFor w.asks d d.purpose) (with_sent w from to p said).sent
purposes_sent w from to p said all each =
    let one : List ℕ → Datagram = λ bytes. record { moment = w.moment; from = from; to = to; bytes = bytes; purpose = p } in
    All-append (λ (d : Datagram). IsSentFor w.asks d d.purpose) w.sent (map one said) all
    (All-map (λ (d : Datagram). IsSentFor w.asks d d.purpose) one said (λ k d within. each _))

-- ---- the client

holds_asked : (capacity : ℕ) (w : WorldState) (a : Asking) (n : ℕ) (old new : List ℕ) (t : State) → Holds capacity w → MayAsk a
    → (asks : Asks (at_moment w.moment w.client) server_place a n old new t)
    → Holds capacity (with_sent (record w { client = t; asks = w.asks ++ request_for (at_moment w.moment w.client) server_place a asks.id ∷ [] })
    client_place server_place (copy_of (length w.asks)) (take n new ∷ []))
holds_asked capacity w a n old new t h may asks =
    let o : Outstanding = request_for (at_moment w.moment w.client) server_place a asks.id in
    let d : Datagram = record { moment = w.moment; from = client_place; to = server_place; bytes = take n new; purpose = copy_of (length w.asks) } in
    record {
      did = client_asked w.asks w.client t w.moment server_place a n old new h.did h.client_moment asks;
      client_moment = let at = ap (λ (x : State). x.moment) asks.after in omega arith;
      history = h.history;
      served = h.served;
      server_moment = h.server_moment;
      messages = All-push HasMessage w.asks o h.messages
          (asks_are_asks w.asks w.client t w.moment server_place a n old new h.did may asks);
      past = All-push (λ (x : Datagram). x.moment ≤ w.moment) w.sent d h.past (omega arith);
      purposes = All-push (λ (x : Datagram). IsSentFor (w.asks ++ o ∷ []) x x.purpose) w.sent d
          (All-weaker (λ (x : Datagram). IsSentFor w.asks x x.purpose) (λ (x : Datagram). IsSentFor (w.asks ++ o ∷ []) x x.purpose)
          (λ x is. sent_for_more w.asks (o ∷ []) x x.purpose is) w.sent h.purposes)
          (record {
            request = o;
            ask = at_last w.asks o;
            bytes = asks.written.front;
            first = omega arith;
            soon = omega arith;
            from = refl;
            to = refl;
          });
      acted = All-weaker (IsActed capacity h.history w.asks) (IsActed capacity h.history (w.asks ++ o ∷ []))
          (λ x is. admitted_more capacity h.history w.asks (o ∷ []) x.ask is) w.acts h.acted;
      once = h.once;
    }

-- only the client changed, and it sent no request
holds_client : (capacity : ℕ) (w : WorldState) (t : State) (ends : List AskEnd) (taken : List Value) → Holds capacity w → ClientDid w.asks t → t.moment ≤ w.moment
    → Holds capacity (record w { client = t; ends = ends; taken = taken })
holds_client capacity w t ends taken h did moment = record {
  did = did;
  client_moment = moment;
  history = h.history;
  served = h.served;
  server_moment = h.server_moment;
  messages = h.messages;
  past = h.past;
  purposes = h.purposes;
  acted = h.acted;
  once = h.once;
}

-- something was sent
holds_sent : (capacity : ℕ) (w : WorldState) (from to : Endpoint) (p : Purpose) (said : List (List ℕ)) → Holds capacity w
    → All (λ d. IsSentFor w.asks d d.purpose) (with_sent w from to p said).sent → Holds capacity (with_sent w from to p said)
holds_sent capacity w from to p said h purposes = record {
  did = h.did;
  client_moment = h.client_moment;
  history = h.history;
  served = h.served;
  server_moment = h.server_moment;
  messages = h.messages;
  past = past_sent w from to p said h.past;
  purposes = purposes;
  acted = h.acted;
  once = h.once;
}

holds_retransmitted : (capacity : ℕ) (w : WorldState) (n : ℕ) (old new : List ℕ) (t : State) → Holds capacity w
    → ComesDue (at_moment w.moment w.client) (what.Send n) old new t
    → Holds capacity (with_sent (record w { client = t }) client_place server_place (copy_of (latest w)) (take n new ∷ []))
holds_retransmitted capacity w n old new t h is_due =
    let last = last_is_retransmitted w.asks w.client t w.moment n old new h.did h.client_moment is_due in
    let keeps = keeps_due (at_moment w.moment w.client) t (what.Send n) old new is_due in
    let moment : t.moment ≤ w.moment = let at = keeps.moment in omega arith in
    let next : WorldState = record w { client = t } in
    let now : Holds capacity next = holds_client capacity w t w.ends w.taken h (client_retransmitted w.asks w.client t w.moment (what.Send n) old new h.did h.client_moment is_due) moment in
    let past = (follows w.asks w.client h.did).past last.1
    (subst (λ (l : List Outstanding). Contains l last.1) (sym last.2) (Contains-push last.0 last.1)) in
    let d : Datagram = record { moment = w.moment; from = client_place; to = server_place; bytes = take n new; purpose = copy_of (latest w) } in
    holds_sent capacity next client_place server_place (copy_of (latest w)) (take n new ∷ []) now
    (All-push (λ (x : Datagram). IsSentFor w.asks x x.purpose) w.sent d h.purposes (record {
      request = last.1;
      ask = at_end w.asks last.0 last.1 last.2;
      bytes = last.3;
      first = let early = h.client_moment in omega arith;
      soon = last.4;
      from = refl;
      to = refl;
    }))

-- ---- the moves

keeps_ask : (capacity : ℕ) (a : Asking) (w v : WorldState) → ClientAsks a w v → Holds capacity w → Holds capacity v
keeps_ask capacity a w v (sends_ask n old new t may asks is) h = subst (Holds capacity) (sym is) (holds_asked capacity w a n old new t h may asks)
keeps_ask capacity a w v (refuses_ask f refused is) h =
    subst (Holds capacity) (sym is) (holds_client capacity w (at_moment w.moment w.client) w.ends w.taken h (client_refused w.asks w.client w.moment h.did h.client_moment) (omega arith))
keeps_ask capacity a w v (skips_ask may_not is) h = subst (Holds capacity) (sym is) h

keeps_due_move : (capacity : ℕ) (w v : WorldState) → ClientDoesDue w v → Holds capacity w → Holds capacity v
keeps_due_move capacity w v (retransmits n old new t is_due is) h = subst (Holds capacity) (sym is) (holds_retransmitted capacity w n old new t h is_due)
keeps_due_move capacity w v (gives_up old new t is_due is) h =
    let keeps = keeps_due (at_moment w.moment w.client) t what.TimedOut old new is_due in
    subst (Holds capacity) (sym is)
    (holds_client capacity w t _ w.taken h (client_retransmitted w.asks w.client t w.moment what.TimedOut old new h.did h.client_moment is_due) (let at = keeps.moment in omega arith))
keeps_due_move capacity w v (waits old new t is_due is) h =
    let keeps = keeps_due (at_moment w.moment w.client) t what.Nothing old new is_due in
    subst (Holds capacity) (sym is)
    (holds_client capacity w t w.ends w.taken h (client_retransmitted w.asks w.client t w.moment what.Nothing old new h.did h.client_moment is_due) (let at = keeps.moment in omega arith))

keeps_take : (capacity : ℕ) (d : Datagram) (w v : WorldState) → ClientTakes d w v → Holds capacity w → Holds capacity v
keeps_take capacity d w v x h =
    let keeps = keeps_delivered (at_moment w.moment w.client) x.after d.from d.bytes x.told x.old x.new x.delivers in
    let ends : List AskEnd = w.ends ++ end_by w.client.outstanding x.after.outstanding (latest w) x.told.news in
    let taken : List Value = w.taken ++ taken_by d.purpose x.told.news in
    let mid : WorldState = record w { client = x.after; ends = ends; taken = taken } in
    let said : List (List ℕ) = option_to_list (option_map (λ n. take n x.new) x.told.reply) in
    let next = holds_client capacity w x.after ends taken h (client_took w.asks w.client x.after w.moment d.from d.bytes x.told x.old x.new h.did h.client_moment x.delivers) (let at = keeps.moment in omega arith) in
    subst (Holds capacity) (sym x.next) (holds_sent capacity mid client_place d.from other said next (purposes_sent mid client_place d.from other said h.purposes (λ y. tt)))

-- the server and the acts changed
holds_served : (capacity : ℕ) (w : WorldState) (p : Purpose) (act : Option Acted) (t : Server) (n : ℕ) → Holds capacity w → Served capacity w p act t
    → Holds capacity (record w { server = t; acts = w.acts ++ acts_for p act; ids = n })
holds_served capacity w p act t n h s = record {
  did = h.did;
  client_moment = h.client_moment;
  history = s.history;
  served = s.did;
  server_moment = s.moment;
  messages = h.messages;
  past = h.past;
  purposes = h.purposes;
  acted = s.acted;
  once = s.once;
}

keeps_serve : (capacity : ℕ) (d : Datagram) (w v : WorldState) → ServerTakes d w v → Holds capacity w → IsSentFor w.asks d d.purpose → d.moment ≤ w.moment → w.moment - d.moment ≤ MAX_LATENCY
    → Holds capacity v
keeps_serve capacity d w v x h for past soon =
    let s = serves capacity w d d.purpose x.act x.back x.after h for past soon x.receives in
    let mid : WorldState = record w { server = x.after; acts = w.acts ++ acts_for d.purpose x.act; ids = w.ids + id_used w.server x.after } in
    let next = holds_served capacity w d.purpose x.act x.after (w.ids + id_used w.server x.after) h s in
    subst (Holds capacity) (sym x.next)
    (holds_sent capacity mid server_place d.from (purpose_back d.purpose) x.back next
    (purposes_sent mid server_place d.from (purpose_back d.purpose) x.back h.purposes (λ y. back w.asks y d.purpose)))

keeps_come : (capacity : ℕ) (d : Datagram) (w v : WorldState) → Comes d w v → Holds capacity w → IsSentFor w.asks d d.purpose → d.moment ≤ w.moment → Holds capacity v
keeps_come capacity d w v (too_late late is) h for past = subst (Holds capacity) (sym is) h
keeps_come capacity d w v (to_client may to take) h for past = keeps_take capacity d w v take h
keeps_come capacity d w v (to_server may to serve) h for past = keeps_serve capacity d w v serve h for past (came_soon w.moment d may)

keeps_deliver : (capacity : ℕ) (w v : WorldState) (i : ℕ) (o : Option Datagram) → slice_get w.sent i ≡ o → ComesIfSent o w v → Holds capacity w → Holds capacity v
keeps_deliver capacity w v i None e is h = subst (Holds capacity) (sym is) h
keeps_deliver capacity w v i (Some d) e is h =
    keeps_come capacity d w v is h (all_at (λ (x : Datagram). IsSentFor w.asks x x.purpose) w.sent i d h.purposes e) (all_at (λ (x : Datagram). x.moment ≤ w.moment) w.sent i d h.past e)

keeps_elsewhere : (capacity : ℕ) (from : Endpoint) (bytes : List ℕ) (w v : WorldState) → ComesElsewhere from bytes w v → Holds capacity w → Holds capacity v
keeps_elsewhere capacity from bytes w v (comes_elsewhere no_end takes_it) h =
    keeps_serve capacity (from_elsewhere w.moment from bytes) w v takes_it h tt (omega arith) (omega arith)
keeps_elsewhere capacity from bytes w v (skips_end is_one is) h = subst (Holds capacity) (sym is) h

holds_later : (capacity : ℕ) (w : WorldState) (n : ℕ) → Holds capacity w → Holds capacity (record w { moment = w.moment + n })
holds_later capacity w n h = record {
  did = h.did;
  client_moment = let early = h.client_moment in omega arith;
  history = h.history;
  served = h.served;
  server_moment = let early = h.server_moment in omega arith;
  messages = h.messages;
  past = All-weaker (λ (d : Datagram). d.moment ≤ w.moment) (λ (d : Datagram). d.moment ≤ w.moment + n) (λ d early. omega arith) w.sent h.past;
  purposes = h.purposes;
  acted = h.acted;
  once = h.once;
}

-- the server alone changed
holds_server : (capacity : ℕ) (w : WorldState) (t : Server) (emitted : List Emission) (h : Holds capacity w) → ServerDid capacity h.history t
    → t.exchanges.moment ≤ w.moment → Holds capacity (record w { server = t; emitted = emitted })
holds_server capacity w t emitted h did moment = record {
  did = h.did;
  client_moment = h.client_moment;
  history = h.history;
  served = did;
  server_moment = moment;
  messages = h.messages;
  past = h.past;
  purposes = h.purposes;
  acted = h.acted;
  once = h.once;
}

keeps_emit : (capacity : ℕ) (e : Emission) (w v : WorldState) → v ≡ with_new_value e w → Holds capacity w → Holds capacity v
keeps_emit capacity e w v is h =
    subst (Holds capacity) (sym is)
    (holds_server capacity w (with_emitted e.target w.server) (w.emitted ++ e ∷ []) h (h.served.0, server_emitted h.history w.server (with_emitted e.target w.server) e.target h.served.1 refl) h.server_moment)

-- a notification is no copy of an ask
no_copy_at : (asks : List Outstanding) (d : Datagram) (o : Option ℕ) (q e : ℕ) → IsSentFor asks d (purpose_at o q e)
no_copy_at asks d None q e = tt
no_copy_at asks d (Some k) q e = tt

no_copy : (asks : List Outstanding) (d : Datagram) (n : Notice) (emitted : List Emission) → IsSentFor asks d (purpose_of n asks emitted)
no_copy asks d n emitted = at (is_same_endpoint n.to client_place)
  where
    at : (b : Bool) → IsSentFor asks d (cond b (purpose_at (registration_from 0 (token_of n) asks) n.sequence (last_place n.target (targets_of emitted))) other)
    at true = no_copy_at asks d (registration_from 0 (token_of n) asks) n.sequence (last_place n.target (targets_of emitted))
    at false = tt

holds_noticed : (capacity : ℕ) (w : WorldState) (o : Option Notice) → Holds capacity w → Holds capacity (with_notification o w)
holds_noticed capacity w None h = h
holds_noticed capacity w (Some n) h =
    let d : Datagram = notification_sent w.moment w.asks w.emitted n in
    record {
      did = h.did;
      client_moment = h.client_moment;
      history = h.history;
      served = h.served;
      server_moment = h.server_moment;
      messages = h.messages;
      past = All-push (λ (x : Datagram). x.moment ≤ w.moment) w.sent d h.past (omega arith);
      purposes = All-push (λ (x : Datagram). IsSentFor w.asks x x.purpose) w.sent d h.purposes (no_copy w.asks d n w.emitted);
      acted = h.acted;
      once = h.once;
    }

keeps_notify : (capacity : ℕ) (w v : WorldState) → ServerNotifies w v → Holds capacity w → Holds capacity v
keeps_notify capacity w v x h =
    let did = server_sent h.history w.server x.after w.moment x.notice h.served.1 x.sends in
    let same : x.after.exchanges ≡ w.server.exchanges = ap (λ (s : Server). s.exchanges) x.sends.after ∙ sent_stays x.notice (with_observers x.sends.observers w.server) in
    let at = ap (λ (t : Table). t.moment) same in
    subst (Holds capacity) (sym x.next)
    (holds_noticed capacity (record w { server = x.after }) x.notice
    (holds_server capacity w x.after w.emitted h (h.served.0, did) (let early = h.server_moment in omega arith)))

pub holds_after : (capacity : ℕ) (m : WorldMove) (w v : WorldState) → Plays m w v → Holds capacity w → Holds capacity v
holds_after capacity (ask a) w v plays h = keeps_ask capacity a w v plays h
holds_after capacity due w v plays h = keeps_due_move capacity w v plays h
holds_after capacity (deliver i) w v plays h = keeps_deliver capacity w v i (slice_get w.sent i) refl plays h
holds_after capacity (pass n) w v plays h = subst (Holds capacity) (sym plays) (holds_later capacity w n h)
holds_after capacity (elsewhere from bytes) w v plays h = keeps_elsewhere capacity from bytes w v plays h
holds_after capacity (emit e) w v plays h = keeps_emit capacity e w v plays h
holds_after capacity notify w v plays h = keeps_notify capacity w v plays h

pub holds_at_start : (first_id capacity observers : ℕ) (w : WorldState) → IsStart first_id capacity observers w → Holds capacity w
holds_at_start first_id capacity observers w s = record {
  did = subst (λ (l : List Outstanding). ClientDid l w.client) (sym s.asks) (client_did_nothing first_id w.client s.client);
  client_moment = let at = s.client.moment in omega arith;
  history = [];
  served = subst (ServerDid capacity []) (sym s.server) (observers, server_linked [] (nothing_came capacity observers) (with_links s.links (nothing_came capacity observers)) s.links server_did_nothing refl);
  server_moment = let at = ap (λ (x : Server). x.exchanges.moment) s.server in omega arith;
  messages = subst (All HasMessage) (sym s.asks) (All-nil HasMessage);
  past = subst (All (λ d. d.moment ≤ w.moment)) (sym s.sent) (All-nil (λ (d : Datagram). d.moment ≤ w.moment));
  purposes = subst (All (λ d. IsSentFor w.asks d d.purpose)) (sym s.sent) (All-nil (λ (d : Datagram). IsSentFor w.asks d d.purpose));
  acted = subst (All (IsActed capacity [] w.asks)) (sym s.acts) (All-nil (IsActed capacity [] w.asks));
  once = subst (AllPairs (λ (x y : Act). x.ask ≢ y.ask)) (sym s.acts) (λ i j d before within. absurd (omega arith));
}

pub holds_after_all : (capacity : ℕ) (moves : List WorldMove) (w v : WorldState) → PlaysAll moves w v → Holds capacity w → Holds capacity v
holds_after_all capacity [] w v plays h = subst (Holds capacity) (sym plays) h
holds_after_all capacity (m ∷ moves) w v plays h = holds_after_all capacity moves plays.0 v plays.2 (holds_after capacity m w plays.0 plays.1 h)

pub acted_once : ActedOnce
acted_once first_id exchanges observers moves w v start plays =
    (holds_after_all exchanges moves w v plays (holds_at_start first_id exchanges observers w start)).once
