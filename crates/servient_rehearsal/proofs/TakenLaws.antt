-- The values that the client takes are those of the world: the ask that registered last is the one for which they were
-- sent.
use Rattle.std.proofs.Common.{◌≡◌, ◌∙◌, ℕ, ◌+◌, ◌<◌, ◌≤◌, Bool, true, false, cond, List, [], ◌∷◌, ◌++◌, map, length, refl, sym, ap, subst, arith}
use Rattle.std.specs.Prelude.{Option, Some, None, slice_get}
use Rattle.std.proofs.lemmas.Option.{same_Some}
use Rattle.std.proofs.lemmas.List.{append-nil, map-append, length_push}
use Rattle.servient_base.specs.Moves.{Each}
use Rattle.coap_msg.specs.declared.endpoint.Endpoint.{Endpoint}
use Rattle.coap_msg.specs.Grammar.{CoapMessage, Spells}
use Rattle.coap_msg.proofs.Messages.{at_most_one_message}
use Rattle.coap_client.specs.declared.outstanding.Outstanding.{Outstanding}
use Rattle.coap_client.specs.declared.observation.Observation.{Observation}
use Rattle.coap_client.specs.declared.state.State.{State as ClientState}
use Rattle.coap_client.specs.declared.meaning.Meaning.{Meaning}
use Rattle.coap_client.specs.declared.meaning.Meaning.TheVariants as meant
use Rattle.coap_client.specs.declared.news.News.{News}
use Rattle.coap_client.specs.declared.news.News.TheVariants as news
use Rattle.coap_client.specs.declared.news.Delivered.{Delivered}
use Rattle.coap_client.specs.Asking.{Asking}
use Rattle.coap_client.specs.Answers.{meaning, sequence_of}
use Rattle.coap_client.specs.Exchange.{at_moment, request_for, Delivers, of_message, of_fault, IsNews}
use Rattle.coap_client.specs.Laws.{Did, nothing, asked, refused, took, retransmitted}
use Rattle.coap_client.proofs.StepLaws.{keeps_due}
use Rattle.coap_client.proofs.HistoryLaws.{keeps_delivered}
use Rattle.coap_client.proofs.TokenLaws.{registrations_differ}
use Rattle.coap_bind.specs.Writing.{notification}
use Rattle.servient_outside.specs.declared.net.What.{What}
use Rattle.servient_outside.specs.declared.net.What.TheVariants as what
use Rattle.servient_core.specs.declared.capacity.TheConstants.{MOST_WATCHERS}
use Rattle.servient_trace.specs.Trace.{Sighting}
use Rattle.servient_core.specs.Machine.{Site}
use Rattle.servient_world.specs.World.{WorldState, Datagram, Purpose, Value, client_place, server_place, reply_to, notification_for, value_by, taken_by, ClientAsks, sends_ask, refuses_ask, skips_ask, ClientDoesDue, retransmits, gives_up, waits}
use Rattle.servient_world.proofs.Places.{all_at, at_last, at_more}
use Rattle.servient_world.proofs.WatchLaws.{same_registration}
use Rattle.servient_world.proofs.Exact.{IsSaid}
use Rattle.servient_world.proofs.ValueLaws.{value_says, notified_says, observed_some}
use Rattle.servient_world.proofs.TakenLaws.{IsFor, back_on, notification_of, is_for_end}
use Rattle.servient_world.proofs.EndLaws.{Stands, stands_after_all, stands_at_start}
use Rattle.servient_ends.specs.Ends.{EndsState, IsBeginning, Turn, asks_next, does_due, delivers, passes, happens, Arrives, too_late, to_client, to_servient, ArrivesIfSent, FromElsewhere, comes_from_elsewhere, is_of_an_end, Besides, Takes, TakesAll}
use Rattle.servient_ends.proofs.TurnLaws.{turns_play}
use Rattle.servient_rehearsal.specs.declared.world.TakenValue.{TakenValue}
use Rattle.servient_rehearsal.specs.Noted.{number_after, shown_values, last_registration}
use Rattle.servient_rehearsal.specs.Turns.{Played, TakesTurn, values_in, values_on_arrival, values_if_sent, values_by}
use Rattle.servient_rehearsal.proofs.NotedLaws.{last_after}

-- ---- the observation is the one that the last registration began

record IsOfLast (asks : List Outstanding) (token : List ℕ) : Type 0 where
  request : Outstanding
  at : slice_get asks (last_registration asks) ≡ Some request
  registers_it : request.registers ≡ true
  token_is : request.token ≡ token

asked_last : (asks : List Outstanding) (r : Outstanding) (x : Option Observation) (b : Bool) → r.registers ≡ b → (o : Observation) → cond b (Some (record { peer = r.peer; token = r.token; latest = None })) x ≡ Some o
    → ((y : Observation) → x ≡ Some y → IsOfLast asks y.token) → IsOfLast (asks ++ r ∷ []) o.token
asked_last asks r x true reg o is before = record {
  request = r;
  at = subst (λ (n : ℕ). slice_get (asks ++ r ∷ []) n ≡ Some r) (sym (last_after asks r ∙ ap (λ (c : Bool). number_after c (length asks) (last_registration asks)) reg)) (at_last asks r);
  registers_it = reg;
  token_is = ap (λ (y : Observation). y.token) (same_Some (record { peer = r.peer; token = r.token; latest = None }) o is);
}
asked_last asks r x false reg o is before =
    let was = before o is in
    record {
      request = was.request;
      at = subst (λ (n : ℕ). slice_get (asks ++ r ∷ []) n ≡ Some was.request) (sym (last_after asks r ∙ ap (λ (c : Bool). number_after c (length asks) (last_registration asks)) reg))
          (at_more asks (r ∷ []) (last_registration asks) was.request was.at);
      registers_it = was.registers_it;
      token_is = was.token_is;
    }

last_observed : (asks : List Outstanding) (s : ClientState) → Did asks s → (o : Observation) → s.observation ≡ Some o → IsOfLast asks o.token
last_observed asks s (nothing first_id r new) o is = absurd (let none = new.observation in cc)
last_observed asks s (asked before r t now peer a n old new did later ask) o is =
    let q : Outstanding = request_for (at_moment now r) peer a ask.id in
    asked_last before q r.observation q.registers refl o (sym (ap (λ (x : ClientState). x.observation) ask.after) ∙ is) (λ y e. last_observed before r did y e)
last_observed asks s (refused before r now did later) o is = last_observed before r did o is
last_observed asks s (took before r t now from bytes told old new did later delivered) o is =
    let p = (keeps_delivered (at_moment now r) t from bytes told old new delivered).observed o is in
    subst (IsOfLast before) p.3 (last_observed before r did p.0 p.1)
last_observed asks s (retransmitted before r t now d old new did later comes) o is =
    let p = (keeps_due (at_moment now r) t d old new comes).observed o is in
    subst (IsOfLast before) p.3 (last_observed before r did p.0 p.1)

-- ---- a value is taken

by_news : (mm : Meaning) (m : CoapMessage) (n : News) (p : Purpose) (k : ℕ) → IsNews mm m n
    → ((q : ℕ) → mm ≡ meant.Value q → (payload : List ℕ) → shown_values (value_by p payload) ≡ record { ask = k; value = payload } ∷ [])
    → values_in k n ≡ shown_values (taken_by p n)
by_news mm m (news.Value payload) p k is each = sym (each is.0 is.1 payload.now)
by_news mm m (news.Answered code block payload) p k is each = refl
by_news mm m news.Old p k is each = refl
by_news mm m news.Reset p k is each = refl
by_news mm m news.Nothing p k is each = refl

shown_for : (d : Datagram) (p : Purpose) (k last : ℕ) (payload : List ℕ) → d.purpose ≡ p → shown_values (value_by p payload) ≡ record { ask = k; value = payload } ∷ [] → k ≡ last
    → shown_values (value_by d.purpose payload) ≡ record { ask = last; value = payload } ∷ []
shown_for d p k last payload is shown same =
    ap (λ (x : Purpose). shown_values (value_by x payload)) is ∙ (shown ∙ ap (λ (n : ℕ). record { ask = n; value = payload } ∷ []) same)

value_for : (exchanges : ℕ) (w : WorldState) (i : ℕ) (d : Datagram) (m : CoapMessage) (s : Stands exchanges MOST_WATCHERS w) → length w.asks ≤ 65536 → IsFor w s.exact.led i d d.purpose → Spells m d.bytes
    → (q : ℕ) → meaning (at_moment w.moment w.client) d.from m ≡ meant.Value q → (payload : List ℕ) → shown_values (value_by d.purpose payload) ≡ record { ask = last_registration w.asks; value = payload } ∷ []
value_for exchanges w i d m s few (back_on k is sent) spells q e payload =
    let right = sent.reply in
    let one : m ≡ right.answer = at_most_one_message m right.answer d.bytes spells right.spells in
    let says = value_says (at_moment w.moment w.client) d.from m q e in
    let shown = notified_says (at_moment w.moment w.client) d.from m q says.0 in
    let seen = observed_some w.client.observation d.from m.token shown.0 in
    let number = right.shows q (sym (ap (λ (y : CoapMessage). sequence_of y.options) one) ∙ shown.1) in
    let token : right.request.token ≡ seen.0.token = sym right.token ∙ (sym (ap (λ (y : CoapMessage). y.token) one) ∙ seen.2) in
    let last = last_observed w.asks w.client s.holds.did seen.0 seen.1 in
    let same : k ≡ last_registration w.asks
    = same_registration w.asks k (last_registration w.asks) right.request last.request (registrations_differ w.asks w.client s.holds.did few) right.ask last.at number.1 last.registers_it (token ∙ sym last.token_is) in
    shown_for d (reply_to k) k (last_registration w.asks) payload is refl same
value_for exchanges w i d m s few (notification_of k q0 emission is n_of) spells q e payload =
    let one : m ≡ notification n_of.notice n_of.value = at_most_one_message m (notification n_of.notice n_of.value) d.bytes spells n_of.spells in
    let says = value_says (at_moment w.moment w.client) d.from m q e in
    let shown = notified_says (at_moment w.moment w.client) d.from m q says.0 in
    let seen = observed_some w.client.observation d.from m.token shown.0 in
    let token : n_of.request.token ≡ seen.0.token = sym (ap (λ (y : CoapMessage). y.token) one ∙ n_of.token) ∙ seen.2 in
    let last = last_observed w.asks w.client s.holds.did seen.0 seen.1 in
    let same : k ≡ last_registration w.asks
    = same_registration w.asks k (last_registration w.asks) n_of.request last.request (registrations_differ w.asks w.client s.holds.did few) n_of.ask last.at n_of.registers last.registers_it (token ∙ sym last.token_is) in
    shown_for d (notification_for k q0 emission) k (last_registration w.asks) payload is refl same

value_delivered : (exchanges : ℕ) (w : WorldState) (i : ℕ) (d : Datagram) (told : Delivered) (old new : List ℕ) (t : ClientState) → Stands exchanges MOST_WATCHERS w → length w.asks ≤ 65536 → slice_get w.sent i ≡ Some d
    → d.to ≡ client_place → Delivers (at_moment w.moment w.client) d.from d.bytes told old new t → values_in (last_registration w.asks) told.news ≡ shown_values (taken_by d.purpose told.news)
value_delivered exchanges w i d told old new t s few at to (of_message m spells reply is after_is) =
    let said = all_at (λ (z : Datagram). IsSaid w.asks w.acts s.exact.led z z.purpose) w.sent i d s.exact.said at in
    by_news (meaning (at_moment w.moment w.client) d.from m) m told.news d.purpose (last_registration w.asks) is
    (value_for exchanges w i d m s few (is_for_end w s.exact.led i d d.purpose said to) spells)
value_delivered exchanges w i d told old new t s few at to (of_fault f has reply none same) =
    ap (values_in (last_registration w.asks)) none ∙ sym (ap (λ (n : News). shown_values (taken_by d.purpose n)) none)

-- ---- turns

-- the values that a turn adds
abbrev AddsValues : (p q : EndsState) (values : List TakenValue) → Type 0
AddsValues p q values = shown_values q.world.taken ≡ shown_values p.world.taken ++ values

adds_none : (p q : EndsState) → q.world.taken ≡ p.world.taken → AddsValues p q []
adds_none p q same = ap shown_values same ∙ sym (append-nil (shown_values p.world.taken))

-- there are no fewer asks, and the values go on
record GoesOnSo (p q : EndsState) (values : List TakenValue) : Type 0 where
  asks : length p.world.asks ≤ length q.world.asks
  adds : length p.world.asks ≤ 65536 → AddsValues p q values

stays_so : (p q : EndsState) → q.world.asks ≡ p.world.asks → q.world.taken ≡ p.world.taken → GoesOnSo p q []
stays_so p q asks taken = record { asks = (let e : length q.world.asks ≡ length p.world.asks = ap length asks in omega arith); adds = λ few. adds_none p q taken }

world_so : (p q : EndsState) (w : WorldState) → q.world ≡ w → w.asks ≡ p.world.asks → w.taken ≡ p.world.taken → GoesOnSo p q []
world_so p q w is asks taken = stays_so p q (ap (λ (x : WorldState). x.asks) is ∙ asks) (ap (λ (x : WorldState). x.taken) is ∙ taken)

asks_so : (a : Asking) (p q : EndsState) → ClientAsks a p.world q.world → GoesOnSo p q []
asks_so a p q (sends_ask n old new t may asks is) =
    let o : Outstanding = request_for (at_moment p.world.moment p.world.client) server_place a asks.id in
    let count : length q.world.asks ≡ length (p.world.asks ++ o ∷ []) = ap (λ (x : WorldState). length x.asks) is in
    let more = length_push p.world.asks o in
    record {
      asks = omega arith;
      adds = λ few. adds_none p q (ap (λ (x : WorldState). x.taken) is);
    }
asks_so a p q (refuses_ask f no_ask is) = world_so p q _ is refl refl
asks_so a p q (skips_ask may_not is) = world_so p q p.world is refl refl

due_so : (p q : EndsState) → ClientDoesDue p.world q.world → GoesOnSo p q []
due_so p q (retransmits n old new t comes is) = world_so p q _ is refl refl
due_so p q (gives_up old new t comes is) = world_so p q _ is refl refl
due_so p q (waits old new t comes is) = world_so p q _ is refl refl

arrives_so : (site : Site) (exchanges : ℕ) (p q : EndsState) (i : ℕ) (o : Option Datagram) → slice_get p.world.sent i ≡ o → (length p.world.asks ≤ 65536 → Stands exchanges MOST_WATCHERS p.world)
    → (a : ArrivesIfSent site o p q) → GoesOnSo p q (values_if_sent site o p q a)
arrives_so site exchanges p q i None at stands a = world_so p q p.world a.does refl refl
arrives_so site exchanges p q i (Some d) at stands (too_late late a) = world_so p q p.world a.does refl refl
arrives_so site exchanges p q i (Some d) at stands (to_client may to a) = record {
  asks = (let e : length q.world.asks ≡ length p.world.asks = ap (λ (x : WorldState). length x.asks) a.does.next in omega arith);
  adds = λ few.
      ap (λ (x : WorldState). shown_values x.taken) a.does.next
      ∙ (map-append (λ (v : Value). record { ask = v.ask; value = v.payload }) p.world.taken (taken_by d.purpose a.does.told.news)
      ∙ ap (λ (l : List TakenValue). shown_values p.world.taken ++ l)
      (sym (value_delivered exchanges p.world i d a.does.told a.does.old a.does.new a.does.after (stands few) few at to a.does.delivers)));
}
arrives_so site exchanges p q i (Some d) at stands (to_servient may to h) = world_so p q _ h.next refl refl

elsewhere_so : (site : Site) (from : Endpoint) (size : ℕ) (bytes : List ℕ) (p q : EndsState) → FromElsewhere site from size bytes p q → GoesOnSo p q []
elsewhere_so site from size bytes p q (comes_from_elsewhere apart h) = world_so p q _ h.next refl refl
elsewhere_so site from size bytes p q (is_of_an_end is a) = world_so p q p.world a.does refl refl

besides_so : (site : Site) (x : What) (bytes : List ℕ) (p q : EndsState) → Besides site x bytes p q → GoesOnSo p q []
besides_so site (what.Datagram from size) bytes p q b = elsewhere_so site from size bytes p q b
besides_so site (what.Opened c) bytes p q b = world_so p q _ b.next refl refl
besides_so site (what.Bytes c size) bytes p q b = world_so p q _ b.next refl refl
besides_so site (what.Ended c) bytes p q b = world_so p q _ b.next refl refl
besides_so site what.Tick bytes p q b = world_so p q _ b.next refl refl
besides_so site what.Stop bytes p q b = world_so p q _ b.next refl refl

turn_so : (site : Site) (exchanges : ℕ) (m : Turn) (p q : EndsState) → (length p.world.asks ≤ 65536 → Stands exchanges MOST_WATCHERS p.world) → (t : Takes site m p q) → GoesOnSo p q (values_by site m p q t)
turn_so site exchanges (asks_next a) p q stands t = asks_so a p q t.does
turn_so site exchanges does_due p q stands t = due_so p q t.does
turn_so site exchanges (delivers i) p q stands t = arrives_so site exchanges p q i (slice_get p.world.sent i) refl stands t
turn_so site exchanges (passes n) p q stands t = world_so p q _ t.does refl refl
turn_so site exchanges (happens x bytes) p q stands t = besides_so site x bytes p q t

-- ---- all turns

takes_more : (site : Site) (before : List Turn) (m : Turn) (p q r : EndsState) → TakesAll site before p q → Takes site m q r → TakesAll site (before ++ m ∷ []) p r
takes_more site [] m p q r same one = (r, subst (λ (x : EndsState). Takes site m x r) same one, refl)
takes_more site (x ∷ before) m p q r all one = (all.0, all.1, takes_more site before m all.0 q r all.2 one)

-- the values that were taken so far are those of the world
record TakenSo (p q : Played) : Type 0 where
  asks : length p.ends.world.asks ≤ length q.ends.world.asks
  values : length q.ends.world.asks ≤ 65536 → p.values ≡ shown_values p.ends.world.taken → q.values ≡ shown_values q.ends.world.taken

taken_along : (site : Site) (first_id exchanges : ℕ) (start : EndsState) → IsBeginning site first_id exchanges start → (before turns : List Turn) (p : Played) (seen : List Sighting) (q : Played) → TakesAll site before start p.ends
    → Each (TakesTurn site) turns p seen q → TakenSo p q
taken_along site first_id exchanges start begin before [] p seen q so_far each = record {
  asks = (let e : length q.ends.world.asks ≡ length p.ends.world.asks = ap (λ (x : Played). length x.ends.world.asks) each.next in omega arith);
  values = λ few is. ap (λ (x : Played). x.values) each.next ∙ (is ∙ sym (ap (λ (x : Played). shown_values x.ends.world.taken) each.next));
}
taken_along site first_id exchanges start begin before (m ∷ turns) p seen q so_far each =
    let mid : Played = each.mid in
    let one = each.one in
    let moves = turns_play site first_id exchanges before start p.ends begin so_far in
    let stands : length p.ends.world.asks ≤ 65536 → Stands exchanges MOST_WATCHERS p.ends.world
    = λ few. stands_after_all exchanges MOST_WATCHERS moves.0 start.world p.ends.world moves.1 few (stands_at_start first_id exchanges MOST_WATCHERS start.world begin.world) in
    let so = turn_so site exchanges m p.ends each.mid.ends stands one.takes in
    let rest = taken_along site first_id exchanges start begin (before ++ m ∷ []) turns each.mid each.second q (takes_more site before m start p.ends each.mid.ends so_far one.takes) each.other in
    let asks_now = so.asks in
    let asks_later = rest.asks in
    record {
      asks = omega arith;
      values = λ few is. rest.values few (one.values ∙ (ap (λ (l : List TakenValue). l ++ values_by site m p.ends each.mid.ends one.takes) is ∙ sym (so.adds (omega arith))));
    }

pub taken_as_sent : (site : Site) (first_id exchanges : ℕ) (turns : List Turn) (p : Played) (seen : List Sighting) (q : Played) → IsBeginning site first_id exchanges p.ends → p.values ≡ [] → Each (TakesTurn site) turns p seen q
    → length q.ends.world.asks ≤ 65536 → q.values ≡ shown_values q.ends.world.taken
taken_as_sent site first_id exchanges turns p seen q begin none each few =
    (taken_along site first_id exchanges p.ends begin [] turns p seen q refl each).values few (none ∙ sym (ap shown_values begin.world.taken))
