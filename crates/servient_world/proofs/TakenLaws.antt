-- Each move keeps that values never go back.
use Rattle.std.proofs.Common.{◌≡◌, ◌≢◌, ℕ, ◌+◌, ◌-◌, ◌<◌, ◌≤◌, ◌^◌, ◌∙◌, Bool, true, false, cond, Option, Some, None, List, [], ◌∷◌, ◌++◌, take, length, get_or, inl, inr, refl, sym, ap, subst, arith}
use Rattle.std.specs.Prelude.{All, AllPairs, slice_get, option_map}
use Rattle.std.specs.Option.{option_to_list}
use Rattle.std.specs.Str.{bytes_eq}
use Rattle.std.proofs.lemmas.Bool.{cases_Bool}
use Rattle.std.proofs.lemmas.List.{append-nil, length_push}
use Rattle.std.proofs.lemmas.List.Elements.{All-nil, All-push, All-weaker, All-contains}
use Rattle.std.proofs.lemmas.List.Quantifiers.{all_pairs_push}
use Rattle.std.proofs.lemmas.Option.{slice_get_within, get_or_from_slice_get, same_Some}
use Rattle.coap_msg.specs.declared.endpoint.Endpoint.{Endpoint}
use Rattle.coap_msg.specs.declared.message.Type4.{Type4}
use Rattle.coap_msg.specs.declared.message.Type4.TheVariants.{Ack}
use Rattle.coap_msg.specs.Endpoints.{is_same_endpoint}
use Rattle.coap_msg.specs.Grammar.{CoapMessage, Spells}
use Rattle.coap_msg.proofs.Messages.{at_most_one_message}
use Rattle.coap_msg.proofs.FaultLaws.{no_fault_of_message}
use Rattle.coap_msg.proofs.SameEndpoints.{both, same_endpoint, itself}
use Rattle.coap_client.specs.declared.outstanding.Outstanding.{Outstanding}
use Rattle.coap_client.specs.declared.observation.Observation.{Observation}
use Rattle.coap_client.specs.declared.state.State.{State}
use Rattle.coap_client.specs.declared.meaning.Meaning.{Meaning}
use Rattle.coap_client.specs.declared.meaning.Meaning.TheVariants as meant
use Rattle.coap_client.specs.declared.news.News.{News}
use Rattle.coap_client.specs.declared.news.News.TheVariants as news
use Rattle.coap_client.specs.declared.news.Delivered.{Delivered}
use Rattle.coap_client.specs.declared.due.Due.TheVariants as what
use Rattle.coap_client.specs.Asking.{Asking}
use Rattle.coap_client.specs.Laws.{asked as client_asked}
use Rattle.coap_client.specs.Answers.{takes as is_taken, may_carry, is_request_id, is_for_observation, meaning, notified, sequence_of, is_newer, latest_of}
use Rattle.coap_client.specs.Exchange.{at_moment, request_for, Delivers, of_message, of_fault, IsNews, after, valued, registers, with_latest}
use Rattle.coap_client.proofs.RequestLaws.{last_is_outstanding, ids_differ}
use Rattle.coap_client.proofs.TokenLaws.{no_value_yet, kept_seen, same_seen_due}
use Rattle.coap_observe.specs.declared.notice.Notice.{Notice}
use Rattle.coap_observe.specs.Laws.{is_for}
use Rattle.coap_observe.specs.Accounts.{SentNotification, Account, GoesBefore, IsToRegistered, IsInOrder, last_place, token_of, one_if, registrations_of, fresh_count}
use Rattle.coap_observe.proofs.AccountLaws.{notifications_go_to_the_registered, notifications_are_in_order}
use Rattle.coap_bind.specs.declared.server.Server.{Server}
use Rattle.coap_bind.specs.Server.{SendsNext}
use Rattle.coap_bind.specs.Writing.{notification}
use Rattle.servient_world.specs.declared.network.TheConstants.{MAX_LATENCY}
use Rattle.servient_world.specs.World.{client_place, server_place, Purpose, copy_of, reply_to, notification_for, other, Datagram, WorldState, Value, AskEnd, IsStart, WorldMove, ask, due, deliver, pass, elsewhere, emit, notify, latest, value_by, taken_by, end_by, acts_for, purpose_back, id_used, targets_of, notification_sent, with_notification, ClientAsks, sends_ask, refuses_ask, skips_ask, ClientDoesDue, retransmits, gives_up, waits, Comes, too_late, to_client, to_server, ComesIfSent, ComesElsewhere, comes_elsewhere, skips_end, with_new_value, Plays, PlaysAll}
use Rattle.servient_world.specs.Laws.{ValuesNeverGoBack}
use Rattle.servient_world.proofs.Places.{all_at, at_same, at_end}
use Rattle.servient_world.proofs.Tokens.{own_token}
use Rattle.servient_world.proofs.Holds.{Holds, came_soon, both_true}
use Rattle.servient_world.proofs.WatchLaws.{IsKnown, IsNoted, Watched}
use Rattle.servient_world.proofs.Ledger.{Entry}
use Rattle.servient_world.proofs.Exact.{Exact, IsSentBack, IsNotification, IsSaid, same_ask}
use Rattle.servient_world.proofs.MeaningLaws.{value_taken, taken_id, notification_number}
use Rattle.servient_world.proofs.NotificationLaws.{purpose_is, not_client_purpose}
use Rattle.servient_world.proofs.EndLaws.{grows_by, all_grow, Stands, stands_after, stands_at_start}
use Rattle.servient_world.proofs.ValueLaws.{Valued, MayFollow, MayComeAfter, HasNumber, IsAfter, is_read, is_notification, Tops, IsNoLater, valued_sent, valued_client, valued_asked, valued_value, IsTaken, value_says, notified_says, observed_some, notification_last, tops_more}

-- ---- a message that is no value leaves the observation, or ends it

seen_back : (s : State) (from : Endpoint) (token : List ℕ) (m : Meaning) (o : Observation) → ((q : ℕ) → m ≡ meant.Value q → ⊥) → (after s from token m).observation ≡ Some o → s.observation ≡ Some o
seen_back s from token (meant.Value q) o no_value e = absurd (no_value q refl)
seen_back s from token meant.Old o no_value e = e
seen_back s from token meant.Response o no_value e = kept_seen s.observation (is_for_observation s.observation from token) o e
seen_back s from token meant.Reset o no_value e = kept_seen s.observation (registers s.outstanding) o e
seen_back s from token meant.Received o no_value e = e
seen_back s from token meant.Foreign o no_value e = e

with_latest_is : (x : Option Observation) (q now : ℕ) (o : Observation) → x ≡ Some o → with_latest q now x ≡ Some (record o { latest = Some (record { sequence = q; moment = now }) })
with_latest_is x q now o e = ap (with_latest q now) e

open_request : (x : Option Outstanding) (id : ℕ) → is_request_id x id ≡ true → (o : Outstanding) × (x ≡ Some o)
open_request None id e = absurd (cc)
open_request (Some o) id e = (o, refl)

carries : (s : State) (from : Endpoint) (m : CoapMessage) → is_taken s from m ≡ true → may_carry s.outstanding m.kind m.id ≡ true
carries s from m taken =
    let first = both _ _ taken in
    (both _ _ first.0).1

-- ---- a reply brings a value

taken_reply : (capacity : ℕ) (w : WorldState) (d : Datagram) (k q : ℕ) (m : CoapMessage) (t : State) → Holds capacity w → length w.asks ≤ 65536 → Valued w → (led : List Entry) (sent : IsSentBack w.asks led k d)
    → Spells m d.bytes → meaning (at_moment w.moment w.client) d.from m ≡ meant.Value q → t ≡ after (at_moment w.moment w.client) d.from m.token (meaning (at_moment w.moment w.client) d.from m)
    → IsTaken w t q k 0
taken_reply capacity w d k q m t h few v led sent spells e after_is =
    let right = sent.reply in
    let s : State = at_moment w.moment w.client in
    let one : m ≡ right.answer = at_most_one_message m right.answer d.bytes spells right.spells in
    let says = value_says (at_moment w.moment w.client) d.from m q e in
    let shown = notified_says (at_moment w.moment w.client) d.from m q says.0 in
    let seen = observed_some w.client.observation d.from m.token shown.0 in
    let number = right.shows q (sym (ap (λ (y : CoapMessage). sequence_of y.options) one) ∙ shown.1) in
    let taken = value_taken (at_moment w.moment w.client) d.from m q e in
    let kind : m.kind ≡ Ack = ap (λ (y : CoapMessage). y.kind) one ∙ right.kind in
    let carried : may_carry w.client.outstanding m.kind m.id ≡ true = carries (at_moment w.moment w.client) d.from m taken in
    let by_ack : is_request_id w.client.outstanding m.id ≡ true = subst (λ (y : Type4). may_carry w.client.outstanding y m.id ≡ true) kind carried in
    let it = open_request w.client.outstanding m.id by_ack in
    let id : m.id ≡ it.0.id = taken_id (at_moment w.moment w.client) d.from m it.0 taken kind it.1 in
    let last = last_is_outstanding w.asks w.client it.0 h.did it.1 in
    let at_last_one = at_end w.asks last.0 last.1 last.2 in
    let ids : right.request.id ≡ last.1.id = sym right.id ∙ (sym (ap (λ (y : CoapMessage). y.id) one) ∙ (id ∙ sym last.3.id)) in
    let which : k ≡ latest w = same_ask w.asks k (latest w) right.request last.1 (ids_differ w.asks w.client h.did few) right.ask at_last_one ids in
    let same : right.request ≡ last.1 = at_same w.asks (latest w) right.request last.1 (subst (λ (n : ℕ). slice_get w.asks n ≡ Some right.request) which right.ask) at_last_one in
    let reg : it.0.registers ≡ true = sym last.3.registers ∙ (sym (ap (λ (y : Outstanding). y.registers) same) ∙ number.1) in
    let none : seen.0.latest ≡ None = no_value_yet w.asks w.client it.0 seen.0 h.did it.1 reg seen.1 in
    let token : right.request.token ≡ seen.0.token = sym right.token ∙ (sym (ap (λ (y : CoapMessage). y.token) one) ∙ seen.2) in
    let tops : Tops w.sent w.taken k None = subst (Tops w.sent w.taken k) none (v.tops seen.0 seen.1 k right.request right.ask number.1 token) in
    let next : t ≡ valued (at_moment w.moment w.client) q = after_is ∙ ap (after (at_moment w.moment w.client) d.from m.token) e in
    record {
      observation = seen.0;
      was = seen.1;
      now = ap (λ (y : State). y.observation) next ∙ with_latest_is w.client.observation q w.moment seen.0 seen.1;
      request = right.request;
      ask = right.ask;
      registers_it = number.1;
      token = token;
      no_later = All-weaker (λ (y : Value). y.ask ≢ k) (λ (y : Value). y.ask ≡ k → y.place ≤ 0) (λ y no_one e. absurd (no_one e)) w.taken tops;
      newest = is_read number.0 refl;
    }

-- ---- a notification brings a value

taken_notification : (capacity : ℕ) (w : WorldState) (i : ℕ) (d : Datagram) (k q0 emission q : ℕ) (m : CoapMessage) (t : State) → Holds capacity w → length w.asks ≤ 65536 → Valued w → IsNotification w.asks w.acts k q0 d
    → slice_get w.sent i ≡ Some d → d.purpose ≡ notification_for k q0 emission → w.moment - d.moment ≤ MAX_LATENCY
    → Spells m d.bytes → meaning (at_moment w.moment w.client) d.from m ≡ meant.Value q → t ≡ after (at_moment w.moment w.client) d.from m.token (meaning (at_moment w.moment w.client) d.from m)
    → IsTaken w t q k emission
taken_notification capacity w i d k q0 emission q m t h few v n_of at purpose soon spells e after_is =
    let one : m ≡ notification n_of.notice n_of.value = at_most_one_message m (notification n_of.notice n_of.value) d.bytes spells n_of.spells in
    let token_is : m.token ≡ n_of.request.token = ap (λ (y : CoapMessage). y.token) one ∙ n_of.token in
    let says = value_says (at_moment w.moment w.client) d.from m q e in
    let shown = notified_says (at_moment w.moment w.client) d.from m q says.0 in
    let seen = observed_some w.client.observation d.from m.token shown.0 in
    let number : notified (at_moment w.moment w.client) d.from m ≡ Some q0 =
    ap (notified (at_moment w.moment w.client) d.from) one
    ∙ (notification_number (at_moment w.moment w.client) d.from n_of.notice n_of.value true
    (ap (λ (y : CoapMessage). is_for_observation w.client.observation d.from y.token) (sym one) ∙ shown.0) n_of.low
    ∙ ap (λ (y : ℕ). Some y) n_of.number) in
    let same : q0 ≡ q = same_Some q0 q (sym number ∙ says.0) in
    let purpose_is : d.purpose ≡ notification_for k q emission = subst (λ (n : ℕ). d.purpose ≡ notification_for k n emission) same purpose in
    let token : n_of.request.token ≡ seen.0.token = sym token_is ∙ seen.2 in
    let tops = v.tops seen.0 seen.1 k n_of.request n_of.ask n_of.registers token in
    let newer : is_newer seen.0.latest w.moment q ≡ true = subst (λ (y : Option Observation). is_newer (latest_of y) w.moment q ≡ true) seen.1 says.1 in
    let next : t ≡ valued (at_moment w.moment w.client) q = after_is ∙ ap (after (at_moment w.moment w.client) d.from m.token) e in
    record {
      observation = seen.0;
      was = seen.1;
      now = ap (λ (y : State). y.observation) next ∙ with_latest_is w.client.observation q w.moment seen.0 seen.1;
      request = n_of.request;
      ask = n_of.ask;
      registers_it = n_of.registers;
      token = token;
      no_later = notification_last w i d k q emission seen.0.latest v at purpose_is soon newer tops;
      newest = is_notification d (i, slice_get_within w.sent i d at, get_or_from_slice_get w.sent i d d at) purpose_is (all_at (λ (y : Datagram). y.moment ≤ w.moment) w.sent i d h.past at);
    }

-- ---- something comes to the client

nothing_taken : (w : WorldState) (t : State) (ends : List AskEnd) → ((o : Observation) → t.observation ≡ Some o → w.client.observation ≡ Some o) → Valued w
    → Valued (record w { client = t; ends = ends; taken = w.taken ++ [] })
nothing_taken w t ends back v = valued_client w (record w { client = t; ends = ends; taken = w.taken ++ [] }) refl refl (append-nil w.taken) back v

-- by the news
taken_news : (w : WorldState) (t : State) (ends : List AskEnd) (p : Purpose) (mm : Meaning) (m : CoapMessage) (n : News) → IsNews mm m n
    → (((q : ℕ) → mm ≡ meant.Value q → ⊥) → (o : Observation) → t.observation ≡ Some o → w.client.observation ≡ Some o)
    → ((q : ℕ) (payload : List ℕ) → mm ≡ meant.Value q → Valued (record w { client = t; ends = ends; taken = w.taken ++ value_by p payload })) → Valued w
    → Valued (record w { client = t; ends = ends; taken = w.taken ++ taken_by p n })
taken_news w t ends p mm m (news.Value payload) is back each v = each is.0 payload.now is.1
taken_news w t ends p mm m (news.Answered code block payload) is back each v = nothing_taken w t ends (back (λ q e. let wrong : meant.Response ≡ meant.Value q = sym is.0 ∙ e in cc)) v
taken_news w t ends p mm m news.Old is back each v = nothing_taken w t ends (back (λ q e. let wrong : meant.Old ≡ meant.Value q = sym is ∙ e in cc)) v
taken_news w t ends p mm m news.Reset is back each v = nothing_taken w t ends (back (λ q e. let wrong : meant.Reset ≡ meant.Value q = sym is ∙ e in cc)) v
taken_news w t ends p mm m news.Nothing (inl is) back each v = nothing_taken w t ends (back (λ q e. let wrong : meant.Received ≡ meant.Value q = sym is ∙ e in cc)) v
taken_news w t ends p mm m news.Nothing (inr is) back each v = nothing_taken w t ends (back (λ q e. let wrong : meant.Foreign ≡ meant.Value q = sym is ∙ e in cc)) v

-- the kinds of datagrams that come
pub data IsFor (w : WorldState) (led : List Entry) (i : ℕ) (d : Datagram) (p : Purpose) : Type 0 where
  back_on : (k : ℕ) → p ≡ reply_to k → IsSentBack w.asks led k d → IsFor w led i d p
  notification_of : (k q e : ℕ) → p ≡ notification_for k q e → IsNotification w.asks w.acts k q d → IsFor w led i d p

pub is_for_end : (w : WorldState) (led : List Entry) (i : ℕ) (d : Datagram) (p : Purpose) → IsSaid w.asks w.acts led d p → d.to ≡ client_place → IsFor w led i d p
is_for_end w led i d (copy_of k) is to = absurd (is to)
is_for_end w led i d (reply_to k) is to = back_on k refl is
is_for_end w led i d (notification_for k q e) is to = notification_of k q e refl is
is_for_end w led i d other is to = absurd (is.0 to)

pub bytes_of : (w : WorldState) (led : List Entry) (i : ℕ) (d : Datagram) (p : Purpose) → IsFor w led i d p → (m : CoapMessage) × Spells m d.bytes
bytes_of w led i d p (back_on k is sent) = (sent.reply.answer, sent.reply.spells)
bytes_of w led i d p (notification_of k q e is n_of) = (notification n_of.notice n_of.value, n_of.spells)

value_taken_of : (capacity : ℕ) (w : WorldState) (led : List Entry) (i : ℕ) (d : Datagram) (p : Purpose) (m : CoapMessage) (t : State) (ends : List AskEnd) → Holds capacity w → length w.asks ≤ 65536 → Valued w → IsFor w led i d p
    → slice_get w.sent i ≡ Some d → d.purpose ≡ p → w.moment - d.moment ≤ MAX_LATENCY
    → Spells m d.bytes → t ≡ after (at_moment w.moment w.client) d.from m.token (meaning (at_moment w.moment w.client) d.from m)
    → (q : ℕ) (payload : List ℕ) → meaning (at_moment w.moment w.client) d.from m ≡ meant.Value q → Valued (record w { client = t; ends = ends; taken = w.taken ++ value_by p payload })
value_taken_of capacity w led i d p m t ends h few v (back_on k is sent) at purpose soon spells after_is q payload e =
    subst (λ (x : Purpose). Valued (record w { client = t; ends = ends; taken = w.taken ++ value_by x payload })) (sym is)
    (valued_value capacity w t ends q k 0 payload h few (taken_reply capacity w d k q m t h few v led sent spells e after_is) v)
value_taken_of capacity w led i d p m t ends h few v (notification_of k q0 emission is n_of) at purpose soon spells after_is q payload e =
    subst (λ (x : Purpose). Valued (record w { client = t; ends = ends; taken = w.taken ++ value_by x payload })) (sym is)
    (valued_value capacity w t ends q k emission payload h few (taken_notification capacity w i d k q0 emission q m t h few v n_of at (purpose ∙ is) soon spells e after_is) v)

valued_delivered : (capacity : ℕ) (w : WorldState) (led : List Entry) (i : ℕ) (d : Datagram) (told : Delivered) (old new : List ℕ) (t : State) (ends : List AskEnd) → Holds capacity w → length w.asks ≤ 65536 → Valued w → IsFor w led i d d.purpose
    → slice_get w.sent i ≡ Some d → w.moment - d.moment ≤ MAX_LATENCY → Delivers (at_moment w.moment w.client) d.from d.bytes told old new t
    → Valued (record w { client = t; ends = ends; taken = w.taken ++ taken_by d.purpose told.news })
valued_delivered capacity w led i d told old new t ends h few v it at soon (of_message m spells reply news_is after_is) =
    taken_news w t ends d.purpose (meaning (at_moment w.moment w.client) d.from m) m told.news news_is
    (λ no_value o is. seen_back (at_moment w.moment w.client) d.from m.token (meaning (at_moment w.moment w.client) d.from m) o no_value (sym (ap (λ (y : State). y.observation) after_is) ∙ is))
    (λ q payload e. value_taken_of capacity w led i d d.purpose m t ends h few v it at refl soon spells after_is q payload e) v
valued_delivered capacity w led i d told old new t ends h few v it at soon (of_fault f has reply news_is same) =
    let b = bytes_of w led i d d.purpose it in absurd (no_fault_of_message f b.0 d.bytes b.1 has)

-- ---- the moves

plain_other : (q : Purpose) → MayComeAfter q other
plain_other q = tt

plain_back : (p q : Purpose) → MayComeAfter q (purpose_back p)
plain_back (copy_of k) q = tt
plain_back (reply_to k) q = tt
plain_back (notification_for k n e) q = tt
plain_back other q = tt

number_back : (p : Purpose) → HasNumber (purpose_back p)
number_back (copy_of k) = tt
number_back (reply_to k) = tt
number_back (notification_for k n e) = tt
number_back other = tt

valued_come : (capacity : ℕ) (w v : WorldState) (i : ℕ) (d : Datagram) → slice_get w.sent i ≡ Some d → Comes d w v → Holds capacity w → length w.asks ≤ 65536 → Exact w → Valued w → Valued v
valued_come capacity w v i d at (too_late late is) h few x y = subst Valued (sym is) y
valued_come capacity w v i d at (to_client may to s) h few x y =
    let said = all_at (λ (z : Datagram). IsSaid w.asks w.acts x.led z z.purpose) w.sent i d x.said at in
    let ends : List AskEnd = w.ends ++ end_by w.client.outstanding s.after.outstanding (latest w) s.told.news in
    let mid : WorldState = record w { client = s.after; ends = ends; taken = w.taken ++ taken_by d.purpose s.told.news } in
    let it = valued_delivered capacity w x.led i d s.told s.old s.new s.after ends h few y (is_for_end w x.led i d d.purpose said to) at (came_soon w.moment d may) s.delivers in
    subst Valued (sym s.next) (valued_sent mid client_place d.from other (option_to_list (option_map (λ n. take n s.new) s.told.reply)) it h.past (λ q. tt) tt)
valued_come capacity w v i d at (to_server may to s) h few x y =
    let mid : WorldState = record w { server = s.after; acts = w.acts ++ acts_for d.purpose s.act; ids = w.ids + id_used w.server s.after } in
    subst Valued (sym s.next)
    (valued_sent mid server_place d.from (purpose_back d.purpose) s.back (valued_client w mid refl refl refl (λ o e. e) y) h.past (plain_back d.purpose) (number_back d.purpose))

valued_deliver : (capacity : ℕ) (w v : WorldState) (i : ℕ) (o : Option Datagram) → slice_get w.sent i ≡ o → ComesIfSent o w v → Holds capacity w → length w.asks ≤ 65536 → Exact w → Valued w → Valued v
valued_deliver capacity w v i None at is h few x y = subst Valued (sym is) y
valued_deliver capacity w v i (Some d) at is h few x y = valued_come capacity w v i d at is h few x y

valued_ask : (capacity : ℕ) (a : Asking) (w v : WorldState) → ClientAsks a w v → Holds capacity w → length v.asks ≤ 65536 → Valued w → Valued v
valued_ask capacity a w v (sends_ask n old new t may asks_it is) h few_after y =
    let r : Outstanding = request_for (at_moment w.moment w.client) server_place a asks_it.id in
    let mid : WorldState = record w { client = t; asks = w.asks ++ r ∷ [] } in
    let count = length_push w.asks r in
    let total : length v.asks ≡ length (w.asks ++ r ∷ []) = ap (λ (z : WorldState). length z.asks) is in
    let seen : t.observation ≡ cond r.registers (Some (record { peer = r.peer; token = r.token; latest = None })) w.client.observation = ap (λ (z : State). z.observation) asks_it.after in
    let it = valued_asked w t r (client_asked w.asks w.client t w.moment server_place a n old new h.did h.client_moment asks_it) (omega arith) seen y in
    subst Valued (sym is) (valued_sent mid client_place server_place (copy_of (length w.asks)) (take n new ∷ []) it h.past (λ q. tt) tt)
valued_ask capacity a w v (refuses_ask f refused is) h few_after y = subst Valued (sym is) (valued_client w (record w { client = at_moment w.moment w.client }) refl refl refl (λ o e. e) y)
valued_ask capacity a w v (skips_ask may_not is) h few_after y = subst Valued (sym is) y

valued_due : (capacity : ℕ) (w v : WorldState) → ClientDoesDue w v → Holds capacity w → Valued w → Valued v
valued_due capacity w v (retransmits n old new t is_due is) h y =
    let mid : WorldState = record w { client = t } in
    let it = valued_client w mid refl refl refl (λ o e. same_seen_due (at_moment w.moment w.client) t (what.Send n) old new o is_due e) y in
    subst Valued (sym is) (valued_sent mid client_place server_place (copy_of (latest w)) (take n new ∷ []) it h.past (λ q. tt) tt)
valued_due capacity w v (gives_up old new t is_due is) h y =
    subst Valued (sym is) (valued_client w _ refl refl refl (λ o e. same_seen_due (at_moment w.moment w.client) t what.TimedOut old new o is_due e) y)
valued_due capacity w v (waits old new t is_due is) h y =
    subst Valued (sym is) (valued_client w (record w { client = t }) refl refl refl (λ o e. same_seen_due (at_moment w.moment w.client) t what.Nothing old new o is_due e) y)

valued_elsewhere : (capacity : ℕ) (from : Endpoint) (bytes : List ℕ) (w v : WorldState) → ComesElsewhere from bytes w v → Holds capacity w → Valued w → Valued v
valued_elsewhere capacity from bytes w v (comes_elsewhere no_end s) h y =
    let mid : WorldState = record w { server = s.after; acts = w.acts ++ []; ids = w.ids + id_used w.server s.after } in
    subst Valued (sym s.next) (valued_sent mid server_place from other s.back (valued_client w mid refl refl refl (λ o e. e) y) h.past (λ q. tt) tt)
valued_elsewhere capacity from bytes w v (skips_end is_one is) h y = subst Valued (sym is) y

-- ---- a notification

follows_one : (w : WorldState) (account : Account) (n : Notice) (k place : ℕ) (request : Outstanding) → n.to ≡ client_place → slice_get w.asks k ≡ Some request → request.token ≡ token_of n
    → All (λ s. is_for n.to (token_of n) s.notice ≡ true → GoesBefore place n s) account.sent → (p : Purpose) → IsNoted w.asks account p → MayFollow k n.sequence place p
follows_one w account n k place request to at token each (notification_for j p f) x = λ same.
    let one : x.request ≡ request = at_same w.asks k x.request request (subst (λ (i : ℕ). slice_get w.asks i ≡ Some x.request) same x.ask) at in
    let for_it : is_for n.to (token_of n) x.notice.notice ≡ true
    = both_true (is_same_endpoint n.to x.notice.notice.to) (bytes_eq (token_of n) (token_of x.notice.notice))
    (subst (λ (e : Endpoint). is_same_endpoint n.to e ≡ true) (to ∙ sym x.to) (itself n.to))
    (subst (λ (t : List ℕ). bytes_eq (token_of n) t ≡ true) (sym token ∙ (ap (λ (z : Outstanding). z.token) (sym one) ∙ sym x.token)) (own_token (token_of n))) in
    let goes = All-contains (λ (s : SentNotification). is_for n.to (token_of n) s.notice ≡ true → GoesBefore place n s) account.sent x.notice each x.has for_it in
    elim goes.order [
      | inl again ↦ inl (sym x.sequence ∙ again.0, sym x.place ∙ again.1)
      | inr less ↦ inr (let a = x.sequence in let b = less.0 in omega arith, let a = x.place in let b = less.1 in omega arith)
    ]
follows_one w account n k place request to at token each (copy_of j) x = tt
follows_one w account n k place request to at token each (reply_to j) x = tt
follows_one w account n k place request to at token each other x = tt

-- to the client
valued_to_client : (capacity observers : ℕ) (w : WorldState) (t : Server) (n : Notice) → Holds capacity w → length w.asks ≤ 65536 → w.ids ≤ 65536 → Watched observers w → SendsNext w.moment (Some n) w.server t
    → n.to ≡ client_place → Valued w → Valued (with_notification (Some n) (record w { server = t }))
valued_to_client capacity observers w t n h few low x sends to y =
    let goes : IsToRegistered x.account n = notifications_go_to_the_registered observers x.account w.server.observers w.moment w.server.next_id n sends.observers.list x.did x.id sends.notifies in
    let known = All-contains (IsKnown w.asks w.acts) x.account.registered (record { from = n.to; token = token_of n; target = n.target }) x.registered goes.registered in
    let is = known.1 to in
    let fresh = x.fresh in
    let once : registrations_of n.to (token_of n) x.account.registered ≤ 1
    = subst (λ (e : Endpoint). registrations_of e (token_of n) x.account.registered ≤ 1) (sym to) (x.once (token_of n)) in
    let order : IsInOrder x.account n = notifications_are_in_order observers x.account w.server.observers w.moment w.server.next_id n sends.observers.list x.did sends.notifies once (omega arith) in
    let place : ℕ = last_place n.target (targets_of w.emitted) in
    let each : All (λ s. is_for n.to (token_of n) s.notice ≡ true → GoesBefore (last_place n.target (targets_of w.emitted)) n s) x.account.sent
    = subst (λ (l : List ℕ). All (λ s. is_for n.to (token_of n) s.notice ≡ true → GoesBefore (last_place n.target l) n s) x.account.sent) x.values order.after in
    let purpose = (purpose_is capacity w n h few to is).purpose in
    let d : Datagram = notification_sent w.moment w.asks w.emitted n in
    record {
      order = all_pairs_push IsAfter w.sent d y.order (λ i c within. record {
        moment = h.past i c within;
        order = subst (MayComeAfter (get_or w.sent i c).purpose) (sym purpose)
            (follows_one w x.account n is.place (last_place n.target (targets_of w.emitted)) is.request to is.ask is.token each (get_or w.sent i c).purpose (x.noted i c within));
      });
      numbers = All-push (λ (z : Datagram). HasNumber z.purpose) w.sent d y.numbers (subst HasNumber (sym purpose) (order.some, small n.fresh order.count fresh low));
      asked = y.asked;
      tops = λ o seen j b at_j reg same. tops_more w.sent (d ∷ []) w.taken j o.latest (y.tops o seen j b at_j reg same);
      rising = y.rising;
    }
  where
    small : (b : Bool) → n.sequence ≤ fresh_count x.account.sent + one_if b → fresh_count x.account.sent ≤ w.ids → w.ids ≤ 65536 → n.sequence < 2 ^ 23
    small true count up ids = omega arith
    small false count up ids = omega arith

valued_noticed : (capacity observers : ℕ) (w : WorldState) (t : Server) (o : Option Notice) → Holds capacity w → length w.asks ≤ 65536 → w.ids ≤ 65536 → Watched observers w → SendsNext w.moment o w.server t
    → Valued w → Valued (with_notification o (record w { server = t }))
valued_noticed capacity observers w t None h few low x sends y = valued_client w (record w { server = t }) refl refl refl (λ o e. e) y
valued_noticed capacity observers w t (Some n) h few low x sends y = elim (cases_Bool (is_same_endpoint n.to client_place)) [
  | inl here ↦ valued_to_client capacity observers w t n h few low x sends (same_endpoint n.to client_place here) y
  | inr elsewhere_is ↦
      let d : Datagram = notification_sent w.moment w.asks w.emitted n in
      let purpose = not_client_purpose n w.asks w.emitted elsewhere_is in
      record {
        order = all_pairs_push IsAfter w.sent d y.order (λ i c within. record {
          moment = h.past i c within;
          order = subst (MayComeAfter (get_or w.sent i c).purpose) (sym purpose) tt;
        });
        numbers = All-push (λ (z : Datagram). HasNumber z.purpose) w.sent d y.numbers (subst HasNumber (sym purpose) tt);
        asked = y.asked;
        tops = λ o seen j b at_j reg same. tops_more w.sent (d ∷ []) w.taken j o.latest (y.tops o seen j b at_j reg same);
        rising = y.rising;
      }
]

-- ---- all moves

valued_after : (capacity observers : ℕ) (m : WorldMove) (w v : WorldState) → Plays m w v → Stands capacity observers w → length w.asks ≤ 65536 → length v.asks ≤ 65536 → w.ids ≤ 65536 → Valued w → Valued v
valued_after capacity observers (ask a) w v plays s few few_after low y = valued_ask capacity a w v plays s.holds few_after y
valued_after capacity observers due w v plays s few few_after low y = valued_due capacity w v plays s.holds y
valued_after capacity observers (deliver i) w v plays s few few_after low y = valued_deliver capacity w v i (slice_get w.sent i) refl plays s.holds few s.exact y
valued_after capacity observers (pass n) w v plays s few few_after low y = subst Valued (sym plays) (valued_client w (record w { moment = w.moment + n }) refl refl refl (λ o e. e) y)
valued_after capacity observers (elsewhere from bytes) w v plays s few few_after low y = valued_elsewhere capacity from bytes w v plays s.holds y
valued_after capacity observers (emit e) w v plays s few few_after low y = subst Valued (sym plays) (valued_client w (with_new_value e w) refl refl refl (λ o e. e) y)
valued_after capacity observers notify w v plays s few few_after low y =
    subst Valued (sym plays.next) (valued_noticed capacity observers w plays.after plays.notice s.holds few low s.watched plays.sends y)

valued_at_start : (first_id exchanges observers : ℕ) (w : WorldState) → IsStart first_id exchanges observers w → Valued w
valued_at_start first_id exchanges observers w s = record {
  order = subst (AllPairs IsAfter) (sym s.sent) (λ i j d before within. absurd (omega arith));
  numbers = subst (All (λ d. HasNumber d.purpose)) (sym s.sent) (All-nil (λ (d : Datagram). HasNumber d.purpose));
  asked = subst (All (λ x. x.ask < length w.asks)) (sym s.taken) (All-nil (λ (x : Value). x.ask < length w.asks));
  tops = λ o is k a at reg same. absurd (let none = s.client.observation in cc);
  rising = subst (AllPairs IsNoLater) (sym s.taken) (λ i j d before within. absurd (omega arith));
}

valued_after_all : (capacity observers : ℕ) (moves : List WorldMove) (w v : WorldState) → PlaysAll moves w v → length v.asks ≤ 65536 → v.ids ≤ 65536 → Stands capacity observers w → Valued w → Valued v
valued_after_all capacity observers [] w v plays few low s y = subst Valued (sym plays) y
valued_after_all capacity observers (m ∷ moves) w v plays few low s y =
    let one = grows_by m w plays.0 plays.1 in
    let more = all_grow moves plays.0 v plays.2 in
    let asks_now = one.asks in
    let asks_later = more.asks in
    let ids_now = one.ids in
    let ids_later = more.ids in
    valued_after_all capacity observers moves plays.0 v plays.2 few low (stands_after capacity observers m w plays.0 plays.1 (omega arith) s)
    (valued_after capacity observers m w plays.0 plays.1 s (omega arith) (omega arith) (omega arith) y)

pub values_never_go_back : ValuesNeverGoBack
values_never_go_back first_id exchanges observers moves w v start plays few low =
    (valued_after_all exchanges observers moves w v plays few low (stands_at_start first_id exchanges observers w start) (valued_at_start first_id exchanges observers w start)).rising
