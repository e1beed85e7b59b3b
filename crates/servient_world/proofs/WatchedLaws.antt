-- Each move keeps the facts on the observers.
use Rattle.std.proofs.Common.{◌≡◌, ◌≢◌, ℕ, ◌+◌, ◌<◌, ◌≤◌, ◌^◌, ◌∙◌, ◌&&◌, Bool, true, false, cond, Option, Some, None, List, [], ◌∷◌, ◌++◌, map, take, length, inl, inr, refl, sym, ap, subst, arith}
use Rattle.std.specs.Prelude.{All, AllPairs, Contains, slice_get, option_map}
use Rattle.std.specs.Option.{option_to_list}
use Rattle.std.specs.Str.{bytes_eq}
use Rattle.std.proofs.lemmas.Bool.{cases_Bool}
use Rattle.std.proofs.lemmas.List.{map-append}
use Rattle.std.proofs.lemmas.List.Elements.{All-append, All-map, All-nil, All-push, All-contains, Contains-append_left, Contains-push}
use Rattle.coap_msg.specs.declared.endpoint.Endpoint.{Endpoint}
use Rattle.coap_msg.specs.Endpoints.{is_same_endpoint}
use Rattle.coap_msg.specs.Grammar.{CoapMessage, Spells}
use Rattle.coap_msg.proofs.Messages.{at_most_one_message}
use Rattle.coap_msg.proofs.SameEndpoints.{both, same_endpoint}
use Rattle.coap_opts.specs.Table.{observe}
use Rattle.coap_opts.specs.Reading.{number_under}
use Rattle.coap_client.specs.declared.outstanding.Outstanding.{Outstanding}
use Rattle.coap_client.specs.declared.state.State.{State}
use Rattle.coap_client.specs.Exchange.{at_moment, request_for}
use Rattle.coap_observe.specs.declared.notice.Notice.{Notice}
use Rattle.coap_observe.specs.Accounts.{Registration, SentNotification, Account, no_account, last_place, with_notification as account_noticed, with_value, Did as AccountDid, nothing as nothing_done, emitted as was_emitted, sent as was_sent, IsToRegistered, token_of, one_if, registrations_of, fresh_count}
use Rattle.coap_observe.proofs.AccountLaws.{notifications_go_to_the_registered}
use Rattle.coap_observe.proofs.KnownOfObservers.{registrations_push, fresh_push}
use Rattle.coap_bind.specs.declared.server.Server.{Server}
use Rattle.coap_bind.specs.Server.{is_request, with_next_id, with_emitted, with_observers, with_notification_sent, SendsNext}
use Rattle.coap_bind.specs.Treating.{Acted, IsTreated, no_request, is_duplicate, finds_full, is_answered, is_ignored}
use Rattle.coap_bind.proofs.TreatingLaws.{all_are_treated}
use Rattle.servient_world.specs.World.{Emission, client_place, server_place, Purpose, copy_of, reply_to, notification_for, other, Datagram, Act, AskEnd, Value, WorldState, IsStart, WorldMove, ask, due, deliver, pass, elsewhere, emit, notify, latest, with_sent, ClientAsks, sends_ask, refuses_ask, skips_ask, ClientDoesDue, retransmits, gives_up, waits, end_by, taken_by, Receives, too_long, treated, id_used, acts_for, purpose_back, ServerTakes, with_new_value, targets_of, purpose_of, notification_sent, with_notification, Comes, to_client, to_server, ComesIfSent, from_elsewhere, ComesElsewhere, comes_elsewhere, skips_end, Plays}
use Rattle.servient_world.proofs.Places.{all_at}
use Rattle.servient_world.proofs.Tokens.{same_token}
use Rattle.servient_world.proofs.AskLaws.{HasMessage}
use Rattle.servient_world.proofs.Holds.{Holds, IsCopy, IsSentFor}
use Rattle.servient_world.proofs.WatchLaws.{IsKnown, IsNoted, Watched, acts_more, asks_more, all_noted_more, all_noted_account, none_registered, IsByRequest, GoesOn, account_goes_on}
use Rattle.servient_world.proofs.Ledger.{Entry}
use Rattle.servient_world.proofs.Exact.{Exact, IsSaid, IsEmpty}
use Rattle.servient_world.proofs.ClientLaws.{not_one}
use Rattle.servient_world.proofs.NotificationLaws.{purpose_is, not_client_purpose}
use Rattle.servient_world.proofs.AnsweredLaws.{no_end_place}
use Rattle.servient_world.proofs.CounterLaws.{counter_receives, counter_sends}

-- ---- datagrams beside notifications

watched_sent : (observers : ℕ) (w : WorldState) (from to : Endpoint) (p : Purpose) (said : List (List ℕ)) → ((a : Account) → IsNoted w.asks a p) → Watched observers w → Watched observers (with_sent w from to p said)
watched_sent observers w from to p said plain y = record {
  account = y.account;
  did = y.did;
  values = y.values;
  registered = y.registered;
  once = y.once;
  noted =
      let one : List ℕ → Datagram = λ bytes. record { moment = w.moment; from = from; to = to; bytes = bytes; purpose = p } in
      All-append (λ (d : Datagram). IsNoted w.asks y.account d.purpose) w.sent (map one said) y.noted
      (All-map (λ (d : Datagram). IsNoted w.asks y.account d.purpose) one said (λ i d within. plain y.account));
  fresh = y.fresh;
  id = y.id;
}

watched_client : (observers : ℕ) (w : WorldState) (t : State) (ends : List AskEnd) (taken : List Value) → Watched observers w → Watched observers (record w { client = t; ends = ends; taken = taken })
watched_client observers w t ends taken y = record {
  account = y.account;
  did = y.did;
  values = y.values;
  registered = y.registered;
  once = y.once;
  noted = y.noted;
  fresh = y.fresh;
  id = y.id;
}

watched_asked : (observers : ℕ) (w : WorldState) (t : State) (o : Outstanding) → Watched observers w → Watched observers (record w { client = t; asks = w.asks ++ o ∷ [] })
watched_asked observers w t o y = record {
  account = y.account;
  did = y.did;
  values = y.values;
  registered = asks_more w.asks (o ∷ []) w.acts y.account.registered y.registered;
  once = y.once;
  noted = all_noted_more w.asks (o ∷ []) y.account w.sent y.noted;
  fresh = y.fresh;
  id = y.id;
}

-- ---- the server takes something

-- a registration is of an ask, and the first with its token
record IsFirst (asks : List Outstanding) (acts : List Act) (account : Account) (r : Registration) : Type 0 where
  known : IsKnown asks acts r
  first : r.from ≡ client_place → registrations_of client_place r.token account.registered ≡ 0

once_more : (rs : List Registration) (r : Registration) → ((token : List ℕ) → registrations_of client_place token rs ≤ 1) → (r.from ≡ client_place → registrations_of client_place r.token rs ≡ 0)
    → (token : List ℕ) → registrations_of client_place token (rs ++ r ∷ []) ≤ 1
once_more rs r once first token = elim (cases_Bool (is_same_endpoint client_place r.from && bytes_eq token r.token)) [
  | inl here ↦
      let h = both (is_same_endpoint client_place r.from) (bytes_eq token r.token) here in
      let none = first (sym (same_endpoint client_place r.from h.0)) in
      let same : registrations_of client_place token rs ≡ 0 = ap (λ (t : List ℕ). registrations_of client_place t rs) (same_token token r.token h.1) ∙ none in
      let more = registrations_push client_place token rs r in
      let one : one_if (is_same_endpoint client_place r.from && bytes_eq token r.token) ≡ 1 = ap one_if here in
      omega arith
  | inr not_here ↦
      let before = once token in
      let more = registrations_push client_place token rs r in
      let none : one_if (is_same_endpoint client_place r.from && bytes_eq token r.token) ≡ 0 = ap one_if not_here in
      omega arith
]

watched_served : (observers : ℕ) (w : WorldState) (from : Endpoint) (bytes : List ℕ) (act : Option Acted) (more : List Act) (t : Server) (n : ℕ) (y : Watched observers w)
    → GoesOn observers from bytes act y.account t.observers → t.next_id < 2 ^ 16 → w.ids ≤ n
    → ((r : Registration) → r.from ≡ from → IsByRequest bytes act r → IsFirst w.asks (w.acts ++ more) y.account r)
    → Watched observers (record w { server = t; acts = w.acts ++ more; ids = n })
watched_served observers w from bytes act more t n y g small up each = record {
  account = g.account;
  did = g.did;
  values = g.emitted ∙ y.values;
  registered = elim g.registered [
    | inl same ↦ subst (All (IsKnown w.asks (w.acts ++ more))) (sym same) (acts_more w.asks w.acts more y.account.registered y.registered)
    | inr new ↦ subst (All (IsKnown w.asks (w.acts ++ more))) (sym new.1)
        (All-push (IsKnown w.asks (w.acts ++ more)) y.account.registered new.0 (acts_more w.asks w.acts more y.account.registered y.registered) (each new.0 new.2 new.3).known)
  ];
  once = λ token. elim g.registered [
    | inl same ↦ subst (λ (l : List Registration). registrations_of client_place token l ≤ 1) (sym same) (y.once token)
    | inr new ↦ subst (λ (l : List Registration). registrations_of client_place token l ≤ 1) (sym new.1) (once_more y.account.registered new.0 y.once (each new.0 new.2 new.3).first token)
  ];
  noted = all_noted_account w.asks y.account g.account w.sent (λ s has. subst (λ (l : List SentNotification). Contains l s) (sym g.sent) has) y.noted;
  fresh = let same = ap fresh_count g.sent in let before = y.fresh in omega arith;
  id = small;
}

-- a copy of an ask
first_of_copy : (capacity observers : ℕ) (w : WorldState) (d : Datagram) (k : ℕ) (act : Option Acted) (copy : IsCopy w.asks d k) → Holds capacity w → length w.asks ≤ 65536 → (y : Watched observers w)
    → AllPairs (λ x z. x.ask ≢ z.ask) (w.acts ++ acts_for (copy_of k) act) → (r : Registration) → r.from ≡ d.from → IsByRequest d.bytes act r
    → IsFirst w.asks (w.acts ++ acts_for (copy_of k) act) y.account r
first_of_copy capacity observers w d k act copy h few y once r from by =
    let message = all_at HasMessage w.asks k copy.request h.messages copy.ask in
    let spells : Spells message.0 d.bytes = subst (λ (b : List ℕ). Spells message.0 b) (sym copy.bytes) message.1.message.spells in
    let one : by.message ≡ message.0 = at_most_one_message by.message message.0 d.bytes by.spells spells in
    let made : Act = record { ask = k; acted = by.made } in
    let list : w.acts ++ acts_for (copy_of k) act ≡ w.acts ++ made ∷ [] = ap (λ (o : Option Acted). w.acts ++ acts_for (copy_of k) o) by.acted_is in
    let differ : AllPairs (λ x z. x.ask ≢ z.ask) (w.acts ++ made ∷ []) = subst (λ (l : List Act). AllPairs (λ x z. x.ask ≢ z.ask) l) list once in
    let reg : copy.request.registers ≡ true = message.1.observes (subst (λ (x : CoapMessage). number_under observe x.options ≡ Some 0) one by.observes) in
    let token : copy.request.token ≡ r.token = sym message.1.message.token ∙ (ap (λ (x : CoapMessage). x.token) (sym one) ∙ by.token) in
    let none = none_registered capacity observers w k copy.request made h few y copy.ask reg refl differ in
    record {
      known = (
        (λ is_server. not_one (sym is_server ∙ (from ∙ copy.from))),
        λ is_client. record {
          place = k;
          request = copy.request;
          ask = copy.ask;
          registers = reg;
          token = token;
          act = made;
          made = subst (λ (l : List Act). Contains l made) (sym list) (Contains-push w.acts made);
          for_it = refl;
          target = by.target;
        },
      );
      first = λ is_client. ap (λ (t : List ℕ). registrations_of client_place t y.account.registered) (sym token) ∙ none;
    }

-- a registration that isn't the client's is of no ask
first_elsewhere : (asks : List Outstanding) (acts : List Act) (account : Account) (from : Endpoint) (r : Registration) → (from ≡ client_place → ⊥) → (from ≡ server_place → ⊥) → r.from ≡ from → IsFirst asks acts account r
first_elsewhere asks acts account from r not_client not_server is = record {
  known = ((λ e. not_server (sym is ∙ e)), λ e. absurd (not_client (sym is ∙ e)));
  first = λ e. absurd (not_client (sym is ∙ e));
}

-- an empty message registers nobody
empty_registers_none : (observers : ℕ) (w : WorldState) (d : Datagram) (act : Option Acted) (back : List (List ℕ)) (t : Server) (y : Watched observers w) → IsEmpty d
    → IsTreated d.from d.bytes w.moment act back w.server t → act ≡ None
empty_registers_none observers w d act back t y empty (no_request never quiet none same told) = none
empty_registers_none observers w d act back t y empty (is_duplicate m e spells request found none is same stays) = none
empty_registers_none observers w d act back t y empty (finds_full m spells request none is same stays) = none
empty_registers_none observers w d act back t y empty (is_answered m slot r reply spells request free reason spelt is new) =
    let wrong = subst (λ (x : CoapMessage). is_request x ≡ false) (at_most_one_message empty.message m d.bytes empty.spells spells) empty.no_request in absurd (cc)
empty_registers_none observers w d act back t y empty (is_ignored m slot spells request faults none silent new stays) = none

up_by : (a b : ℕ) → a ≤ a + b
up_by a b = omega arith

-- nothing was done to the observers
same_watched : (observers : ℕ) (w : WorldState) (more : List Act) (t : Server) (n : ℕ) → Watched observers w → t ≡ w.server → w.ids ≤ n → Watched observers (record w { server = t; acts = w.acts ++ more; ids = n })
same_watched observers w more t n y same up = record {
  account = y.account;
  did = subst (λ (z : Server). AccountDid observers y.account z.observers) (sym same) y.did;
  values = y.values;
  registered = acts_more w.asks w.acts more y.account.registered y.registered;
  once = y.once;
  noted = y.noted;
  fresh = let before = y.fresh in omega arith;
  id = let at = ap (λ (z : Server). z.next_id) same in let before = y.id in omega arith;
}

-- a datagram that comes to the server, by its purpose
first_by_purpose : (capacity observers : ℕ) (d : Datagram) (w : WorldState) (p : Purpose) (act : Option Acted) (back : List (List ℕ)) (t : Server) → Holds capacity w → length w.asks ≤ 65536
    → (y : Watched observers w) → (led : List Entry) → IsSentFor w.asks d p → IsSaid w.asks w.acts led d p → d.to ≡ server_place → AllPairs (λ x z. x.ask ≢ z.ask) (w.acts ++ acts_for p act)
    → IsTreated d.from d.bytes w.moment act back w.server t
    → (r : Registration) → r.from ≡ d.from → IsByRequest d.bytes act r → IsFirst w.asks (w.acts ++ acts_for p act) y.account r
first_by_purpose capacity observers d w (copy_of k) act back t h few y led copy is to once was_treated = first_of_copy capacity observers w d k act copy h few y once
first_by_purpose capacity observers d w (reply_to k) act back t h few y led copy is to once was_treated = absurd (not_one (sym to ∙ is.to))
first_by_purpose capacity observers d w (notification_for k q e) act back t h few y led copy is to once was_treated = absurd (not_one (sym to ∙ is.to))
first_by_purpose capacity observers d w other act back t h few y led copy is to once was_treated = λ r from by. elim is.1 [
  | inl never ↦ absurd (never to)
  | inr empty ↦ absurd (let none = empty_registers_none observers w d act back t y empty was_treated in let wrong : None ≡ Some by.made = sym none ∙ by.acted_is in cc)
]

plain_back : (p : Purpose) (asks : List Outstanding) (a : Account) → IsNoted asks a (purpose_back p)
plain_back (copy_of k) asks a = tt
plain_back (reply_to k) asks a = tt
plain_back (notification_for k q e) asks a = tt
plain_back other asks a = tt

watched_received : (capacity observers : ℕ) (d : Datagram) (w v : WorldState) (s : ServerTakes d w v) → (y : Watched observers w)
    → (IsTreated d.from d.bytes w.moment s.act s.back w.server s.after → (r : Registration) → r.from ≡ d.from → IsByRequest d.bytes s.act r → IsFirst w.asks (w.acts ++ acts_for d.purpose s.act) y.account r)
    → Watched observers v
watched_received capacity observers d w v s y each =
    subst (Watched observers) (sym s.next)
    (watched_sent observers (record w { server = s.after; acts = w.acts ++ acts_for d.purpose s.act; ids = w.ids + id_used w.server s.after }) server_place d.from (purpose_back d.purpose) s.back
    (plain_back d.purpose w.asks) (at s.receives))
  where
    at : Receives d.from d.bytes w.moment s.act s.back w.server s.after
        → Watched observers (record w { server = s.after; acts = w.acts ++ acts_for d.purpose s.act; ids = w.ids + id_used w.server s.after })
    at (too_long long none nothing same) =
        same_watched observers w (acts_for d.purpose s.act) s.after (w.ids + id_used w.server s.after) y same (up_by w.ids (id_used w.server s.after))
    at (treated short treats) =
        let was_treated = all_are_treated d.from d.bytes w.moment s.act s.back w.server s.after treats in
        watched_served observers w d.from d.bytes s.act (acts_for d.purpose s.act) s.after (w.ids + id_used w.server s.after) y
        (account_goes_on observers d.from d.bytes w.moment s.act s.back y.account w.server s.after was_treated y.did)
        (counter_receives d.from d.bytes w.moment s.act s.back w.server s.after (treated short treats) y.id)
        (up_by w.ids (id_used w.server s.after)) (each was_treated)

watched_come : (capacity observers : ℕ) (d : Datagram) (w v : WorldState) → Comes d w v → Holds capacity w → Holds capacity v → length w.asks ≤ 65536 → (x : Exact w) → Watched observers w
    → IsSentFor w.asks d d.purpose → IsSaid w.asks w.acts x.led d d.purpose → Watched observers v
watched_come capacity observers d w v (Comes.too_late late is) h h_after few x y sent said = subst (Watched observers) (sym is) y
watched_come capacity observers d w v (to_client may to s) h h_after few x y sent said =
    subst (Watched observers) (sym s.next)
    (watched_sent observers (record w { client = s.after; ends = w.ends ++ end_by w.client.outstanding s.after.outstanding (latest w) s.told.news; taken = w.taken ++ taken_by d.purpose s.told.news })
    client_place d.from other (option_to_list (option_map (λ n. take n s.new) s.told.reply)) (λ a. tt)
    (watched_client observers w s.after (w.ends ++ end_by w.client.outstanding s.after.outstanding (latest w) s.told.news) (w.taken ++ taken_by d.purpose s.told.news) y))
watched_come capacity observers d w v (to_server may to s) h h_after few x y sent said =
    watched_received capacity observers d w v s y
    (first_by_purpose capacity observers d w d.purpose s.act s.back s.after h few y x.led sent said to
    (subst (λ (l : List Act). AllPairs (λ a b. a.ask ≢ b.ask) l) (ap (λ (z : WorldState). z.acts) s.next) h_after.once))

watched_deliver : (capacity observers : ℕ) (w v : WorldState) (i : ℕ) (o : Option Datagram) → slice_get w.sent i ≡ o → ComesIfSent o w v → Holds capacity w → Holds capacity v → length w.asks ≤ 65536
    → Exact w → Watched observers w → Watched observers v
watched_deliver capacity observers w v i None e is h h_after few x y = subst (Watched observers) (sym is) y
watched_deliver capacity observers w v i (Some d) e is h h_after few x y =
    watched_come capacity observers d w v is h h_after few x y (all_at (λ (z : Datagram). IsSentFor w.asks z z.purpose) w.sent i d h.purposes e)
    (all_at (λ (z : Datagram). IsSaid w.asks w.acts x.led z z.purpose) w.sent i d x.said e)

watched_elsewhere : (capacity observers : ℕ) (from : Endpoint) (bytes : List ℕ) (w v : WorldState) → ComesElsewhere from bytes w v → Watched observers w → Watched observers v
watched_elsewhere capacity observers from bytes w v (comes_elsewhere no_end s) y =
    let places = no_end_place from no_end in
    watched_received capacity observers (from_elsewhere w.moment from bytes) w v s y
    (λ was_treated r is by. first_elsewhere w.asks (w.acts ++ []) y.account from r places.0 places.1 is)
watched_elsewhere capacity observers from bytes w v (skips_end is_one is) y = subst (Watched observers) (sym is) y

-- ---- the client

watched_ask : (observers : ℕ) (a : _) (w v : WorldState) → ClientAsks a w v → Watched observers w → Watched observers v
watched_ask observers a w v (sends_ask n old new t may asks is) y =
    let o : Outstanding = request_for (at_moment w.moment w.client) server_place a asks.id in
    subst (Watched observers) (sym is)
    (watched_sent observers (record w { client = t; asks = w.asks ++ o ∷ [] }) client_place server_place (copy_of (length w.asks)) (take n new ∷ []) (λ b. tt) (watched_asked observers w t o y))
watched_ask observers a w v (refuses_ask f refused is) y = subst (Watched observers) (sym is) (watched_client observers w (at_moment w.moment w.client) w.ends w.taken y)
watched_ask observers a w v (skips_ask may_not is) y = subst (Watched observers) (sym is) y

watched_due : (observers : ℕ) (w v : WorldState) → ClientDoesDue w v → Watched observers w → Watched observers v
watched_due observers w v (retransmits n old new t is_due is) y =
    subst (Watched observers) (sym is)
    (watched_sent observers (record w { client = t }) client_place server_place (copy_of (latest w)) (take n new ∷ []) (λ b. tt) (watched_client observers w t w.ends w.taken y))
watched_due observers w v (gives_up old new t is_due is) y = subst (Watched observers) (sym is) (watched_client observers w t _ w.taken y)
watched_due observers w v (waits old new t is_due is) y = subst (Watched observers) (sym is) (watched_client observers w t w.ends w.taken y)

-- ---- values and notifications

watched_emit : (observers : ℕ) (e : Emission) (w : WorldState) → Watched observers w → Watched observers (with_new_value e w)
watched_emit observers e w y = record {
  account = with_value e.target y.account;
  did = was_emitted y.account w.server.observers (with_emitted e.target w.server).observers e.target y.did refl;
  values = ap (λ (l : List ℕ). l ++ e.target ∷ []) y.values ∙ sym (map-append (λ (x : Emission). x.target) w.emitted (e ∷ []));
  registered = y.registered;
  once = y.once;
  noted = all_noted_account w.asks y.account (with_value e.target y.account) w.sent (λ s has. has) y.noted;
  fresh = y.fresh;
  id = y.id;
}

watched_none : (observers : ℕ) (w : WorldState) (t : Server) → (did : (a : Account) → AccountDid observers a w.server.observers → AccountDid observers a t.observers) → t.next_id < 2 ^ 16 → Watched observers w
    → Watched observers (record w { server = t })
watched_none observers w t did small y = record {
  account = y.account;
  did = did y.account y.did;
  values = y.values;
  registered = y.registered;
  once = y.once;
  noted = y.noted;
  fresh = y.fresh;
  id = small;
}

after_observers : (now : ℕ) (o : Option Notice) (s t : Server) → (sends : SendsNext now o s t) → t.observers ≡ sends.observers
after_observers now o s t sends = ap (λ (z : Server). z.observers) sends.after ∙ at o (with_observers sends.observers s)
  where
    fresh_at : (z : Server) (b : Bool) → (cond b (with_next_id z) z).observers ≡ z.observers
    fresh_at z true = refl
    fresh_at z false = refl

    at : (o : Option Notice) (z : Server) → (with_notification_sent o z).observers ≡ z.observers
    at None z = refl
    at (Some n) z = fresh_at z n.fresh

noted_now : (capacity observers : ℕ) (w : WorldState) (n : Notice) → Holds capacity w → length w.asks ≤ 65536 → (y : Watched observers w)
    → IsKnown w.asks w.acts (record { from = n.to; token = token_of n; target = n.target }) → IsNoted w.asks (account_noticed (Some n) y.account) (purpose_of n w.asks w.emitted)
noted_now capacity observers w n h few y known = elim (cases_Bool (is_same_endpoint n.to client_place)) [
  | inl here ↦
      let to = same_endpoint n.to client_place here in
      let is = known.1 to in
      let s : SentNotification = record { notice = n; place = last_place n.target y.account.emitted } in
      subst (IsNoted w.asks (account_noticed (Some n) y.account)) (sym (purpose_is capacity w n h few to is).purpose) (record {
        request = is.request;
        ask = is.ask;
        notice = s;
        has = Contains-push y.account.sent s;
        to = to;
        token = sym is.token;
        sequence = refl;
        place = ap (λ (l : List ℕ). last_place n.target l) y.values;
      })
  | inr elsewhere_is ↦ subst (IsNoted w.asks (account_noticed (Some n) y.account)) (sym (not_client_purpose n w.asks w.emitted elsewhere_is)) tt
]

watched_noticed : (capacity observers : ℕ) (w : WorldState) (t : Server) (o : Option Notice) → Holds capacity w → length w.asks ≤ 65536 → SendsNext w.moment o w.server t → Watched observers w
    → Watched observers (with_notification o (record w { server = t }))
watched_noticed capacity observers w t None h few sends y =
    watched_none observers w t (λ a did.
    subst (AccountDid observers a) (sym (after_observers w.moment None w.server t sends))
    (was_sent a w.server.observers sends.observers w.moment w.server.next_id None did y.id sends.capacity sends.notifies)) (counter_sends w.moment None w.server t sends y.id) y
watched_noticed capacity observers w t (Some n) h few sends y =
    let goes : IsToRegistered y.account n = notifications_go_to_the_registered observers y.account w.server.observers w.moment w.server.next_id n sends.observers.list y.did y.id sends.notifies in
    let known = All-contains (IsKnown w.asks w.acts) y.account.registered (record { from = n.to; token = token_of n; target = n.target }) y.registered goes.registered in
    let d : Datagram = notification_sent w.moment w.asks w.emitted n in
    let s : SentNotification = record { notice = n; place = last_place n.target y.account.emitted } in
    record {
      account = account_noticed (Some n) y.account;
      did = subst (AccountDid observers (account_noticed (Some n) y.account)) (sym (after_observers w.moment (Some n) w.server t sends))
          (was_sent y.account w.server.observers sends.observers w.moment w.server.next_id (Some n) y.did y.id sends.capacity sends.notifies);
      values = y.values;
      registered = y.registered;
      once = y.once;
      noted = All-push (λ (z : Datagram). IsNoted w.asks (account_noticed (Some n) y.account) z.purpose) w.sent d
          (all_noted_account w.asks y.account (account_noticed (Some n) y.account) w.sent (λ x has. Contains-append_left y.account.sent (s ∷ []) x has) y.noted)
          (noted_now capacity observers w n h few y known);
      fresh = let more = fresh_push y.account.sent s in let before = y.fresh in omega arith;
      id = counter_sends w.moment (Some n) w.server t sends y.id;
    }

-- ---- the moves

pub watched_after : (capacity observers : ℕ) (m : WorldMove) (w v : WorldState) → Plays m w v → Holds capacity w → Holds capacity v → length w.asks ≤ 65536 → Exact w → Watched observers w → Watched observers v
watched_after capacity observers (ask a) w v plays h h_after few x y = watched_ask observers a w v plays y
watched_after capacity observers due w v plays h h_after few x y = watched_due observers w v plays y
watched_after capacity observers (deliver i) w v plays h h_after few x y = watched_deliver capacity observers w v i (slice_get w.sent i) refl plays h h_after few x y
watched_after capacity observers (pass n) w v plays h h_after few x y = subst (Watched observers) (sym plays) (record {
  account = y.account;
  did = y.did;
  values = y.values;
  registered = y.registered;
  once = y.once;
  noted = y.noted;
  fresh = y.fresh;
  id = y.id;
})
watched_after capacity observers (elsewhere from bytes) w v plays h h_after few x y = watched_elsewhere capacity observers from bytes w v plays y
watched_after capacity observers (emit e) w v plays h h_after few x y = subst (Watched observers) (sym plays) (watched_emit observers e w y)
watched_after capacity observers notify w v plays h h_after few x y = subst (Watched observers) (sym plays.next) (watched_noticed capacity observers w plays.after plays.notice h few plays.sends y)

pub watched_at_start : (first_id exchanges observers : ℕ) (w : WorldState) → IsStart first_id exchanges observers w → Watched observers w
watched_at_start first_id exchanges observers w s = record {
  account = no_account;
  did = nothing_done w.server.observers (ap (λ (z : Server). z.observers) s.server);
  values = sym (ap targets_of s.emitted);
  registered = All-nil (IsKnown w.asks w.acts);
  once = λ token. omega arith;
  noted = subst (All (λ d. IsNoted w.asks no_account d.purpose)) (sym s.sent) (All-nil (λ (d : Datagram). IsNoted w.asks no_account d.purpose));
  fresh = omega arith;
  id = let at = ap (λ (z : Server). z.next_id) s.server in omega arith;
}
