-- The client's moves keep `Exact`: its datagrams go to the server, and an answer or a value ends the ask that it is
-- for.
use Rattle.std.proofs.Common.{◌≡◌, ◌⊎◌, ℕ, ◌<◌, ◌≤◌, ◌∙◌, Bool, true, false, cond, Option, Some, None, List, [], ◌∷◌, ◌++◌, map, take, length, inl, inr, refl, sym, ap, subst, arith}
use Rattle.std.specs.Prelude.{All, Contains, slice_get, option_map}
use Rattle.std.specs.Option.{option_to_list}
use Rattle.std.proofs.lemmas.List.Elements.{All-append, All-map, All-nil, All-push, All-weaker, All-same, All-contains}
use Rattle.coap_msg.specs.declared.endpoint.Endpoint.{Endpoint}
use Rattle.coap_msg.specs.declared.message.Type4.{Type4}
use Rattle.coap_msg.specs.declared.message.Type4.TheVariants.{Con, Ack, Rst}
use Rattle.coap_msg.specs.Empty.{empty_message, empty_reply}
use Rattle.coap_msg.specs.Grammar.{CoapMessage, Spells, spelling}
use Rattle.coap_msg.specs.Written.{IsReplied}
use Rattle.coap_msg.proofs.Messages.{at_most_one_message}
use Rattle.coap_msg.proofs.FaultLaws.{no_fault_of_message}
use Rattle.coap_client.specs.declared.outstanding.Outstanding.{Outstanding}
use Rattle.coap_client.specs.declared.observation.Observation.{Observation}
use Rattle.coap_client.specs.declared.state.State.{State}
use Rattle.coap_client.specs.declared.meaning.Meaning.TheVariants as meant
use Rattle.coap_client.specs.declared.news.News.{News}
use Rattle.coap_client.specs.declared.news.News.TheVariants as news
use Rattle.coap_client.specs.declared.news.Delivered.{Delivered}
use Rattle.coap_client.specs.Laws.{Did as ClientDid}
use Rattle.coap_client.specs.Answers.{sequence_of, block2_of, takes as is_taken, is_for_request, is_for_observation, meaning, notified}
use Rattle.coap_client.specs.Exchange.{at_moment, Delivers, of_message, of_fault, IsNews, after, valued}
use Rattle.coap_client.proofs.RequestLaws.{last_is_outstanding, ids_differ}
use Rattle.coap_client.proofs.RegistrationLaws.{registration_is_observed}
use Rattle.coap_bind.specs.Server.{is_request}
use Rattle.coap_bind.specs.Writing.{Reply, reply_options, notification}
use Rattle.servient_world.specs.World.{client_place, server_place, Purpose, copy_of, reply_to, notification_for, other, Datagram, Act, answered, observed, reset, AskEnd, Value, WorldState, latest, with_sent, end_by, taken_by}
use Rattle.servient_world.proofs.Places.{at_end}
use Rattle.servient_world.proofs.Holds.{Holds}
use Rattle.servient_world.proofs.Ledger.{Entry, IsEntry, entry_reply}
use Rattle.servient_world.proofs.LedgerLaws.{ledger_asked, first_more_ends}
use Rattle.servient_world.proofs.Exact.{Exact, IsWhy, IsSaid, IsSentBack, IsNotification, IsEnd, kept_asked, said_asked, same_ask}
use Rattle.servient_world.proofs.MeaningLaws.{taken_id, answer_taken, value_taken, no_value_unless, no_value_without, notification_number, notification_no_answer, for_request_else, request_token, observation_token, for_both, latest_or_observed, ended_registration}

-- ---- places

pub not_one : server_place ≡ client_place → ⊥
not_one e = let host : server_place.host ≡ client_place.host = ap (λ (x : Endpoint). x.host) e in omega arith

-- ---- the client sends

pub said_sent : (w : WorldState) (led : List Entry) (from to : Endpoint) (p : Purpose) (said : List (List ℕ)) → All (λ d. IsSaid w.asks w.acts led d d.purpose) w.sent
    → All (λ bytes. IsSaid w.asks w.acts led (record { moment = w.moment; from = from; to = to; bytes = bytes; purpose = p }) p) said
    → All (λ d. IsSaid w.asks w.acts led d d.purpose) (with_sent w from to p said).sent
said_sent w led from to p said all new =
    let one : List ℕ → Datagram = λ bytes. record { moment = w.moment; from = from; to = to; bytes = bytes; purpose = p } in
    All-append (λ (d : Datagram). IsSaid w.asks w.acts led d d.purpose) w.sent (map one said) all
    (All-map (λ (d : Datagram). IsSaid w.asks w.acts led d d.purpose) one said new)

pub exact_asked : (w : WorldState) (t : State) (o : Outstanding) (bytes : List ℕ) → o.first ≡ w.moment → Exact w
    → Exact (with_sent (record w { client = t; asks = w.asks ++ o ∷ [] }) client_place server_place (copy_of (length w.asks)) (bytes ∷ []))
exact_asked w t o bytes now x =
    let mid : WorldState = record w { client = t; asks = w.asks ++ o ∷ [] } in
    record {
      led = x.led;
      ledger = ledger_asked x.led w.asks w.acts w.server w.moment o now x.ledger;
      given = x.given;
      joins = x.joins;
      fed = x.fed;
      first = x.first;
      kept = kept_asked w.asks (o ∷ []) x.led w.server.exchanges.exchanges x.kept;
      said = said_sent mid x.led client_place server_place (copy_of (length w.asks)) (bytes ∷ []) (said_asked w.asks (o ∷ []) w.acts x.led w.sent x.said) (λ i d within. not_one);
      ended = x.ended;
    }

pub exact_copied : (w : WorldState) (t : State) (k : ℕ) (bytes : List ℕ) → Exact w → Exact (with_sent (record w { client = t }) client_place server_place (copy_of k) (bytes ∷ []))
exact_copied w t k bytes x = record {
  led = x.led;
  ledger = x.ledger;
  given = x.given;
  joins = x.joins;
  fed = x.fed;
  first = x.first;
  kept = x.kept;
  said = said_sent (record w { client = t }) x.led client_place server_place (copy_of k) (bytes ∷ []) x.said (λ i d within. not_one);
  ended = x.ended;
}

-- the client alone changed, and these are the ends of asks
pub exact_client : (w : WorldState) (t : State) (more : List AskEnd) (taken : List Value) → (x : Exact w) → All (λ e. IsEnd w.acts x.led e.ask e.end) more → All (λ (e : AskEnd). e.ask ≡ latest w) more
    → Exact (record w { client = t; ends = w.ends ++ more; taken = taken })
exact_client w t more taken x ended latest_ones = record {
  led = x.led;
  ledger = x.ledger;
  given = x.given;
  joins = x.joins;
  fed = x.fed;
  first = first_more_ends x.led w.asks w.acts w.server.links w.ends more x.ledger.entries latest_ones x.first;
  kept = x.kept;
  said = x.said;
  ended = All-append (λ (e : AskEnd). IsEnd w.acts x.led e.ask e.end) w.ends more x.ended ended;
}

pub exact_same : (w : WorldState) (t : State) → Exact w → Exact (record w { client = t })
exact_same w t x = record { led = x.led; ledger = x.ledger; given = x.given; joins = x.joins; fed = x.fed; first = x.first; kept = x.kept; said = x.said; ended = x.ended }

-- it isn't acknowledged
silent_to : (id : ℕ) (b : Bool) (kind : Type4) (x : Option ℕ) (old new : List ℕ) → kind ≡ Ack → IsReplied (empty_reply kind id b) x old new → x ≡ None
silent_to id b kind x old new is replied = none x (subst (λ (k : Type4). IsReplied (empty_reply k id b) x old new) is replied)
  where
    none : (y : Option ℕ) → IsReplied None y old new → y ≡ None
    none None h = refl
    none (Some n) h = absurd h

end_right : (acts : List Act) (led : List Entry) (x y : Option Outstanding) (k : ℕ) (n : News)
    → ((code : ℕ) (block payload : _) (o : Outstanding) → n ≡ news.Answered code block payload → x ≡ Some o → IsEnd acts led k (answered code block payload.now))
    → ((payload : _) (o : Outstanding) → n ≡ news.Value payload → x ≡ Some o → y ≡ None → IsEnd acts led k observed)
    → All (λ e. IsEnd acts led e.ask e.end) (end_by x y k n)
end_right acts led (Some o) None k (news.Answered code block payload) each shown =
    All-push (λ (e : AskEnd). IsEnd acts led e.ask e.end) [] (record { ask = k; end = answered code block payload.now }) (All-nil (λ (e : AskEnd). IsEnd acts led e.ask e.end)) (each code block payload o refl refl)
end_right acts led (Some o) None k (news.Value payload) each shown =
    All-push (λ (e : AskEnd). IsEnd acts led e.ask e.end) [] (record { ask = k; end = observed }) (All-nil (λ (e : AskEnd). IsEnd acts led e.ask e.end)) (shown payload o refl refl refl)
end_right acts led (Some o) None k news.Reset each shown =
    All-push (λ (e : AskEnd). IsEnd acts led e.ask e.end) [] (record { ask = k; end = reset }) (All-nil (λ (e : AskEnd). IsEnd acts led e.ask e.end)) tt
end_right acts led (Some o) None k news.Old each shown = All-nil (λ (e : AskEnd). IsEnd acts led e.ask e.end)
end_right acts led (Some o) None k news.Nothing each shown = All-nil (λ (e : AskEnd). IsEnd acts led e.ask e.end)
end_right acts led (Some o) (Some p) k what each shown = All-nil (λ (e : AskEnd). IsEnd acts led e.ask e.end)
end_right acts led None after k what each shown = All-nil (λ (e : AskEnd). IsEnd acts led e.ask e.end)

-- an ask that ends is the latest
latest_ends : (x y : Option Outstanding) (k : ℕ) (n : News) → All (λ (e : AskEnd). e.ask ≡ k) (end_by x y k n)
latest_ends (Some o) None k (news.Answered code block payload) = All-push (λ (e : AskEnd). e.ask ≡ k) [] (record { ask = k; end = answered code block payload.now }) (All-nil (λ (e : AskEnd). e.ask ≡ k)) refl
latest_ends (Some o) None k (news.Value payload) = All-push (λ (e : AskEnd). e.ask ≡ k) [] (record { ask = k; end = observed }) (All-nil (λ (e : AskEnd). e.ask ≡ k)) refl
latest_ends (Some o) None k news.Reset = All-push (λ (e : AskEnd). e.ask ≡ k) [] (record { ask = k; end = reset }) (All-nil (λ (e : AskEnd). e.ask ≡ k)) refl
latest_ends (Some o) None k news.Old = All-nil (λ (e : AskEnd). e.ask ≡ k)
latest_ends (Some o) None k news.Nothing = All-nil (λ (e : AskEnd). e.ask ≡ k)
latest_ends (Some o) (Some p) k what = All-nil (λ (e : AskEnd). e.ask ≡ k)
latest_ends None after k what = All-nil (λ (e : AskEnd). e.ask ≡ k)

-- a datagram that comes to the client is a reply to an ask, or a notification
pub for_client : (w : WorldState) (led : List Entry) (d : Datagram) (p : Purpose) → IsSaid w.asks w.acts led d p → d.to ≡ client_place
    → (k : ℕ) × (IsSentBack w.asks led k d ⊎ ((q : ℕ) × IsNotification w.asks w.acts k q d))
for_client w led d (copy_of k) is to = absurd (is to)
for_client w led d (reply_to k) is to = (k, inl is)
for_client w led d (notification_for k q e) is to = (k, inr (q, is))
for_client w led d other is to = absurd (is.0 to)

-- the act of a reply with Observe
act_of_reply : (asks : List Outstanding) (acts : List Act) (links : List ℕ) (led : List Entry) (k : ℕ) (r : Reply) → All (IsEntry asks acts links) led → IsWhy led k r → (sequence_of (reply_options r) ≡ None → ⊥)
    → (x : Act) × Contains acts x × (x.ask ≡ k)
act_of_reply asks acts links led k r entries (inl full) some = absurd (some (ap (λ (x : Reply). sequence_of (reply_options x)) full))
act_of_reply asks acts links led k r entries (inr x) some = elim (entry_reply asks acts links x.0 (All-contains (IsEntry asks acts links) led x.0 entries x.1)) [
  | inl act ↦ (act.act, act.made, act.for_it ∙ x.2)
  | inr silent ↦ absurd (some (ap (λ (y : Reply). sequence_of (reply_options y)) x.3 ∙ silent.silent))
]

pub exact_taken : (capacity : ℕ) (d : Datagram) (w : WorldState) (told : Delivered) (old new : List ℕ) (t : State) → Holds capacity w → length w.asks ≤ 65536 → (x : Exact w)
    → (k : ℕ) → IsSentBack w.asks x.led k d → Delivers (at_moment w.moment w.client) d.from d.bytes told old new t
    → Exact (with_sent (record w { client = t; ends = w.ends ++ end_by w.client.outstanding t.outstanding (latest w) told.news; taken = w.taken ++ taken_by d.purpose told.news })
    client_place d.from other (option_to_list (option_map (λ n. take n new) told.reply)))
exact_taken capacity d w told old new t h few x k sent (of_message m spells reply news_is after_is) =
    let right = sent.reply in
    let s : State = at_moment w.moment w.client in
    let one : m ≡ right.answer = at_most_one_message m right.answer d.bytes spells right.spells in
    let kind : m.kind ≡ Ack = ap (λ (y : CoapMessage). y.kind) one ∙ right.kind in
    let silent : told.reply ≡ None = silent_to m.id _ m.kind told.reply old new kind reply in
    let none : option_to_list (option_map (λ n. take n new) told.reply) ≡ [] = ap (λ (y : Option ℕ). option_to_list (option_map (λ n. take n new) y)) silent in
    let ends : List AskEnd = end_by w.client.outstanding t.outstanding (latest w) told.news in
    let mid : WorldState = record w { client = t; ends = w.ends ++ ends; taken = w.taken ++ taken_by d.purpose told.news } in
    let which : (o : Outstanding) → is_taken s d.from m ≡ true → w.client.outstanding ≡ Some o → k ≡ latest w = λ o taken o_is.
    let id : m.id ≡ o.id = taken_id (at_moment w.moment w.client) d.from m o taken kind o_is in
    let last = last_is_outstanding w.asks w.client o h.did o_is in
    let ids : right.request.id ≡ last.1.id = sym right.id ∙ (sym (ap (λ (y : CoapMessage). y.id) one) ∙ (id ∙ sym last.3.id)) in
    same_ask w.asks k (latest w) right.request last.1 (ids_differ w.asks w.client h.did few) right.ask (at_end w.asks last.0 last.1 last.2) ids
    in
    let new_ends : All (λ e. IsEnd w.acts x.led e.ask e.end) (end_by w.client.outstanding t.outstanding (latest w) told.news)
    = end_right w.acts x.led w.client.outstanding t.outstanding (latest w) told.news (λ code block payload o n_is o_is.
    let says : IsNews (meaning (at_moment w.moment w.client) d.from m) m (news.Answered code block payload)
    = subst (λ (n : News). IsNews (meaning (at_moment w.moment w.client) d.from m) m n) n_is news_is in (
      right.reply,
      subst (λ (n : ℕ). IsWhy x.led n right.reply) (which o (answer_taken (at_moment w.moment w.client) d.from m says.0) o_is) right.why,
      says.1 ∙ (ap (λ (y : CoapMessage). y.code) one ∙ right.code),
      says.2 ∙ ap block2_of (ap (λ (y : CoapMessage). y.options) one ∙ right.options),
      says.3 ∙ (ap (λ (y : CoapMessage). y.payload) one ∙ right.payload),
    )) (λ payload o n_is o_is t_is.
    let says : IsNews (meaning (at_moment w.moment w.client) d.from m) m (news.Value payload)
    = subst (λ (n : News). IsNews (meaning (at_moment w.moment w.client) d.from m) m n) n_is news_is in
    let act = act_of_reply w.asks w.acts w.server.links x.led k right.reply x.ledger.entries right.why (λ unseen.
    no_value_without (at_moment w.moment w.client) d.from m says.0 (ap (λ (y : CoapMessage). sequence_of y.options) one ∙ (ap sequence_of right.options ∙ unseen)) says.1) in
    (act.0, act.1, act.2 ∙ which o (value_taken (at_moment w.moment w.client) d.from m says.0 says.1) o_is)) in
    let at_end_of = latest_ends w.client.outstanding t.outstanding (latest w) told.news in
    record {
      led = x.led;
      ledger = x.ledger;
      given = x.given;
      joins = x.joins;
      fed = x.fed;
      first = first_more_ends x.led w.asks w.acts w.server.links w.ends ends x.ledger.entries at_end_of x.first;
      kept = x.kept;
      said = said_sent mid x.led client_place d.from other (option_to_list (option_map (λ n. take n new) told.reply)) x.said
          (All-same (λ (bytes : List ℕ). IsSaid w.asks w.acts x.led (record { moment = w.moment; from = client_place; to = d.from; bytes = bytes; purpose = other }) other)
          (option_to_list (option_map (λ n. take n new) told.reply)) [] none (All-nil (λ (bytes : List ℕ). _)));
      ended = All-append (λ (e : AskEnd). IsEnd w.acts x.led e.ask e.end) w.ends ends x.ended new_ends;
    }
exact_taken capacity d w told old new t h few x k sent (of_fault f has reply news_is same) =
    absurd (no_fault_of_message f sent.reply.answer d.bytes sent.reply.spells has)

-- ---- the client takes a notification

-- bytes of an empty message
abbrev AreEmpty : List ℕ → Type 0
AreEmpty bytes = (m : CoapMessage) × Spells m bytes × ((m.kind ≡ Ack) ⊎ (m.kind ≡ Rst)) × (is_request m ≡ false)

empty_spells : (kind : Type4) (id : ℕ) (bytes : List ℕ) → id < 65536 → bytes ≡ spelling (empty_message kind id) → Spells (empty_message kind id) bytes
empty_spells kind id bytes small is = record {
  bounds = record {
    code = omega arith;
    class = inl refl;
    id = small;
    token = omega arith;
    options = tt;
    empty = λ e. record { token = refl; options = refl; payload = refl };
  };
  bytes_are = is;
}

empty_at : (b : Bool) (id : ℕ) (bytes : List ℕ) → id < 65536 → bytes ≡ spelling (empty_message (cond b Ack Rst) id) → AreEmpty bytes
empty_at true id bytes small is = (empty_message Ack id, empty_spells Ack id bytes small is, inl refl, refl)
empty_at false id bytes small is = (empty_message Rst id, empty_spells Rst id bytes small is, inr refl, refl)

empty_back : (id : ℕ) (b : Bool) (kind : Type4) (x : Option ℕ) (old new : List ℕ) → kind ≡ Con → id < 65536 → IsReplied (empty_reply kind id b) x old new
    → All AreEmpty (option_to_list (option_map (λ n. take n new) x))
empty_back id b kind x old new is small replied = written x (subst (λ (k : Type4). IsReplied (empty_reply k id b) x old new) is replied)
  where
    written : (y : Option ℕ) → IsReplied (empty_reply Con id b) y old new → All AreEmpty (option_to_list (option_map (λ n. take n new) y))
    written None h = absurd h
    written (Some n) h = All-push AreEmpty [] (take n new) (All-nil AreEmpty) (empty_at b id (take n new) small h.front)

never_answers : (w : WorldState) (o : Outstanding) (from : Endpoint) (m : CoapMessage) (k : ℕ) (request : Outstanding) (q : ℕ) → ClientDid w.asks w.client → length w.asks ≤ 65536
    → w.client.outstanding ≡ Some o → slice_get w.asks k ≡ Some request → request.registers ≡ true → m.token ≡ request.token
    → ((c : Bool) → is_for_observation w.client.observation from m.token ≡ c → notified (at_moment w.moment w.client) from m ≡ cond c (Some q) None)
    → meaning (at_moment w.moment w.client) from m ≡ meant.Response → (b : Bool) → is_for_observation w.client.observation from m.token ≡ b → ⊥
never_answers w o from m k request q did few o_is at registers_it token number e true is = notification_no_answer (at_moment w.moment w.client) from m q (number true is) e
never_answers w o from m k request q did few o_is at registers_it token number e false is =
    let taken = answer_taken (at_moment w.moment w.client) from m e in
    let asked_for : is_for_request (Some o) from m.token ≡ true
    = subst (λ (y : Option Outstanding). is_for_request y from m.token ≡ true) o_is (for_request_else (at_moment w.moment w.client) from m taken is) in
    let same : request.token ≡ o.token = sym token ∙ request_token o from m.token asked_for in
    elim (latest_or_observed w.asks w.client o k request did few o_is at registers_it same) [
      | inl here ↦
          let yes_it : is_for_observation w.client.observation from m.token ≡ true = for_both w.client o from m.token (registration_is_observed w.asks w.client o did o_is here.1) asked_for in
          absurd (cc)
      | inr observed_as ↦
          let yes_it : is_for_observation w.client.observation from m.token ≡ true = for_both w.client o from m.token observed_as.0 asked_for in
          absurd (cc)
    ]

is_observed : (s : State) (from : Endpoint) (m : CoapMessage) (q : ℕ) → ((c : Bool) → is_for_observation s.observation from m.token ≡ c → notified s from m ≡ cond c (Some q) None)
    → (v : ℕ) → meaning s from m ≡ meant.Value v → (b : Bool) → is_for_observation s.observation from m.token ≡ b → b ≡ true
is_observed s from m q number v e true is = refl
is_observed s from m q number v e false is = absurd (no_value_unless s from m v (number false is) e)

pub exact_noticed : (capacity : ℕ) (d : Datagram) (w : WorldState) (told : Delivered) (old new : List ℕ) (t : State) → Holds capacity w → length w.asks ≤ 65536 → (x : Exact w)
    → (k q : ℕ) → IsNotification w.asks w.acts k q d → Delivers (at_moment w.moment w.client) d.from d.bytes told old new t
    → Exact (with_sent (record w { client = t; ends = w.ends ++ end_by w.client.outstanding t.outstanding (latest w) told.news; taken = w.taken ++ taken_by d.purpose told.news })
    client_place d.from other (option_to_list (option_map (λ n. take n new) told.reply)))
exact_noticed capacity d w told old new t h few x k q n_of (of_message m spells reply news_is after_is) =
    let s : State = at_moment w.moment w.client in
    let one : m ≡ notification n_of.notice n_of.value = at_most_one_message m (notification n_of.notice n_of.value) d.bytes spells n_of.spells in
    let kind : m.kind ≡ Con = ap (λ (y : CoapMessage). y.kind) one in
    let token : m.token ≡ n_of.request.token = ap (λ (y : CoapMessage). y.token) one ∙ n_of.token in
    let number : (b : Bool) → is_for_observation w.client.observation d.from m.token ≡ b → notified (at_moment w.moment w.client) d.from m ≡ cond b (Some q) None = λ b is.
    ap (notified (at_moment w.moment w.client) d.from) one
    ∙ (notification_number (at_moment w.moment w.client) d.from n_of.notice n_of.value b
    (ap (λ (y : CoapMessage). is_for_observation w.client.observation d.from y.token) (sym one) ∙ is) n_of.low
    ∙ ap (λ (y : ℕ). cond b (Some y) None) n_of.number)
    in
    let ends : List AskEnd = end_by w.client.outstanding t.outstanding (latest w) told.news in
    let mid : WorldState = record w { client = t; ends = w.ends ++ ends; taken = w.taken ++ taken_by d.purpose told.news } in
    let new_ends : All (λ e. IsEnd w.acts x.led e.ask e.end) (end_by w.client.outstanding t.outstanding (latest w) told.news)
    = end_right w.acts x.led w.client.outstanding t.outstanding (latest w) told.news (λ code block payload o n_is o_is.
    let says : IsNews (meaning (at_moment w.moment w.client) d.from m) m (news.Answered code block payload)
    = subst (λ (n : News). IsNews (meaning (at_moment w.moment w.client) d.from m) m n) n_is news_is in
    absurd (never_answers w o d.from m k n_of.request q h.did few o_is n_of.ask n_of.registers token number says.0 (is_for_observation w.client.observation d.from m.token) refl)) (λ payload o n_is o_is t_is.
    let says : IsNews (meaning (at_moment w.moment w.client) d.from m) m (news.Value payload)
    = subst (λ (n : News). IsNews (meaning (at_moment w.moment w.client) d.from m) m n) n_is news_is in
    let next : t ≡ valued (at_moment w.moment w.client) says.0 = after_is ∙ ap (after (at_moment w.moment w.client) d.from m.token) says.1 in
    let reg : o.registers ≡ true = ended_registration w.client.outstanding o o_is (sym (ap (λ (y : State). y.outstanding) next) ∙ t_is) in
    let observed_as = registration_is_observed w.asks w.client o h.did o_is reg in
    let for_it : is_for_observation w.client.observation d.from m.token ≡ true = is_observed (at_moment w.moment w.client) d.from m q number says.0 says.1 (is_for_observation w.client.observation d.from m.token) refl in
    let same : m.token ≡ o.token = observation_token observed_as.observation d.from m.token (subst (λ (y : Option Observation). is_for_observation y d.from m.token ≡ true) observed_as.is for_it) ∙ observed_as.token in
    elim (latest_or_observed w.asks w.client o k n_of.request h.did few o_is n_of.ask n_of.registers (sym token ∙ same)) [
      | inl here ↦ (n_of.act, n_of.made, n_of.for_it ∙ here.0)
      | inr elsewhere_is ↦ absurd (let no_one : o.registers ≡ false = elsewhere_is.1 in cc)
    ]) in
    let at_end_of = latest_ends w.client.outstanding t.outstanding (latest w) told.news in
    let small : m.id < 65536 = spells.bounds.id in
    record {
      led = x.led;
      ledger = x.ledger;
      given = x.given;
      joins = x.joins;
      fed = x.fed;
      first = first_more_ends x.led w.asks w.acts w.server.links w.ends ends x.ledger.entries at_end_of x.first;
      kept = x.kept;
      said = said_sent mid x.led client_place d.from other (option_to_list (option_map (λ n. take n new) told.reply)) x.said
          (All-weaker AreEmpty (λ (bytes : List ℕ). IsSaid w.asks w.acts x.led (record { moment = w.moment; from = client_place; to = d.from; bytes = bytes; purpose = other }) other)
          (λ bytes e. ((λ to. not_one (sym n_of.from ∙ to)), inr (record { message = e.0; spells = e.1; kind = e.2; no_request = e.3 })))
          (option_to_list (option_map (λ n. take n new) told.reply)) (empty_back m.id _ m.kind told.reply old new kind small reply));
      ended = All-append (λ (e : AskEnd). IsEnd w.acts x.led e.ask e.end) w.ends ends x.ended new_ends;
    }
exact_noticed capacity d w told old new t h few x k q n_of (of_fault f has reply news_is same) =
    absurd (no_fault_of_message f _ d.bytes n_of.spells has)
