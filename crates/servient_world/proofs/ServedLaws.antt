-- The facts on asks and on datagrams stay so while the server takes a datagram.
use Rattle.std.proofs.Common.{◌≡◌, ◌≢◌, ℕ, ◌+◌, ◌-◌, ◌<◌, ◌≤◌, ◌^◌, ◌∙◌, Bool, true, false, Option, Some, None, List, [], ◌∷◌, ◌++◌, length, get_or, inl, inr, refl, sym, ap, subst, arith}
use Rattle.std.specs.Prelude.{All, AllPairs, find, if◌then◌else◌}
use Rattle.std.proofs.lemmas.Bool.{cases_Bool}
use Rattle.std.proofs.lemmas.List.{append-nil, length_push, get_or_append_left, get_or_push}
use Rattle.std.proofs.lemmas.List.Elements.{All-nil, All-push, All-weaker, All-same, All-contains}
use Rattle.std.proofs.lemmas.List.Quantifiers.{all_pairs_push}
use Rattle.coap_msg.specs.declared.endpoint.Endpoint.{Endpoint}
use Rattle.coap_msg.specs.Endpoints.{is_same_endpoint}
use Rattle.coap_msg.specs.Grammar.{CoapMessage, Spells}
use Rattle.coap_msg.proofs.SameEndpoints.{same_endpoint}
use Rattle.coap_exchange.specs.Admission.{Arrival}
use Rattle.coap_exchange.specs.Table.{Exchange, Table, at_moment as later}
use Rattle.coap_client.proofs.RequestLaws.{ids_differ}
use Rattle.coap_observe.specs.declared.observer.Observer.{Observer}
use Rattle.coap_observe.specs.declared.notice.Notice.{Notice}
use Rattle.coap_observe.specs.Watching.{is_pair}
use Rattle.coap_observe.specs.Accounts.{IsToRegistered, token_of}
use Rattle.coap_observe.proofs.AccountLaws.{observer_registered, notifications_go_to_the_registered}
use Rattle.coap_bind.specs.declared.server.Server.{Server}
use Rattle.coap_bind.specs.Server.{with_next_id, with_observers, with_notification_sent, SendsNext}
use Rattle.coap_bind.specs.Laws.{Did as ServerDid, sent as server_sent}
use Rattle.coap_bind.specs.Writing.{notification}
use Rattle.coap_bind.specs.Treating.{Acted, Treats}
use Rattle.coap_bind.proofs.HistoryLaws.{sent_stays}
use Rattle.coap_bind.proofs.MessageLaws.{notifications_are_messages}
use Rattle.coap_bind.proofs.TreatingLaws.{all_are_treated}
use Rattle.servient_world.specs.declared.network.TheConstants.{MAX_LATENCY}
use Rattle.servient_world.specs.World.{Emission, client_place, server_place, Purpose, copy_of, reply_to, notification_for, other, Datagram, Act, End, answered, observed, reset, timed_out, AskEnd, WorldState, with_sent, Receives, too_long, treated, id_used, acts_for, purpose_back, ServerTakes, last_value, purpose_of, notification_sent, with_notification}
use Rattle.servient_world.specs.Led.{Led, to_refusal, to_no_memory, to_links, to_later_block, to_parts, to_act, to_act_on_whole, LeadsTo, Leaves, IsPassedOver, IsLed}
use Rattle.servient_world.proofs.AskLaws.{HasMessage}
use Rattle.servient_world.proofs.LedLaws.{all_are_led}
use Rattle.servient_world.proofs.Holds.{Holds, IsCopy, IsSentFor, no_acts}
use Rattle.servient_world.proofs.Ledger.{Entry, IsFed, AreFed, IsTurnedAway, ComesFirst, Ledger}
use Rattle.servient_world.proofs.LedgerLaws.{ledger_served, did_treated, entry_of, ledger_admitted, fed_push, turned_away}
use Rattle.servient_world.proofs.Given.{Given, given_stays, given_elsewhere, given_admits, given_for}
use Rattle.servient_world.proofs.Joins.{Joins, joins_same, joins_elsewhere, joins_admits, whole_for}
use Rattle.servient_world.proofs.WatchLaws.{IsKnown, Watched, none_registered}
use Rattle.servient_world.proofs.Exact.{Exact, IsReply, IsKept, IsSaid, IsSentBack, IsEnd, said_later, all_ends_more}
use Rattle.servient_world.proofs.KeptReplies.{IsRight, no_request_of, nothing_back, led_reply, right_copy, kept_elsewhere}
use Rattle.servient_world.proofs.ClientLaws.{not_one, said_sent}
use Rattle.servient_world.proofs.NotificationLaws.{purpose_is, not_client_purpose, not_place}

-- ---- the server takes something

-- nothing is admitted for an ask, and this is sent back
exact_over : (w : WorldState) (t : Server) (more : List Act) (n : ℕ) (to : Endpoint) (q : Purpose) (back : List (List ℕ)) → more ≡ [] → (x : Exact w) → Ledger x.led w.asks w.acts t w.moment → Given x.led t → Joins x.led t
    → t.links ≡ w.server.links → All (IsKept w.asks x.led) t.exchanges.exchanges
    → All (λ (bytes : List ℕ). IsSaid w.asks w.acts x.led (record { moment = w.moment; from = server_place; to = to; bytes = bytes; purpose = q }) q) back
    → Exact (with_sent (record w { server = t; acts = w.acts ++ more; ids = n }) server_place to q back)
exact_over w t more n to q back none x ledger given joins links kept said =
    subst (λ (l : List Act). Exact (with_sent (record w { server = t; acts = l; ids = n }) server_place to q back)) (sym (ap (λ (l : List Act). w.acts ++ l) none ∙ append-nil w.acts)) (record {
      led = x.led;
      ledger = ledger;
      given = given;
      joins = joins;
      fed = subst (λ (text : List ℕ). AreFed text x.led) (sym links) x.fed;
      first = x.first;
      kept = kept;
      said = said_sent (record w { server = t; ids = n }) x.led server_place to q back x.said said;
      ended = x.ended;
    })

-- the server is as it was
pub exact_silent : (w : WorldState) (t : Server) (more : List Act) (n : ℕ) (to : Endpoint) (q : Purpose) (back : List (List ℕ)) → more ≡ [] → t ≡ w.server → back ≡ [] → Exact w
    → Exact (with_sent (record w { server = t; acts = w.acts ++ more; ids = n }) server_place to q back)
exact_silent w t more n to q back none same nothing x =
    exact_over w t more n to q back none x (subst (λ (z : Server). Ledger x.led w.asks w.acts z w.moment) (sym same) x.ledger) (subst (Given x.led) (sym same) x.given) (subst (Joins x.led) (sym same) x.joins)
    (ap (λ (z : Server). z.links) same) (subst (λ (z : Server). All (IsKept w.asks x.led) z.exchanges.exchanges) (sym same) x.kept)
    (All-same (λ (bytes : List ℕ). IsSaid w.asks w.acts x.led (record { moment = w.moment; from = server_place; to = to; bytes = bytes; purpose = q }) q) back [] nothing (All-nil (λ (bytes : List ℕ). _)))

-- facts on the server afterwards, where nothing is admitted for an ask
record Over (w : WorldState) (led : List Entry) (t : Server) : Type 0 where
  ledger : Ledger led w.asks w.acts t w.moment
  given : Given led t
  joins : Joins led t
  links : t.links ≡ w.server.links

over_passed : (w : WorldState) (x : Exact w) (from : Endpoint) (bytes : List ℕ) (act : Option Acted) (back : List (List ℕ)) (t : Server) → Treats from bytes w.moment act back w.server t
    → IsPassedOver bytes w.moment act w.server t → Over w x.led t
over_passed w x from bytes act back t treats over =
    let goes = did_treated x.ledger.capacity x.ledger.history from bytes w.moment act back w.server t x.ledger.served x.ledger.early treats in
    record {
      ledger = ledger_served x.led w.asks w.acts w.server t w.moment goes.0 x.ledger goes.2 goes.3 over.links;
      given = given_stays x.led w.server t over.same.bodies over.links x.given;
      joins = joins_same x.led w.server t over.same.parts x.joins;
      links = over.links;
    }

over_elsewhere : (w : WorldState) (x : Exact w) (from : Endpoint) (bytes : List ℕ) (act : Option Acted) (back : List (List ℕ)) (t : Server) → (from ≡ client_place → ⊥) → Treats from bytes w.moment act back w.server t
    → Over w x.led t
over_elsewhere w x from bytes act back t away treats = elim (all_are_led from bytes w.moment act back w.server t treats) [
  | inl over ↦ over_passed w x from bytes act back t treats over
  | inr led ↦
      let goes = did_treated x.ledger.capacity x.ledger.history from bytes w.moment act back w.server t x.ledger.served x.ledger.early treats in
      record {
        ledger = ledger_served x.led w.asks w.acts w.server t w.moment goes.0 x.ledger goes.2 goes.3 led.links;
        given = given_elsewhere x.led from w.moment led.message led.led w.server t away led.links led.leaves x.given;
        joins = joins_elsewhere x.led from w.moment led.message w.server.links led.seen led.led led.reply w.server t away led.leads led.leaves x.joins;
        links = led.links;
      }
]

-- an entry comes of the bodies that those before left
fed_for : (led : List Entry) (now : ℕ) (m : CoapMessage) (l : Led) (s t : Server) → Leaves client_place now m l s t → Given led s → Joins led s → IsFed s.links led l
fed_for led now m to_refusal s t leaves g j = tt
fed_for led now m to_no_memory s t leaves g j = tt
fed_for led now m to_links s t leaves g j = tt
fed_for led now m (to_later_block path b found) s t leaves g j = given_for led s path now found leaves.0 g
fed_for led now m (to_parts a added) s t leaves g j = tt
fed_for led now m (to_act a) s t leaves g j = tt
fed_for led now m (to_act_on_whole b a) s t leaves g j = whole_for led now m b a.what.request.body s t leaves.0 leaves.1 j

-- an ask that led to nothing before, and ended with a response, was turned away
ended_before : (acts : List Act) (led : List Entry) (k : ℕ) (e : End) → IsEnd acts led k e → All (λ (y : Entry). y.ask ≢ k) led → IsTurnedAway e
ended_before acts led k (answered code block payload) is none = turned_away led k is.0 code is.2 is.1 none
ended_before acts led k observed is none = tt
ended_before acts led k reset is none = tt
ended_before acts led k timed_out is none = tt

last_once : (led : List Entry) (e : Entry) → AllPairs (λ (y z : Entry). y.ask ≢ z.ask) (led ++ e ∷ []) → All (λ (y : Entry). y.ask ≢ e.ask) led
last_once led e once = λ i d within.
    let count = length_push led e in
    let pair = once i (length led) d within (omega arith) in
    subst (λ (z : Entry). (get_or led i d).ask ≢ z.ask) (get_or_push led e d (length led) refl)
    (subst (λ (z : Entry). z.ask ≢ (get_or (led ++ e ∷ []) (length led) d).ask) (get_or_append_left led (e ∷ []) d i within) pair)

-- a copy of an ask is admitted: there is an entry more
exact_led : (w : WorldState) (d : Datagram) (k : ℕ) (act : Option Acted) (back : List (List ℕ)) (t : Server) (n : ℕ) → (x : Exact w) → (copy : IsCopy w.asks d k) → All HasMessage w.asks → d.moment ≤ w.moment
    → w.moment - d.moment ≤ MAX_LATENCY → Treats d.from d.bytes w.moment act back w.server t → (l : IsLed d.from d.bytes w.moment act back w.server t)
    → IsRight w.asks (x.led ++ entry_of k l.led l.reply ∷ []) k back t.exchanges.exchanges
    → Exact (with_sent (record w { server = t; acts = w.acts ++ acts_for (copy_of k) act; ids = n }) server_place d.from (reply_to k) back)
exact_led w d k act back t n x copy messages past soon treats l right =
    let e : Entry = entry_of k l.led l.reply in
    let made : List Act = w.acts ++ acts_for (copy_of k) act in
    let mid : WorldState = record w { server = t; acts = made; ids = n } in
    let leads = subst (λ (p : Endpoint). LeadsTo p w.moment l.message w.server.links l.seen l.led l.reply) copy.from l.leads in
    let leaves = subst (λ (p : Endpoint). Leaves p w.moment l.message l.led w.server t) copy.from l.leaves in
    let ledger = ledger_admitted x.led w.asks w.acts w.server t w.moment d k act back x.ledger copy messages past soon treats l in
    record {
      led = x.led ++ e ∷ [];
      ledger = ledger;
      given = given_admits x.led w.moment l.message l.seen e w.server t leads leaves l.links x.given;
      joins = joins_admits x.led w.moment l.message w.server.links l.seen e w.server t leads leaves x.joins;
      fed = subst (λ (text : List ℕ). AreFed text (x.led ++ e ∷ [])) (sym l.links)
          (fed_push w.server.links x.led e x.fed (fed_for x.led w.moment l.message l.led w.server t leaves x.given x.joins));
      first = all_pairs_push (ComesFirst w.ends) x.led e x.first (λ i f within before y has same.
          let is_end = All-contains (λ (z : AskEnd). IsEnd w.acts x.led z.ask z.end) w.ends y x.ended has in
          ended_before w.acts x.led y.ask y.end is_end (subst (λ (a : ℕ). All (λ (z : Entry). z.ask ≢ a) x.led) (sym same) (last_once x.led e ledger.once)));
      kept = right.kept;
      said = said_sent mid (x.led ++ e ∷ []) server_place d.from (reply_to k) back (said_later w.asks w.acts (acts_for (copy_of k) act) x.led (e ∷ []) w.sent x.said)
          (All-weaker (IsReply w.asks (x.led ++ e ∷ []) k) (λ (bytes : List ℕ). IsSentBack w.asks (x.led ++ e ∷ []) k (record { moment = w.moment; from = server_place; to = d.from; bytes = bytes; purpose = reply_to k }))
          (λ bytes reply. record { from = refl; to = copy.from; reply = reply }) back right.replies);
      ended = all_ends_more w.acts (acts_for (copy_of k) act) x.led (e ∷ []) w.ends x.ended;
    }

-- a copy of an ask is passed over
exact_passed : (w : WorldState) (d : Datagram) (k : ℕ) (act : Option Acted) (back : List (List ℕ)) (t : Server) (n : ℕ) → (x : Exact w) → (copy : IsCopy w.asks d k) → Treats d.from d.bytes w.moment act back w.server t
    → IsPassedOver d.bytes w.moment act w.server t → IsRight w.asks (x.led ++ []) k back t.exchanges.exchanges
    → Exact (with_sent (record w { server = t; acts = w.acts ++ acts_for (copy_of k) act; ids = n }) server_place d.from (reply_to k) back)
exact_passed w d k act back t n x copy treats passed right =
    let o = over_passed w x d.from d.bytes act back t treats passed in
    let same : IsRight w.asks x.led k back t.exchanges.exchanges = subst (λ (l : List Entry). IsRight w.asks l k back t.exchanges.exchanges) (append-nil x.led) right in
    exact_over w t (acts_for (copy_of k) act) n d.from (reply_to k) back (no_acts (copy_of k) act passed.act_is) x o.ledger o.given o.joins o.links same.kept
    (All-weaker (IsReply w.asks x.led k) (λ (bytes : List ℕ). IsSentBack w.asks x.led k (record { moment = w.moment; from = server_place; to = d.from; bytes = bytes; purpose = reply_to k }))
    (λ bytes reply. record { from = refl; to = copy.from; reply = reply }) back same.replies)

-- where there is an exchange more, it wasn't passed over
not_passed : (s t : Server) (now : ℕ) (e : Exchange) → t.exchanges ≡ later now s.exchanges → t.exchanges.exchanges ≡ (later now s.exchanges).exchanges ++ e ∷ [] → ⊥
not_passed s t now e same more =
    let one = ap (λ (z : Table). length z.exchanges) same in
    let two = ap (λ (z : List Exchange). length z) more in
    let three = length_push (later now s.exchanges).exchanges e in
    omega arith

exact_treated : (capacity observers : ℕ) (d : Datagram) (w : WorldState) (p : Purpose) (act : Option Acted) (back : List (List ℕ)) (t : Server) (n : ℕ) → Holds capacity w → length w.asks ≤ 65536
    → Watched observers w → (x : Exact w) → IsSentFor w.asks d p → IsSaid w.asks w.acts x.led d p → d.to ≡ server_place → d.moment ≤ w.moment → w.moment - d.moment ≤ MAX_LATENCY
    → AllPairs (λ x y. x.ask ≢ y.ask) (w.acts ++ acts_for p act) → Treats d.from d.bytes w.moment act back w.server t
    → Exact (with_sent (record w { server = t; acts = w.acts ++ acts_for p act; ids = n }) server_place d.from (purpose_back p) back)
exact_treated capacity observers d w (copy_of k) act back t n h few y x copy is to past soon once treats =
    let absent : (a : Acted) (v : Observer) → act ≡ Some a → find (is_pair client_place copy.request.token) w.server.observers.list ≡ Some v → copy.request.registers ≡ true → ⊥
    = λ a v made there reg.
    let last : Act = record { ask = k; acted = a } in
    let differ : AllPairs (λ x y. x.ask ≢ y.ask) (w.acts ++ last ∷ []) = subst (λ (o : Option Acted). AllPairs (λ x y. x.ask ≢ y.ask) (w.acts ++ acts_for (copy_of k) o)) made once in
    let none = none_registered capacity observers w k copy.request last h few y copy.ask reg refl differ in
    let some = observer_registered observers y.account w.server.observers client_place copy.request.token v y.did there in
    omega arith in
    let differ = ids_differ w.asks w.client h.did few in
    let was_treated = all_are_treated d.from d.bytes w.moment act back w.server t treats in
    elim (all_are_led d.from d.bytes w.moment act back w.server t treats) [
      | inl passed ↦
          exact_passed w d k act back t n x copy treats passed
          (right_copy w x.led [] d k act back t copy h.messages differ y.id x.kept (λ m e reply spells request is more. absurd (not_passed w.server t w.moment e (passed.exchanges m spells request) more)) was_treated)
      | inr led ↦
          exact_led w d k act back t n x copy h.messages past soon treats led
          (right_copy w x.led (entry_of k led.led led.reply ∷ []) d k act back t copy h.messages differ y.id x.kept
          (λ m e reply spells request is more. led_reply w x.led d k act back t reply copy h.messages y.id absent led is) was_treated)
    ]
exact_treated capacity observers d w (reply_to k) act back t n h few y x copy is to past soon once treats = absurd (not_one (sym to ∙ is.to))
exact_treated capacity observers d w (notification_for k q e) act back t n h few y x copy is to past soon once treats = absurd (not_one (sym to ∙ is.to))
exact_treated capacity observers d w other act back t n h few y x copy is to past soon once treats = elim is.1 [
  | inl never ↦ absurd (never to)
  | inr empty ↦
      let nothing = nothing_back w x.led d act back t empty x.kept (all_are_treated d.from d.bytes w.moment act back w.server t treats) in
      elim (all_are_led d.from d.bytes w.moment act back w.server t treats) [
        | inl passed ↦
            let o = over_passed w x d.from d.bytes act back t treats passed in
            exact_over w t [] n d.from other back refl x o.ledger o.given o.joins o.links nothing.1
            (All-same (λ (bytes : List ℕ). IsSaid w.asks w.acts x.led (record { moment = w.moment; from = server_place; to = d.from; bytes = bytes; purpose = other }) other) back [] nothing.0
            (All-nil (λ (bytes : List ℕ). _)))
        | inr led ↦ absurd (no_request_of d led.message empty led.met.spells led.met.request)
      ]
]

-- a datagram of another endpoint
pub exact_elsewhere : (w : WorldState) (from : Endpoint) (bytes : List ℕ) (act : Option Acted) (back : List (List ℕ)) (t : Server) (n : ℕ) → Exact w
    → (from ≡ client_place → ⊥) → (from ≡ server_place → ⊥) → Treats from bytes w.moment act back w.server t
    → Exact (with_sent (record w { server = t; acts = w.acts ++ []; ids = n }) server_place from other back)
exact_elsewhere w from bytes act back t n x not_client not_server treats =
    let o = over_elsewhere w x from bytes act back t not_client treats in
    exact_over w t [] n from other back refl x o.ledger o.given o.joins o.links
    (kept_elsewhere w.asks x.led from bytes w.moment act back w.server t not_client x.kept (all_are_treated from bytes w.moment act back w.server t treats))
    (λ i d within. (not_client, inl not_server))

pub exact_received : (capacity observers : ℕ) (d : Datagram) (w v : WorldState) → ServerTakes d w v → Holds capacity w → Holds capacity v → length w.asks ≤ 65536 → Watched observers w → (x : Exact w)
    → IsSentFor w.asks d d.purpose → IsSaid w.asks w.acts x.led d d.purpose → d.to ≡ server_place → d.moment ≤ w.moment → w.moment - d.moment ≤ MAX_LATENCY → Exact v
exact_received capacity observers d w v s h h_after few y x sent said to past soon = subst Exact (sym s.next) (at s.receives)
  where
    at : Receives d.from d.bytes w.moment s.act s.back w.server s.after
        → Exact (with_sent (record w { server = s.after; acts = w.acts ++ acts_for d.purpose s.act; ids = w.ids + id_used w.server s.after }) server_place d.from (purpose_back d.purpose) s.back)
    at (too_long long none nothing same) =
        exact_silent w s.after (acts_for d.purpose s.act) (w.ids + id_used w.server s.after) d.from (purpose_back d.purpose) s.back (no_acts d.purpose s.act none) same nothing x
    at (treated short treats) =
        exact_treated capacity observers d w d.purpose s.act s.back s.after (w.ids + id_used w.server s.after) h few y x sent said to past soon
        (subst (λ (l : List Act). AllPairs (λ x y. x.ask ≢ y.ask) l) (ap (λ (z : WorldState). z.acts) s.next) h_after.once) treats

-- the server changed, but for the exchanges, the bodies, the parts and the links
pub exact_server : (w : WorldState) (t : Server) (emitted : List Emission) → t.exchanges ≡ w.server.exchanges → t.bodies ≡ w.server.bodies → t.parts ≡ w.server.parts → t.links ≡ w.server.links
    → (x : Exact w) → ServerDid x.ledger.capacity x.ledger.history t → Exact (record w { server = t; emitted = emitted })
exact_server w t emitted same bodies parts links x did = record {
  led = x.led;
  ledger = ledger_served x.led w.asks w.acts w.server t w.moment [] x.ledger (subst (λ (l : List Arrival). ServerDid x.ledger.capacity l t) (sym (append-nil x.ledger.history)) did)
      (let before = x.ledger.early in let at = ap (λ (z : Table). z.moment) same in omega arith) links;
  given = given_stays x.led w.server t bodies links x.given;
  joins = joins_same x.led w.server t parts x.joins;
  fed = subst (λ (text : List ℕ). AreFed text x.led) (sym links) x.fed;
  first = x.first;
  kept = subst (λ (z : Table). All (IsKept w.asks x.led) z.exchanges) (sym same) x.kept;
  said = x.said;
  ended = x.ended;
}

-- the notification that is sent
said_notification : (capacity : ℕ) (w : WorldState) (led : List Entry) (n : Notice) → Holds capacity w → length w.asks ≤ 65536 → IsKnown w.asks w.acts (record { from = n.to; token = token_of n; target = n.target })
    → n.sequence < 2 ^ 24 → Spells (notification n (last_value n.target w.emitted)) (notification_sent w.moment w.asks w.emitted n).bytes
    → IsSaid w.asks w.acts led (notification_sent w.moment w.asks w.emitted n) (purpose_of n w.asks w.emitted)
said_notification capacity w led n h few known low spells = elim (cases_Bool (is_same_endpoint n.to client_place)) [
  | inl here ↦
      let to = same_endpoint n.to client_place here in
      let is = known.1 to in
      let d : Datagram = notification_sent w.moment w.asks w.emitted n in
      subst (IsSaid w.asks w.acts led (notification_sent w.moment w.asks w.emitted n)) (sym (purpose_is capacity w n h few to is).purpose) (record {
        from = refl;
        to = to;
        request = is.request;
        ask = is.ask;
        registers = is.registers;
        act = is.act;
        made = is.made;
        for_it = is.for_it;
        notice = n;
        value = last_value n.target w.emitted;
        token = sym is.token;
        target = is.target;
        number = refl;
        low = low;
        spells = spells;
      })
  | inr elsewhere_is ↦
      subst (IsSaid w.asks w.acts led (notification_sent w.moment w.asks w.emitted n)) (sym (not_client_purpose n w.asks w.emitted elsewhere_is))
      (not_place n.to client_place elsewhere_is, inl known.0)
]

-- the bodies and the parts of a server that sends a notification
sent_leaves : (n : Option Notice) (s : Server) → ((with_notification_sent n s).bodies ≡ s.bodies) × ((with_notification_sent n s).parts ≡ s.parts) × ((with_notification_sent n s).links ≡ s.links)
sent_leaves None s = (refl, refl, refl)
sent_leaves (Some n) s = at n.fresh
  where
    at : (b : Bool) → ((if b then with_next_id s else s).bodies ≡ s.bodies) × ((if b then with_next_id s else s).parts ≡ s.parts) × ((if b then with_next_id s else s).links ≡ s.links)
    at true = (refl, refl, refl)
    at false = (refl, refl, refl)

exact_sends : (w : WorldState) (t : Server) (o : Option Notice) → SendsNext w.moment o w.server t → Exact w → Exact (record w { server = t })
exact_sends w t o sends x =
    let left = sent_leaves o (with_observers sends.observers w.server) in
    exact_server w t w.emitted (ap (λ (z : Server). z.exchanges) sends.after ∙ sent_stays o (with_observers sends.observers w.server))
    (ap (λ (z : Server). z.bodies) sends.after ∙ left.0) (ap (λ (z : Server). z.parts) sends.after ∙ left.1) (ap (λ (z : Server). z.links) sends.after ∙ left.2) x
    (x.ledger.served.0, server_sent x.ledger.history w.server t w.moment o x.ledger.served.1 sends)

pub exact_noted : (capacity observers : ℕ) (w : WorldState) (t : Server) (o : Option Notice) → Holds capacity w → length w.asks ≤ 65536 → Watched observers w → SendsNext w.moment o w.server t → Exact w
    → Exact (with_notification o (record w { server = t }))
exact_noted capacity observers w t None h few y sends x = exact_sends w t None sends x
exact_noted capacity observers w t (Some n) h few y sends x =
    let at = exact_sends w t (Some n) sends x in
    let d : Datagram = notification_sent w.moment w.asks w.emitted n in
    let goes : IsToRegistered y.account n = notifications_go_to_the_registered observers y.account w.server.observers w.moment w.server.next_id n sends.observers.list y.did y.id sends.notifies in
    let known = All-contains (IsKnown w.asks w.acts) y.account.registered (record { from = n.to; token = token_of n; target = n.target }) y.registered goes.registered in
    let spells : Spells (notification n (last_value n.target w.emitted)) d.bytes
    = record { bounds = notifications_are_messages n (last_value n.target w.emitted) goes.sendable goes.id; bytes_are = refl } in
    record {
      led = at.led;
      ledger = at.ledger;
      given = at.given;
      joins = at.joins;
      fed = at.fed;
      first = at.first;
      kept = at.kept;
      said = All-push (λ (z : Datagram). IsSaid w.asks w.acts at.led z z.purpose) w.sent d at.said (said_notification capacity w at.led n h few known goes.sendable.sequence spells);
      ended = at.ended;
    }
