-- The ledger goes on: with each copy of an ask that is admitted by an entry, and with anything else as it is.
use Rattle.std.proofs.Common.{◌≡◌, ◌≢◌, ◌⊎◌, ℕ, ◌+◌, ◌-◌, ◌<◌, ◌≤◌, ◌∙◌, true, false, Option, Some, None, List, [], ◌∷◌, ◌++◌, take, length, get_or, inl, inr, refl, sym, ap, subst, append-nil, arith}
use Rattle.std.specs.Prelude.{All, AllPairs, Contains, slice_get}
use Rattle.std.proofs.lemmas.Bool.{cases_lt}
use Rattle.std.proofs.lemmas.List.{length_push, length-append, get_or_append_left, get_or-append_right, get_or_push, take-append-le, take_all}
use Rattle.std.proofs.lemmas.List.Elements.{All-weaker, All-push, All-nil, All-append, Contains-push}
use Rattle.std.proofs.lemmas.List.Quantifiers.{all_pairs_push}
use Rattle.std.proofs.lemmas.Option.{slice_get_within}
use Rattle.coap_msg.specs.declared.endpoint.Endpoint.{Endpoint}
use Rattle.coap_msg.specs.Grammar.{CoapMessage, Spells}
use Rattle.coap_msg.specs.Requests.{request_type}
use Rattle.coap_msg.proofs.Messages.{at_most_one_message}
use Rattle.coap_exchange.specs.Admission.{Arrival, admitted as is_admitted, is_duplicate_of, verdict, after_verdict, admitted_among}
use Rattle.coap_exchange.specs.declared.met.Met.TheVariants.{Fresh}
use Rattle.coap_exchange.proofs.HistoryLaws.{tables_follow_the_history, last_of}
use Rattle.coap_client.specs.declared.outstanding.Outstanding.{Outstanding}
use Rattle.coap_bind.specs.declared.server.Server.{Server}
use Rattle.coap_bind.specs.Server.{is_request, arrival, IsMet}
use Rattle.coap_bind.specs.Laws.{AreArrivals, Did as ServerDid}
use Rattle.coap_bind.specs.Treating.{Acted, Treats, ignores, answers, acts as acted_for}
use Rattle.coap_bind.specs.Writing.{Reply, full_reply}
use Rattle.coap_bind.proofs.ArrivalLaws.{hearing_goes_on}
use Rattle.coap_bind.proofs.HistoryLaws.{exchanges_are_of_the_history, met_as_duplicate}
use Rattle.servient_world.specs.declared.network.TheConstants.{MAX_LATENCY}
use Rattle.servient_world.specs.World.{client_place, copy_of, Datagram, Act, AskEnd, acts_for}
use Rattle.servient_world.specs.Led.{Led, act_in, LeadsTo, IsLed}
use Rattle.servient_world.proofs.Places.{all_at, at_same}
use Rattle.servient_world.proofs.AskLaws.{IsAskOf, HasMessage}
use Rattle.servient_world.proofs.Holds.{IsCopy, IsAdmitted, admitted_more, admitted_later, answered_did, answered_moment, repeats}
use Rattle.servient_world.proofs.Ledger.{Entry, IsEntry, HasEntry, IsInTime, IsFed, AreFed, ComesFirst, Ledger, entry_more, in_time_more, has_entry_more}

-- ---- nothing is admitted for an ask

pub ledger_later : (led : List Entry) (asks : List Outstanding) (acts : List Act) (s : Server) (now later : ℕ) → now ≤ later → Ledger led asks acts s now → Ledger led asks acts s later
ledger_later led asks acts s now later h l = record {
  capacity = l.capacity;
  history = l.history;
  served = l.served;
  early = let before = l.early in omega arith;
  admitted = l.admitted;
  once = l.once;
  in_time = l.in_time;
  past = All-weaker (λ (a : Outstanding). a.first ≤ now) (λ (a : Outstanding). a.first ≤ later) (λ a before. omega arith) asks l.past;
  rising = l.rising;
  entries = l.entries;
  acts_have = l.acts_have;
}

pub ledger_asked : (led : List Entry) (asks : List Outstanding) (acts : List Act) (s : Server) (now : ℕ) (o : Outstanding) → o.first ≡ now → Ledger led asks acts s now
    → Ledger led (asks ++ o ∷ []) acts s now
ledger_asked led asks acts s now o first l = record {
  capacity = l.capacity;
  history = l.history;
  served = l.served;
  early = l.early;
  admitted = All-weaker (λ (x : Entry). IsAdmitted l.capacity l.history asks x.ask) (λ (x : Entry). IsAdmitted l.capacity l.history (asks ++ o ∷ []) x.ask)
      (λ x is. admitted_more l.capacity l.history asks (o ∷ []) x.ask is) led l.admitted;
  once = l.once;
  in_time = λ i j d before within. in_time_more asks (o ∷ []) (get_or led i d).ask (get_or led j d).ask (l.in_time i j d before within);
  past = All-push (λ (a : Outstanding). a.first ≤ now) asks o l.past (omega arith);
  rising = all_pairs_push (λ (a b : Outstanding). a.first ≤ b.first) asks o l.rising (λ k d within. let before : (get_or asks k d).first ≤ now = l.past k d within in omega arith);
  entries = subst (λ (more : List Act). All (IsEntry (asks ++ o ∷ []) more s.links) led) (append-nil acts)
      (All-weaker (IsEntry asks acts s.links) (IsEntry (asks ++ o ∷ []) (acts ++ []) s.links) (λ x is. entry_more asks (o ∷ []) acts [] s.links x is) led l.entries);
  acts_have = l.acts_have;
}

pub ledger_served : (led : List Entry) (asks : List Outstanding) (acts : List Act) (s t : Server) (now : ℕ) (more : List Arrival) → (l : Ledger led asks acts s now)
    → ServerDid l.capacity (l.history ++ more) t → t.exchanges.moment ≤ now → t.links ≡ s.links → Ledger led asks acts t now
ledger_served led asks acts s t now more l did early links = record {
  capacity = l.capacity;
  history = l.history ++ more;
  served = did;
  early = early;
  admitted = All-weaker (λ (x : Entry). IsAdmitted l.capacity l.history asks x.ask) (λ (x : Entry). IsAdmitted l.capacity (l.history ++ more) asks x.ask)
      (λ x is. admitted_later l.capacity l.history more asks x.ask is) led l.admitted;
  once = l.once;
  in_time = l.in_time;
  past = l.past;
  rising = l.rising;
  entries = subst (λ (text : List ℕ). All (IsEntry asks acts text) led) (sym links) l.entries;
  acts_have = l.acts_have;
}

-- the history of a server goes on by each datagram that it treats
pub did_treated : (capacity : ℕ) (history : List Arrival) (from : Endpoint) (bytes : List ℕ) (now : ℕ) (act : Option Acted) (back : List (List ℕ)) (s t : Server) → ServerDid capacity history s → s.exchanges.moment ≤ now
    → Treats from bytes now act back s t → (new : List Arrival) × AreArrivals from bytes now new × ServerDid capacity (history ++ new) t × (t.exchanges.moment ≤ now)
did_treated capacity history from bytes now act back s t did early (ignores hears none is) = hearing_goes_on capacity history s t from bytes now _ did early hears
did_treated capacity history from bytes now act back s t did early (answers reply hears none is) = hearing_goes_on capacity history s t from bytes now _ did early hears
did_treated capacity history from bytes now act back s t did early (acted_for a ask reply u hears code place answer acted_is is) =
    let goes = hearing_goes_on capacity history s u from bytes now _ did early hears in (
      goes.0,
      goes.1,
      answered_did capacity (history ++ goes.0) s u t from bytes now a ask reply hears goes.2 answer,
      (let before = goes.3 in let same = answered_moment ask a reply u t answer in omega arith),
    )

-- ---- a copy of an ask is admitted

arrivals_are : (from : Endpoint) (bytes : List ℕ) (now : ℕ) (new : List Arrival) (m : CoapMessage) → AreArrivals from bytes now new → Spells m bytes → is_request m ≡ true → new ≡ arrival from now m ∷ []
arrivals_are from bytes now [] m are spells request = absurd (let none : is_request m ≡ false = are m spells in cc)
arrivals_are from bytes now (a ∷ []) m are spells request =
    ap (λ (x : Arrival). x ∷ []) (are.3 ∙ ap (arrival from now) (at_most_one_message are.0 m bytes are.1 spells))
arrivals_are from bytes now (a ∷ b ∷ more) m are spells request = absurd are

fresh_admitted : (capacity : ℕ) (history : List Arrival) (s u : Server) (from : Endpoint) (bytes : List ℕ) (now : ℕ) (m : CoapMessage) (slot : ℕ)
    → ServerDid capacity history s → s.exchanges.moment ≤ now → IsMet from bytes now m (Fresh slot) s u
    → admitted_among capacity (history ++ arrival from now m ∷ []) ≡ admitted_among capacity history ++ arrival from now m ∷ []
fresh_admitted capacity history s u from bytes now m slot did early met =
    let of = exchanges_are_of_the_history capacity history s did in
    let next = tables_follow_the_history s.exchanges u.exchanges history (arrival from now m) (Fresh slot) of.0 early met.meets in
    let v : verdict capacity (admitted_among capacity history) (arrival from now m) ≡ is_admitted
    = subst (λ k. verdict k (admitted_among k history) (arrival from now m) ≡ is_admitted) of.1 next.0 in
    last_of capacity history (arrival from now m) ∙ ap (after_verdict (admitted_among capacity history) (arrival from now m)) v

-- the message of a copy is that of its ask
pub copy_message : (asks : List Outstanding) (d : Datagram) (k : ℕ) (m : CoapMessage) → (copy : IsCopy asks d k) → All HasMessage asks → Spells m d.bytes → IsAskOf copy.request m
copy_message asks d k m copy messages spells =
    let message = all_at HasMessage asks k copy.request messages copy.ask in
    let one : m ≡ message.0 = at_most_one_message m message.0 d.bytes spells (subst (λ (b : List ℕ). Spells message.0 b) (sym copy.bytes) message.1.message.spells) in
    subst (IsAskOf copy.request) (sym one) message.1

-- the entry of its effect
abbrev pub entry_of : ℕ → Led → Reply → Entry
entry_of k led reply = record { ask = k; led = led; reply = reply }

acts_some : (acts : List Act) (k : ℕ) (act : Option Acted) (a : Acted) → act ≡ Some a → Contains (acts ++ acts_for (copy_of k) act) (record { ask = k; acted = a })
acts_some acts k act a is =
    subst (λ (o : Option Acted). Contains (acts ++ acts_for (copy_of k) o) (record { ask = k; acted = a })) (sym is) (Contains-push acts (record { ask = k; acted = a }))

acts_have_more : (led : List Entry) (x : Entry) (acts : List Act) (act : Option Acted) → All (HasEntry led) acts → act ≡ act_in x.led → All (HasEntry (led ++ x ∷ [])) (acts ++ acts_for (copy_of x.ask) act)
acts_have_more led x acts None have is =
    All-append (HasEntry (led ++ x ∷ [])) acts [] (All-weaker (HasEntry led) (HasEntry (led ++ x ∷ [])) (λ y h. has_entry_more led (x ∷ []) y h) acts have) (All-nil (HasEntry (led ++ x ∷ [])))
acts_have_more led x acts (Some a) have is =
    All-push (HasEntry (led ++ x ∷ [])) acts (record { ask = x.ask; acted = a }) (All-weaker (HasEntry led) (HasEntry (led ++ x ∷ [])) (λ y h. has_entry_more led (x ∷ []) y h) acts have)
    (record { entry = x; has = Contains-push led x; same = refl; acted = sym is })

-- it wasn't admitted before
never_before : (led : List Entry) (asks : List Outstanding) (acts : List Act) (s t : Server) (now : ℕ) (d : Datagram) (k : ℕ) (act : Option Acted) (back : List (List ℕ)) → (l : Ledger led asks acts s now)
    → (copy : IsCopy asks d k) → All HasMessage asks → d.moment ≤ now → now - d.moment ≤ MAX_LATENCY → IsLed d.from d.bytes now act back s t → All (λ (y : Entry). y.ask ≢ k) led
never_before led asks acts s t now d k act back l copy messages past soon x = λ i e within same_ask.
    let mine = copy_message asks d k x.message copy messages x.met.spells in
    let was : IsAdmitted l.capacity l.history asks (get_or led i e).ask = l.admitted i e within in
    let one : was.request ≡ copy.request = at_same asks k was.request copy.request (subst (λ (n : ℕ). slice_get asks n ≡ Some was.request) same_ask was.ask) copy.ask in
    let first : was.request.first ≡ copy.request.first = ap (λ (a : Outstanding). a.first) one in
    let before = was.first in
    let sent_soon = copy.soon in
    let alive : now - was.arrival.moment < 247000 = omega arith in
    let again : is_duplicate_of (arrival d.from now x.message) was.arrival ≡ true
    = repeats now d.from x.message was.arrival (copy.from ∙ sym was.from) (mine.message.id ∙ sym (was.id ∙ ap (λ (a : Outstanding). a.id) one)) was.kind alive in
    let wrong = met_as_duplicate l.capacity l.history s x.between.exchanges (arrival d.from now x.message) was.arrival (Fresh x.slot) l.served l.early was.admitted again x.met.meets in
    cc

pub ledger_admitted : (led : List Entry) (asks : List Outstanding) (acts : List Act) (s t : Server) (now : ℕ) (d : Datagram) (k : ℕ) (act : Option Acted) (back : List (List ℕ)) → Ledger led asks acts s now
    → (copy : IsCopy asks d k) → All HasMessage asks → d.moment ≤ now → now - d.moment ≤ MAX_LATENCY → Treats d.from d.bytes now act back s t → (x : IsLed d.from d.bytes now act back s t)
    → Ledger (led ++ entry_of k x.led x.reply ∷ []) asks (acts ++ acts_for (copy_of k) act) t now
ledger_admitted led asks acts s t now d k act back l copy messages past soon treats x =
    let e : Entry = entry_of k x.led x.reply in
    let mine = copy_message asks d k x.message copy messages x.met.spells in
    let a : Arrival = arrival d.from now x.message in
    let goes = did_treated l.capacity l.history d.from d.bytes now act back s t l.served l.early treats in
    let new : goes.0 ≡ a ∷ [] = arrivals_are d.from d.bytes now goes.0 x.message goes.1 x.met.spells x.met.request in
    let grown = fresh_admitted l.capacity l.history s x.between d.from d.bytes now x.message x.slot l.served l.early x.met in
    let admitted_now : IsAdmitted l.capacity (l.history ++ a ∷ []) asks k = record {
      request = copy.request;
      ask = copy.ask;
      arrival = a;
      admitted = subst (λ (all : List Arrival). Contains all a) (sym grown) (Contains-push (admitted_among l.capacity l.history) a);
      from = copy.from;
      id = mine.message.id;
      kind = ap request_type mine.message.kind;
      first = let before = copy.first in omega arith;
    } in
    let in_time_now : (y : Entry) → IsAdmitted l.capacity l.history asks y.ask → IsInTime asks y.ask k = λ y was. record {
      one = was.request;
      other = copy.request;
      first = was.ask;
      second = copy.ask;
      soon = let before : was.request.first ≤ now = all_at (λ (o : Outstanding). o.first ≤ now) asks y.ask was.request l.past was.ask in let sent_soon = copy.soon in omega arith;
    } in
    record {
      capacity = l.capacity;
      history = l.history ++ a ∷ [];
      served = subst (λ (all : List Arrival). ServerDid l.capacity (l.history ++ all) t) new goes.2;
      early = goes.3;
      admitted = All-push (λ (y : Entry). IsAdmitted l.capacity (l.history ++ a ∷ []) asks y.ask) led e
          (All-weaker (λ (y : Entry). IsAdmitted l.capacity l.history asks y.ask) (λ (y : Entry). IsAdmitted l.capacity (l.history ++ a ∷ []) asks y.ask)
          (λ y is. admitted_later l.capacity l.history (a ∷ []) asks y.ask is) led l.admitted) admitted_now;
      once = all_pairs_push (λ (y z : Entry). y.ask ≢ z.ask) led e l.once (never_before led asks acts s t now d k act back l copy messages past soon x);
      in_time = all_pairs_push (λ (y z : Entry). IsInTime asks y.ask z.ask) led e l.in_time (λ i f within. in_time_now (get_or led i f) (l.admitted i f within));
      past = l.past;
      rising = l.rising;
      entries = All-push (IsEntry asks (acts ++ acts_for (copy_of k) act) t.links) led e
          (subst (λ (text : List ℕ). All (IsEntry asks (acts ++ acts_for (copy_of k) act) text) led) (sym x.links)
          (subst (λ (more : List Outstanding). All (IsEntry more (acts ++ acts_for (copy_of k) act) s.links) led) (append-nil asks)
          (All-weaker (IsEntry asks acts s.links) (IsEntry (asks ++ []) (acts ++ acts_for (copy_of k) act) s.links) (λ y is. entry_more asks [] acts (acts_for (copy_of k) act) s.links y is) led l.entries)))
          (record {
            request = copy.request;
            ask = copy.ask;
            message = x.message;
            is = mine;
            now = now;
            seen = x.seen;
            leads = subst (λ (text : List ℕ). LeadsTo client_place now x.message text x.seen x.led x.reply) (sym x.links)
                (subst (λ (p : Endpoint). LeadsTo p now x.message s.links x.seen x.led x.reply) copy.from x.leads);
            acted = λ b is. acts_some acts k act b (x.act_is ∙ is);
          });
      acts_have = acts_have_more led e acts act l.acts_have x.act_is;
    }

-- ---- the effects of entries

pub fed_push : (links : List ℕ) (led : List Entry) (x : Entry) → AreFed links led → IsFed links led x.led → AreFed links (led ++ x ∷ [])
fed_push links led x fed new = λ k d within. elim (cases_lt k (length led)) [
  | inl before ↦
      subst (λ (es : List Entry). IsFed links es (get_or (led ++ x ∷ []) k d).led) (sym (take-append-le k led (x ∷ []) (omega arith)))
      (subst (λ (e : Entry). IsFed links (take k led) e.led) (sym (get_or_append_left led (x ∷ []) d k before)) (fed k d before))
  | inr not_before ↦
      let count = length_push led x in
      let last : k ≡ length led = omega arith in
      subst (λ (es : List Entry). IsFed links es (get_or (led ++ x ∷ []) k d).led)
      (sym (ap (λ (n : ℕ). take n (led ++ x ∷ [])) last ∙ (take-append-le (length led) led (x ∷ []) (omega arith) ∙ take_all (length led) led (omega arith))))
      (subst (λ (e : Entry). IsFed links led e.led) (sym (get_or_push led x d k (sym last))) new)
]

-- ---- the ends of asks

pub turned_away : (led : List Entry) (k : ℕ) (r : Reply) (code : ℕ) → code ≡ r.code → (r ≡ full_reply) ⊎ ((x : Entry) × Contains led x × (x.ask ≡ k) × (r ≡ x.reply))
    → All (λ (y : Entry). y.ask ≢ k) led → code ≡ full_reply.code
turned_away led k r code is (inl full) none = is ∙ ap (λ (y : Reply). y.code) full
turned_away led k r code is (inr x) none = absurd (all_of led x.0 none x.1 x.2)
  where
    all_of : (es : List Entry) (y : Entry) → All (λ (z : Entry). z.ask ≢ k) es → Contains es y → y.ask ≢ k
    all_of es y all has = subst (λ (z : Entry). z.ask ≢ k) has.2 (all has.0 y has.1)

-- the ends that come of a datagram are of the latest ask
pub first_more_ends : (led : List Entry) (asks : List Outstanding) (acts : List Act) (links : List ℕ) (ends more : List AskEnd) → All (IsEntry asks acts links) led → All (λ (e : AskEnd). e.ask ≡ length asks - 1) more
    → AllPairs (ComesFirst ends) led → AllPairs (ComesFirst (ends ++ more)) led
first_more_ends led asks acts links ends more entries latest_ones first = λ i j d before within x_before e has same.
    elim (cases_lt has.0 (length ends)) [
      | inl old ↦ first i j d before within x_before e (has.0, old, sym (get_or_append_left ends more e has.0 old) ∙ has.2) same
      | inr new ↦
          let total : length (ends ++ more) ≡ length ends + length more = length-append ends more in
          let place = has.1 in
          let there : get_or more (has.0 - length ends) e ≡ e = sym (get_or-append_right ends more (length ends) has.0 e refl (omega arith)) ∙ has.2 in
          let last : e.ask ≡ length asks - 1 = subst (λ (z : AskEnd). z.ask ≡ length asks - 1) there (latest_ones (has.0 - length ends) e (omega arith)) in
          let y : IsEntry asks acts links (get_or led i d) = entries i d (omega arith) in
          let y_within = slice_get_within asks (get_or led i d).ask y.request y.ask in
          absurd (omega arith)
    ]
