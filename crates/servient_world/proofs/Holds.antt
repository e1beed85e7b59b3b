-- The facts on the world after each move, as far as an ask is acted on at most once.
use Rattle.std.proofs.Common.{◌≡◌, ◌≢◌, ℕ, ◌+◌, ◌-◌, ◌<◌, ◌≤◌, ◌∙◌, ◌&&◌, Bool, true, false, Option, Some, None, List, [], ◌∷◌, ◌++◌, get_or, refl, sym, ap, subst, arith}
use Rattle.std.specs.Prelude.{◌==◌, nat_lt, nat_le, All, AllPairs, Contains, slice_get}
use Rattle.std.proofs.lemmas.Bool.Decides.{nat_tests}
use Rattle.std.proofs.lemmas.List.{append-nil}
use Rattle.std.proofs.lemmas.List.Elements.{All-push, All-weaker, All-same, Contains-push, Contains-append_left}
use Rattle.std.proofs.lemmas.List.Quantifiers.{all_pairs_push}
use Rattle.coap_msg.specs.declared.endpoint.Endpoint.{Endpoint}
use Rattle.coap_msg.specs.declared.message.RequestType.TheVariants.{Confirmable}
use Rattle.coap_msg.specs.Requests.{request_type}
use Rattle.coap_msg.specs.Grammar.{CoapMessage, Spells}
use Rattle.coap_msg.proofs.Messages.{at_most_one_message}
use Rattle.coap_exchange.specs.Admission.{Arrival, Verdict, admitted as is_admitted, duplicate as is_duplicate, refused as is_refused, verdict, after_verdict, with_arrival, admitted_after, lifetime, lives, is_duplicate_of, admitted_among}
use Rattle.coap_client.specs.declared.outstanding.Outstanding.{Outstanding}
use Rattle.coap_client.specs.Laws.{Did as ClientDid}
use Rattle.coap_bind.specs.declared.pending.PendingReply.{PendingReply}
use Rattle.coap_bind.specs.declared.server.Server.{Server}
use Rattle.coap_bind.specs.Server.{arrival, asked, Hears, Answers}
use Rattle.coap_bind.specs.Laws.{Did as ServerDid, answered as server_answered}
use Rattle.coap_bind.specs.Treating.{Acted, Treats, ignores, answers, acts}
use Rattle.coap_bind.specs.Writing.{head_in}
use Rattle.coap_bind.proofs.HistoryLaws.{duplicates_ask_nothing}
use Rattle.coap_bind.proofs.OpenLaws.{asks_are_open}
use Rattle.coap_bind.proofs.DuplicateLaws.{ready}
use Rattle.coap_bind.proofs.MomentLaws.{replies_moment}
use Rattle.coap_bind.proofs.ArrivalLaws.{hearing_goes_on, asked_is_admitted}
use Rattle.servient_world.specs.declared.network.TheConstants.{MAX_LATENCY}
use Rattle.servient_world.specs.World.{client_place, server_place, Purpose, copy_of, reply_to, notification_for, other, Datagram, Act, WorldState, Receives, too_long, treated, acts_for, purpose_back, may_come}
use Rattle.servient_world.proofs.Places.{all_at, at_more, at_same}
use Rattle.servient_world.proofs.AskLaws.{HasMessage}

-- ---- the invariant

-- a copy of an ask: it was sent less than 93 seconds after the first, and is that byte for byte
pub record IsCopy (asks : List Outstanding) (d : Datagram) (k : ℕ) : Type 0 where
  pub request : Outstanding
  pub ask : slice_get asks k ≡ Some request
  pub bytes : d.bytes ≡ request.sent
  pub first : request.first ≤ d.moment
  pub soon : d.moment < request.first + 93000
  pub from : d.from ≡ client_place
  pub to : d.to ≡ server_place

-- facts on a datagram of this purpose
abbrev pub IsSentFor : List Outstanding → Datagram → Purpose → Type 0
IsSentFor asks d (copy_of k) = IsCopy asks d k
IsSentFor asks d (reply_to k) = Unit {0}
IsSentFor asks d (notification_for k q e) = Unit {0}
IsSentFor asks d other = Unit {0}

-- a copy of an ask was admitted, not before it was first sent
pub record IsAdmitted (capacity : ℕ) (history : List Arrival) (asks : List Outstanding) (k : ℕ) : Type 0 where
  pub request : Outstanding
  pub ask : slice_get asks k ≡ Some request
  pub arrival : Arrival
  pub admitted : Contains (admitted_among capacity history) arrival
  pub from : arrival.from ≡ client_place
  pub id : arrival.id ≡ request.id
  pub kind : arrival.kind ≡ Confirmable
  pub first : request.first ≤ arrival.moment

-- an act was made for one
abbrev pub IsActed : ℕ → List Arrival → List Outstanding → Act → Type 0
IsActed capacity history asks x = IsAdmitted capacity history asks x.ask

pub record Holds (capacity : ℕ) (w : WorldState) : Type 0 where
  -- both ends have a course as their crates say
  pub did : ClientDid w.asks w.client
  pub client_moment : w.client.moment ≤ w.moment
  pub history : List Arrival
  pub served : ServerDid capacity history w.server
  pub server_moment : w.server.exchanges.moment ≤ w.moment
  -- each ask is a message
  pub messages : All HasMessage w.asks
  -- each datagram was sent by now, and is as its purpose says
  pub past : All (λ d. d.moment ≤ w.moment) w.sent
  pub purposes : All (λ d. IsSentFor w.asks d d.purpose) w.sent
  -- each act was made for an ask, and no two for one
  pub acted : All (IsActed capacity history w.asks) w.acts
  pub once : AllPairs (λ x y. x.ask ≢ y.ask) w.acts

-- ---- an admitted request stays so

kept_by_verdict : (before : List Arrival) (a e : Arrival) (v : Verdict) → Contains before e → Contains (after_verdict before a v) e
kept_by_verdict before a e is_admitted has = Contains-append_left before (a ∷ []) e has
kept_by_verdict before a e is_duplicate has = has
kept_by_verdict before a e is_refused has = has

kept_after : (capacity : ℕ) (before more : List Arrival) (e : Arrival) → Contains before e → Contains (admitted_after capacity before more) e
kept_after capacity before [] e has = has
kept_after capacity before (a ∷ more) e has = kept_after capacity (with_arrival capacity before a) more e (kept_by_verdict before a e (verdict capacity before a) has)

in_two : (capacity : ℕ) (before first second : List Arrival) → admitted_after capacity before (first ++ second) ≡ admitted_after capacity (admitted_after capacity before first) second
in_two capacity before [] second = refl
in_two capacity before (a ∷ first) second = in_two capacity (with_arrival capacity before a) first second

stays_admitted : (capacity : ℕ) (history more : List Arrival) (e : Arrival) → Contains (admitted_among capacity history) e → Contains (admitted_among capacity (history ++ more)) e
stays_admitted capacity history more e has =
    subst (λ (l : List Arrival). Contains l e) (sym (in_two capacity [] history more)) (kept_after capacity (admitted_among capacity history) more e has)

-- ---- facts that stay as more is asked

pub copy_more : (asks more : List Outstanding) (d : Datagram) (k : ℕ) → IsCopy asks d k → IsCopy (asks ++ more) d k
copy_more asks more d k c = record {
  request = c.request;
  ask = at_more asks more k c.request c.ask;
  bytes = c.bytes;
  first = c.first;
  soon = c.soon;
  from = c.from;
  to = c.to;
}

pub sent_for_more : (asks more : List Outstanding) (d : Datagram) (p : Purpose) → IsSentFor asks d p → IsSentFor (asks ++ more) d p
sent_for_more asks more d (copy_of k) is = copy_more asks more d k is
sent_for_more asks more d (reply_to k) is = tt
sent_for_more asks more d (notification_for k q e) is = tt
sent_for_more asks more d other is = tt

pub admitted_more : (capacity : ℕ) (history : List Arrival) (asks more : List Outstanding) (k : ℕ) → IsAdmitted capacity history asks k → IsAdmitted capacity history (asks ++ more) k
admitted_more capacity history asks more k c = record {
  request = c.request;
  ask = at_more asks more k c.request c.ask;
  arrival = c.arrival;
  admitted = c.admitted;
  from = c.from;
  id = c.id;
  kind = c.kind;
  first = c.first;
}

-- and as more is heard
pub admitted_later : (capacity : ℕ) (history more : List Arrival) (asks : List Outstanding) (k : ℕ) → IsAdmitted capacity history asks k → IsAdmitted capacity (history ++ more) asks k
admitted_later capacity history more asks k c = record {
  request = c.request;
  ask = c.ask;
  arrival = c.arrival;
  admitted = stays_admitted capacity history more c.arrival c.admitted;
  from = c.from;
  id = c.id;
  kind = c.kind;
  first = c.first;
}

-- a reply to a datagram is no copy
pub back : (asks : List Outstanding) (d : Datagram) (p : Purpose) → IsSentFor asks d (purpose_back p)
back asks d (copy_of k) = tt
back asks d (reply_to k) = tt
back asks d (notification_for k q e) = tt
back asks d other = tt

-- ---- the server

-- facts on the server and on the acts after it took a datagram
pub record Served (capacity : ℕ) (w : WorldState) (p : Purpose) (act : Option Acted) (t : Server) : Type 0 where
  pub history : List Arrival
  pub did : ServerDid capacity history t
  pub moment : t.exchanges.moment ≤ w.moment
  pub acted : All (IsActed capacity history w.asks) (w.acts ++ acts_for p act)
  pub once : AllPairs (λ x y. x.ask ≢ y.ask) (w.acts ++ acts_for p act)

-- without an act
without_act : (capacity : ℕ) (w : WorldState) (p : Purpose) (act : Option Acted) (t : Server) (more : List Arrival) (h : Holds capacity w)
    → ServerDid capacity (h.history ++ more) t → t.exchanges.moment ≤ w.moment → acts_for p act ≡ [] → Served capacity w p act t
without_act capacity w p act t more h did moment none =
    let same : w.acts ++ acts_for p act ≡ w.acts = ap (λ (l : List Act). w.acts ++ l) none ∙ append-nil w.acts in
    record {
      history = h.history ++ more;
      did = did;
      moment = moment;
      acted = All-same (IsActed capacity (h.history ++ more) w.asks) (w.acts ++ acts_for p act) w.acts same
          (All-weaker (IsActed capacity h.history w.asks) (IsActed capacity (h.history ++ more) w.asks) (λ x is. admitted_later capacity h.history more w.asks x.ask is) w.acts h.acted);
      once = subst (λ (l : List Act). AllPairs (λ x y. x.ask ≢ y.ask) l) (sym same) h.once;
    }

pub no_acts : (p : Purpose) (act : Option Acted) → act ≡ None → acts_for p act ≡ []
no_acts (copy_of k) act e = ap (acts_for (copy_of k)) e
no_acts (reply_to k) act e = refl
no_acts (notification_for k q f) act e = refl
no_acts other act e = refl

same_table : (capacity : ℕ) (history : List Arrival) (s t : Server) → t ≡ s → ServerDid capacity history s → ServerDid capacity (history ++ []) t
same_table capacity history s t e did =
    subst (λ (x : Server). ServerDid capacity (history ++ []) x) (sym e) (subst (λ (l : List Arrival). ServerDid capacity l s) (sym (append-nil history)) did)

-- a request that was asked and is answered now
pub answered_did : (capacity : ℕ) (history : List Arrival) (s u t : Server) (from : Endpoint) (bytes : List ℕ) (now : ℕ) (a : Acted) (ask : PendingReply) (reply : List ℕ)
    → Hears from bytes now (asked a.what ask) s u → ServerDid capacity history u → Answers ask a.outcome a.target reply u t → ServerDid capacity history t
answered_did capacity history s u t from bytes now a ask reply hears did answer =
    (did.0, server_answered history u t ask a.outcome a.target reply did.1 (asks_are_open from bytes now a.what ask s u hears) answer)

pub answered_moment : (ask : PendingReply) (a : Acted) (reply : List ℕ) (u t : Server) → Answers ask a.outcome a.target reply u t → t.exchanges.moment ≡ u.exchanges.moment
answered_moment ask a reply u t answer = replies_moment _ (head_in ask) ask.slot reply (ready ask a.outcome answer.observers u) t answer.replies

-- tests
pub is_below : (m n : ℕ) → m < n → nat_lt m n ≡ true
is_below m n h = grind (arith, nat_tests)

pub is_equal : (m n : ℕ) → m ≡ n → (m == n) ≡ true
is_equal m n h = grind (arith, nat_tests)

pub both_true : (b c : Bool) → b ≡ true → c ≡ true → (b && c) ≡ true
both_true b c e f = rw e f

-- an arrival of the client's with this id, less than 247 seconds ago, is duplicated
pub repeats : (now : ℕ) (from : Endpoint) (m : CoapMessage) (e : Arrival) → from ≡ e.from → m.id ≡ e.id → e.kind ≡ Confirmable → now - e.moment < 247000
    → is_duplicate_of (arrival from now m) e ≡ true
repeats now from m e place id kind soon =
    let life : lifetime e.kind ≡ 247000 = ap lifetime kind in
    let alive : lives now e ≡ true = is_below (now - e.moment) (lifetime e.kind) (omega arith) in
    let host : (from.host == e.from.host) ≡ true = is_equal from.host e.from.host (ap (λ (x : Endpoint). x.host) place) in
    let port : (from.port == e.from.port) ≡ true = is_equal from.port e.from.port (ap (λ (x : Endpoint). x.port) place) in
    both_true (lives now e) _ alive (both_true _ (m.id == e.id) (both_true (from.host == e.from.host) (from.port == e.from.port) host port) (is_equal m.id e.id id))

-- a datagram that may come was sent in the last 100 seconds
pub came_soon : (now : ℕ) (d : Datagram) → may_come now d ≡ true → now - d.moment ≤ MAX_LATENCY
came_soon now d e = let first : nat_le (now - d.moment) MAX_LATENCY ≡ true = left (nat_le (now - d.moment) MAX_LATENCY) _ e in grind (arith, nat_tests)
  where
    left : (b c : Bool) → (b && c) ≡ true → b ≡ true
    left true c e = refl
    left false c e = e

-- an act on a copy of an ask is its first
with_act : (capacity : ℕ) (w : WorldState) (d : Datagram) (k : ℕ) (act : Option Acted) (t u : Server) (a : Acted) (ask : PendingReply) (reply : List ℕ)
    → Holds capacity w → IsCopy w.asks d k → d.moment ≤ w.moment → w.moment - d.moment ≤ MAX_LATENCY
    → Hears d.from d.bytes w.moment (asked a.what ask) w.server u → Answers ask a.outcome a.target reply u t → act ≡ Some a
    → Served capacity w (copy_of k) act t
with_act capacity w d k act t u a ask reply h copy past soon hears answer is =
    let new = asked_is_admitted capacity h.history w.server u d.from d.bytes w.moment a.what ask h.served h.server_moment hears in
    let message = all_at HasMessage w.asks k copy.request h.messages copy.ask in
    let spells : Spells message.0 d.bytes = subst (λ (b : List ℕ). Spells message.0 b) (sym copy.bytes) message.1.message.spells in
    let same : new.0 ≡ message.0 = at_most_one_message new.0 message.0 d.bytes new.1 spells in
    let id : new.0.id ≡ copy.request.id = ap (λ (x : CoapMessage). x.id) same ∙ message.1.message.id in
    let kind : request_type new.0.kind ≡ Confirmable = ap request_type (ap (λ (x : CoapMessage). x.kind) same ∙ message.1.message.kind) in
    let made : Act = record { ask = k; acted = a } in
    let more : w.acts ++ acts_for (copy_of k) act ≡ w.acts ++ made ∷ [] = ap (λ (x : Option Acted). w.acts ++ acts_for (copy_of k) x) is in
    let acted_now : IsActed capacity (h.history ++ arrival d.from w.moment new.0 ∷ []) w.asks (record { ask = k; acted = a }) = record {
      request = copy.request;
      ask = copy.ask;
      arrival = arrival d.from w.moment new.0;
      admitted = subst (λ (l : List Arrival). Contains l (arrival d.from w.moment new.0)) (sym new.3) (Contains-push (admitted_among capacity h.history) (arrival d.from w.moment new.0));
      from = copy.from;
      id = id;
      kind = kind;
      first = let before = copy.first in omega arith;
    } in
    record {
      history = h.history ++ arrival d.from w.moment new.0 ∷ [];
      did = answered_did capacity (h.history ++ arrival d.from w.moment new.0 ∷ []) w.server u t d.from d.bytes w.moment a ask reply hears new.4 answer;
      moment = let early = new.5 in let same_moment = answered_moment ask a reply u t answer in omega arith;
      acted = All-same (IsActed capacity (h.history ++ arrival d.from w.moment new.0 ∷ []) w.asks) (w.acts ++ acts_for (copy_of k) act) (w.acts ++ made ∷ []) more
          (All-push (IsActed capacity (h.history ++ arrival d.from w.moment new.0 ∷ []) w.asks) w.acts made
          (All-weaker (IsActed capacity h.history w.asks) (IsActed capacity (h.history ++ arrival d.from w.moment new.0 ∷ []) w.asks)
          (λ x is. admitted_later capacity h.history (arrival d.from w.moment new.0 ∷ []) w.asks x.ask is) w.acts h.acted) acted_now);
      once = subst (λ (l : List Act). AllPairs (λ x y. x.ask ≢ y.ask) l) (sym more)
          (all_pairs_push (λ (x y : Act). x.ask ≢ y.ask) w.acts made h.once (λ i x within same_ask.
          let was : IsActed capacity h.history w.asks (get_or w.acts i x) = h.acted i x within in
          let one : was.request ≡ copy.request
          = at_same w.asks k was.request copy.request (subst (λ (n : ℕ). slice_get w.asks n ≡ Some was.request) same_ask was.ask) copy.ask in
          let first : was.request.first ≡ copy.request.first = ap (λ (a : Outstanding). a.first) one in
          let before = was.first in
          let sent_soon = copy.soon in
          let alive : w.moment - was.arrival.moment < 247000 = omega arith in
          let again : is_duplicate_of (arrival d.from w.moment new.0) was.arrival ≡ true
          = repeats w.moment d.from new.0 was.arrival (copy.from ∙ sym was.from) (id ∙ sym (was.id ∙ ap (λ (a : Outstanding). a.id) one)) was.kind alive in
          duplicates_ask_nothing capacity h.history w.server u d.from d.bytes w.moment new.0 was.arrival h.served h.server_moment new.1 was.admitted again a.what ask hears));
    }

-- a datagram that was heard and answered, but is no copy of an ask
with_other : (capacity : ℕ) (w : WorldState) (d : Datagram) (p : Purpose) (act : Option Acted) (t u : Server) (a : Acted) (ask : PendingReply) (reply : List ℕ)
    → Holds capacity w → Hears d.from d.bytes w.moment (asked a.what ask) w.server u → Answers ask a.outcome a.target reply u t → acts_for p act ≡ []
    → Served capacity w p act t
with_other capacity w d p act t u a ask reply h hears answer none =
    let goes = hearing_goes_on capacity h.history w.server u d.from d.bytes w.moment _ h.served h.server_moment hears in
    without_act capacity w p act t goes.0 h (answered_did capacity (h.history ++ goes.0) w.server u t d.from d.bytes w.moment a ask reply hears goes.2 answer)
    (let early = goes.3 in let same_moment = answered_moment ask a reply u t answer in omega arith) none

serves_treated : (capacity : ℕ) (w : WorldState) (d : Datagram) (p : Purpose) (act : Option Acted) (back : List (List ℕ)) (t : Server)
    → Holds capacity w → IsSentFor w.asks d p → d.moment ≤ w.moment → w.moment - d.moment ≤ MAX_LATENCY → Treats d.from d.bytes w.moment act back w.server t
    → Served capacity w p act t
serves_treated capacity w d p act back t h for past soon (ignores hears none nothing_back) =
    let goes = hearing_goes_on capacity h.history w.server t d.from d.bytes w.moment _ h.served h.server_moment hears in
    without_act capacity w p act t goes.0 h goes.2 goes.3 (no_acts p act none)
serves_treated capacity w d p act back t h for past soon (answers reply hears none one_back) =
    let goes = hearing_goes_on capacity h.history w.server t d.from d.bytes w.moment _ h.served h.server_moment hears in
    without_act capacity w p act t goes.0 h goes.2 goes.3 (no_acts p act none)
serves_treated capacity w d (copy_of k) act back t h for past soon (acts a ask reply u hears code place answer is one_back) =
    with_act capacity w d k act t u a ask reply h for past soon hears answer is
serves_treated capacity w d (reply_to k) act back t h for past soon (acts a ask reply u hears code place answer is one_back) =
    with_other capacity w d (reply_to k) act t u a ask reply h hears answer refl
serves_treated capacity w d (notification_for k q e) act back t h for past soon (acts a ask reply u hears code place answer is one_back) =
    with_other capacity w d (notification_for k q e) act t u a ask reply h hears answer refl
serves_treated capacity w d other act back t h for past soon (acts a ask reply u hears code place answer is one_back) =
    with_other capacity w d other act t u a ask reply h hears answer refl

pub serves : (capacity : ℕ) (w : WorldState) (d : Datagram) (p : Purpose) (act : Option Acted) (back : List (List ℕ)) (t : Server)
    → Holds capacity w → IsSentFor w.asks d p → d.moment ≤ w.moment → w.moment - d.moment ≤ MAX_LATENCY → Receives d.from d.bytes w.moment act back w.server t
    → Served capacity w p act t
serves capacity w d p act back t h for past soon (too_long long none nothing_back same) =
    without_act capacity w p act t [] h (same_table capacity h.history w.server t same h.served)
    (let at = ap (λ (x : Server). x.exchanges.moment) same in let early = h.server_moment in omega arith) (no_acts p act none)
serves capacity w d p act back t h for past soon (treated short treats) = serves_treated capacity w d p act back t h for past soon treats
