-- The outcome of a duplicate, and of a request that finds the table full.
use Rattle.std.proofs.Common.{◌≡◌, ◌≤◌, ℕ, Bool, length, List, [], ◌∷◌, ◌++◌, max, true, false, refl, sym, ap, subst, ◌∙◌, arith, inl, inr}
use Rattle.std.specs.Prelude.{◌⊎◌, Option, Contains, filter, nat_lt, if◌then◌else◌}
use Rattle.std.specs.List.{list_any}
use Rattle.std.proofs.lemmas.List.Elements.{filter_map-append, Contains-append_right}
use Rattle.coap_msg.specs.declared.endpoint.Endpoint.{Endpoint}
use Rattle.coap_msg.specs.declared.constants.TheConstants.{LONGEST_DATAGRAM}
use Rattle.coap_msg.specs.Grammar.{CoapMessage, Spells}
use Rattle.coap_msg.proofs.Messages.{at_most_one_message}
use Rattle.coap_msg.proofs.FaultLaws.{no_fault_of_message}
use Rattle.coap_msg.specs.Requests.{request_type}
use Rattle.coap_msg.specs.declared.message.RequestType.{RequestType}
use Rattle.coap_msg.specs.declared.message.RequestType.TheVariants.{Confirmable, NonConfirmable}
use Rattle.coap_exchange.specs.Admission.{Arrival, Verdict, duplicate, refused, admitted as is_admitted, verdict, is_duplicate_of, lives, admitted_among}
use Rattle.coap_exchange.specs.Table.{at_moment}
use Rattle.coap_exchange.specs.Laws.{IsVerdict}
use Rattle.coap_exchange.specs.declared.met.Met.{Met}
use Rattle.coap_exchange.specs.declared.met.Met.TheVariants.{Fresh, Repeat}
use Rattle.coap_exchange.proofs.HistoryLaws.{tables_follow_the_history}
use Rattle.coap_bind.specs.declared.server.Server.{Server}
use Rattle.coap_bind.specs.Duplicates.{OnlyTimePassed, WasRepliedTo, repeated}
use Rattle.coap_bind.specs.Server.{start as nothing_came, Heard, ignored, answered_at_once, is_request, arrival, IsMet, malformed, no_request, duplicate as settles_duplicate, full, Hears, settled, admitted, with_id_used}
use Rattle.coap_bind.specs.Laws.{Did}
use Rattle.coap_bind.proofs.HistoryLaws.{exchanges_are_of_the_history}
use Rattle.coap_bind.proofs.DuplicateLaws.{duplicates_change_nothing, duplicates_get_the_first_reply}
use Rattle.coap_bind.proofs.RepeatedLaws.{only_the_first_reply_is_repeated}
use Rattle.servient_outside.specs.declared.net.What.TheVariants as what
use Rattle.servient_outside.specs.declared.net.What.{What}
use Rattle.servient_outside.specs.declared.net.EventWithBytes.{EventWithBytes}
use Rattle.servient_outside.specs.Network.{heard}
use Rattle.servient_trace.specs.Trace.{Sighting, at_network, call_in, calls_in}
use Rattle.servient_core.specs.Machine.{Site, State, Follows, HearsDatagram, AnswersDatagram, EndsEvent, Step, EventAndStep}
use Rattle.servient_core.specs.Runs.{HasHistory}
use Rattle.servient_core.proofs.MeaningLaws.{ends_quiet}
use Rattle.servient_core.proofs.RunHistories.{each_run_has_a_history}
use Rattle.servient_laws.specs.Requests.{moment_of, ComesTo, ActsOnNothing, repeated_answer, ActsNoMore, RepeatsActOnce, FullTablesActOnNothing}
use Rattle.servient_laws.proofs.Histories.{same_requests}

-- ---- the parts of a step on a datagram that is looked at

-- it was heard, and answered, and then the event ended
pub record Parts (site : Site) (from : Endpoint) (bytes : List ℕ) (e : EventWithBytes) (s : State) (seen : List Sighting) (t : State) : Type 0 where
  pub what : Heard
  pub server : Server
  pub hears : Hears from bytes (moment_of s e) what s.coap server
  pub answer : List Sighting
  pub middle : State
  pub answers : AnswersDatagram site from what (record s { moment = moment_of s e; coap = server }) answer middle
  pub rest : List Sighting
  pub whole : seen ≡ at_network (heard e) ∷ answer ++ rest
  pub ends : EndsEvent middle rest t

pub parts_of : (site : Site) (from : Endpoint) (size : ℕ) (e : EventWithBytes) (s t : State) (seen : List Sighting) → e.event.what ≡ what.Datagram from size
    → length e.bytes ≤ LONGEST_DATAGRAM → EventAndStep site e s seen t → Parts site from e.bytes e s seen t
parts_of site from size e s t seen is short both =
    let step : Step site e s both.second t = subst (λ (x : State). Step site e x both.second t) both.one.next both.other in
    let follows : HearsDatagram site from e.bytes (record s { moment = moment_of s e }) step.first step.mid =
    subst (λ (x : What). Follows site x e.bytes (record s { moment = moment_of s e }) step.first step.mid) is step.one in
    by_length follows
  where
    step : Step site e s both.second t
    step = subst (λ (x : State). Step site e x both.second t) both.one.next both.other

    by_length : HearsDatagram site from e.bytes (record s { moment = moment_of s e }) step.first step.mid → Parts site from e.bytes e s seen t
    by_length (inl long) = absurd (omega (arith, long.0, short))
    by_length (inr (under, (h, w))) = record {
      what = h;
      server = w.one.0;
      hears = w.one.1;
      answer = w.second;
      middle = step.mid;
      answers = subst (λ (x : State). AnswersDatagram site from h x w.second step.mid) w.one.2.next w.other;
      rest = step.second;
      whole = both.whole
          ∙ ap (λ (xs : List Sighting). xs ++ both.second) both.one.saw
          ∙ ap (λ (xs : List Sighting). at_network (heard e) ∷ xs) (step.whole ∙ ap (λ (xs : List Sighting). xs ++ step.second) (w.whole ∙ ap (λ (xs : List Sighting). xs ++ w.second) w.one.2.saw));
      ends = step.other;
    }

-- the end of the event calls nothing, so if the answer calls nothing, nothing does
pub nothing_done : (e : EventWithBytes) (s middle t : State) (answer rest seen : List Sighting) → seen ≡ at_network (heard e) ∷ answer ++ rest → EndsEvent middle rest t
    → calls_in answer ≡ [] → middle.thing ≡ s.thing → middle.directory ≡ s.directory → ActsOnNothing e s answer middle seen t
nothing_done e s middle t answer rest seen whole ends none thing directory =
    let quiet = ends_quiet middle t rest ends in record {
      calls = ap calls_in whole ∙ filter_map-append call_in answer rest ∙ ap (λ xs. xs ++ calls_in rest) none ∙ quiet.calls;
      thing = quiet.thing ∙ thing;
      directory = quiet.directory ∙ directory;
      rest = rest;
      whole = whole;
      ends = ends;
    }

-- ---- verdicts

pub record Known (exchanges : ℕ) (history : List Arrival) (s : State) : Type 0 where
  pub did : Did exchanges history s.coap
  pub moment : s.coap.exchanges.moment ≤ s.moment

pub known : (v : Verdict) (site : Site) (exchanges : ℕ) (epoch : Option ℕ) (from : Endpoint) (m : CoapMessage) (s t : State) (e : EventWithBytes) (seen : List Sighting)
    (comes : ComesTo v site exchanges epoch from m s e seen t) → Known exchanges comes.history s
known v site exchanges epoch from m s t e seen comes =
    let h : HasHistory exchanges comes.took s = each_run_has_a_history site exchanges epoch comes.took comes.before s comes.run in record {
      did = subst (λ (x : List Arrival). Did exchanges x s.coap) (same_requests 0 comes.took h.history comes.history h.requests comes.requests) h.did;
      moment = h.moment;
    }

-- the verdict is what the request met
pub met_by : (exchanges : ℕ) (history : List Arrival) (from : Endpoint) (bytes : List ℕ) (now : ℕ) (m : CoapMessage) (met : Met) (s t : Server) → Did exchanges history s
    → s.exchanges.moment ≤ now → IsMet from bytes now m met s t → IsVerdict met (verdict exchanges (admitted_among exchanges history) (arrival from now m))
met_by exchanges history from bytes now m met s t did past is =
    let of = exchanges_are_of_the_history exchanges history s did in
    subst (λ (c : ℕ). IsVerdict met (verdict c (admitted_among c history) (arrival from now m))) of.1
    (tables_follow_the_history s.exchanges t.exchanges history (arrival from now m) met of.0 past is.meets).0

-- ---- a duplicate

among : (p : Arrival → Bool) (x : Arrival) (xs : List Arrival) → p x ≡ false → list_any p (x ∷ xs) ≡ true → list_any p xs ≡ true
among p x xs isnt all = let same : list_any p (x ∷ xs) ≡ list_any p xs = rw isnt refl in sym same ∙ all

any_has : (p : Arrival → Bool) (xs : List Arrival) → list_any p xs ≡ true → (x : Arrival) × Contains xs x × (p x ≡ true)
any_has p [] e = absurd cc
any_has p (x ∷ xs) e = by_test (any_has p xs) (p x) refl
  where
    later : (y : Arrival) × Contains xs y × (p y ≡ true) → (y : Arrival) × Contains (x ∷ xs) y × (p y ≡ true)
    later (y, has, is) = (y, Contains-append_right (x ∷ []) xs y has, is)

    by_test : (list_any p xs ≡ true → (y : Arrival) × Contains xs y × (p y ≡ true)) → (b : Bool) → p x ≡ b → (y : Arrival) × Contains (x ∷ xs) y × (p y ≡ true)
    by_test further true is = (x, (0, omega arith, refl), is)
    by_test further false isnt = later (further (among p x xs isnt e))

verdict_of : (b c : Bool) → (if b then duplicate else (if c then is_admitted else refused)) ≡ duplicate → b ≡ true
verdict_of true c e = refl
verdict_of false true e = absurd cc
verdict_of false false e = absurd cc

duplicate_has : (exchanges : ℕ) (before : List Arrival) (a : Arrival) → verdict exchanges before a ≡ duplicate → (x : Arrival) × Contains before x × (is_duplicate_of a x ≡ true)
duplicate_has exchanges before a is = any_has (is_duplicate_of a) before (verdict_of (list_any (is_duplicate_of a) before) (nat_lt (length (filter (lives a.moment) before)) exchanges) is)

-- a duplicate is answered so as it was heard
answered_so : (site : Site) (from : Endpoint) (h : Heard) (u t : State) (answer : List Sighting) (one other : RequestType) (bytes : List ℕ) → AnswersDatagram site from h u answer t
    → h ≡ repeated one other bytes → answer ≡ repeated_answer from one other bytes
answered_so site from h u t answer Confirmable Confirmable bytes does is = (subst (λ (x : Heard). AnswersDatagram site from x u answer t) is does).saw
answered_so site from h u t answer Confirmable NonConfirmable bytes does is = (subst (λ (x : Heard). AnswersDatagram site from x u answer t) is does).saw
answered_so site from h u t answer NonConfirmable other bytes does is = (subst (λ (x : Heard). AnswersDatagram site from x u answer t) is does).saw

-- by what is sent to answer it
by_reply : (site : Site) (exchanges observers : ℕ) (from : Endpoint) (m : CoapMessage) (s t : State) (e : EventWithBytes) (seen : List Sighting)
    (p : Parts site from e.bytes e s seen t) → OnlyTimePassed (moment_of s e) s.coap p.server
    → (p.what ≡ ignored)
    ⊎ ((first : Arrival) × (bytes : List ℕ) × (p.what ≡ answered_at_once bytes) × (is_duplicate_of (arrival from (moment_of s e) m) first ≡ true)
    × (request_type m.kind ≡ Confirmable) × (first.kind ≡ Confirmable) × WasRepliedTo (nothing_came exchanges observers) first bytes s.coap)
    → ((first : Arrival) (bytes : List ℕ) (observers : ℕ) → is_duplicate_of (arrival from (moment_of s e) m) first ≡ true → WasRepliedTo (nothing_came exchanges observers) first bytes s.coap
    → p.what ≡ repeated (request_type m.kind) first.kind bytes)
    → ActsNoMore exchanges from m s e seen t
by_reply site exchanges observers from m s t e seen p passed (inl is) again_so =
    let stays = subst (λ (x : Heard). AnswersDatagram site from x (record s { moment = moment_of s e; coap = p.server }) p.answer p.middle) is p.answers in record {
      answer = p.answer;
      middle = p.middle;
      nothing = nothing_done e s p.middle t p.answer p.rest seen p.whole p.ends (ap calls_in stays.saw) (ap (λ (x : State). x.thing) stays.next) (ap (λ (x : State). x.directory) stays.next);
      coap = subst (λ (x : Server). OnlyTimePassed (moment_of s e) s.coap x) (sym (ap (λ (x : State). x.coap) stays.next)) passed;
      reply = inl stays.saw;
      kept = λ f b o dup replied. answered_so site from p.what (record s { moment = moment_of s e; coap = p.server }) p.middle p.answer (request_type m.kind) f.kind b p.answers (again_so f b o dup replied);
    }
by_reply site exchanges observers from m s t e seen p passed (inr (first, bytes, is, again, one, other, was)) again_so =
    let does = subst (λ (x : Heard). AnswersDatagram site from x (record s { moment = moment_of s e; coap = p.server }) p.answer p.middle) is p.answers in record {
      answer = p.answer;
      middle = p.middle;
      nothing = nothing_done e s p.middle t p.answer p.rest seen p.whole p.ends (ap calls_in does.saw) (ap (λ (x : State). x.thing) does.next) (ap (λ (x : State). x.directory) does.next);
      coap = subst (λ (x : Server). OnlyTimePassed (moment_of s e) s.coap x) (sym (ap (λ (x : State). x.coap) does.next)) passed;
      reply = inr (first, bytes, observers, does.saw, again, one, other, was);
      kept = λ f b o dup replied. answered_so site from p.what (record s { moment = moment_of s e; coap = p.server }) p.middle p.answer (request_type m.kind) f.kind b p.answers (again_so f b o dup replied);
    }

pub repeats_act_once : RepeatsActOnce
repeats_act_once site exchanges epoch from m s t e seen comes =
    let k = known duplicate site exchanges epoch from m s t e seen comes in
    let b = comes.brings in
    let now = moment_of s e in
    let past : s.coap.exchanges.moment ≤ max s.moment e.event.moment = omega (arith, k.moment) in
    let p = parts_of site from b.size e s t seen b.datagram b.short comes.step in
    let earlier = duplicate_has exchanges (admitted_among exchanges comes.history) (arrival from now m) comes.verdict_is in
    by_reply site exchanges k.did.0 from m s t e seen p
    (duplicates_change_nothing exchanges comes.history s.coap p.server from e.bytes now m p.what earlier.0 k.did past b.spells b.request earlier.1 earlier.2 p.hears)
    (only_the_first_reply_is_repeated exchanges k.did.0 comes.history s.coap p.server from e.bytes now m p.what earlier.0 k.did.1 past b.spells b.request earlier.1 earlier.2 p.hears)
    (λ first bytes observers dup was. (duplicates_get_the_first_reply exchanges was.history was.later was.s was.t s.coap p.server first bytes from e.bytes now m p.what (observers, was.did) was.replied was.since past b.spells b.request dup p.hears).0)

-- ---- a full table

-- it is answered at once, and the exchanges are as they were
record Away (h : Heard) (now : ℕ) (s t : Server) : Type 0 where
  reply : List ℕ
  is : h ≡ answered_at_once reply
  exchanges : t.exchanges ≡ at_moment now s.exchanges
  observers : t.observers ≡ s.observers

same_exchanges : (kind : RequestType) (s : Server) → (with_id_used kind s).exchanges ≡ s.exchanges
same_exchanges Confirmable s = refl
same_exchanges NonConfirmable s = refl

same_observers : (kind : RequestType) (s : Server) → (with_id_used kind s).observers ≡ s.observers
same_observers Confirmable s = refl
same_observers NonConfirmable s = refl

-- the verdict that it met isn't another
not_refused : (exchanges : ℕ) (history : List Arrival) (from : Endpoint) (bytes : List ℕ) (now : ℕ) (m n : CoapMessage) (v : Verdict) → Spells m bytes → Spells n bytes
    → verdict exchanges (admitted_among exchanges history) (arrival from now m) ≡ refused → verdict exchanges (admitted_among exchanges history) (arrival from now n) ≡ v → v ≡ refused
not_refused exchanges history from bytes now m n v one other is was =
    sym was ∙ ap (λ (x : CoapMessage). verdict exchanges (admitted_among exchanges history) (arrival from now x)) (at_most_one_message n m bytes other one) ∙ is

turned_away : (exchanges : ℕ) (history : List Arrival) (from : Endpoint) (bytes : List ℕ) (now : ℕ) (h : Heard) (s t : Server) (m : CoapMessage) → Did exchanges history s
    → s.exchanges.moment ≤ now → Spells m bytes → is_request m ≡ true → verdict exchanges (admitted_among exchanges history) (arrival from now m) ≡ refused
    → Hears from bytes now h s t → Away h now s t
turned_away exchanges history from bytes now h s t m did past spells request is (settled (malformed f fault was same)) = absurd (no_fault_of_message f m bytes spells fault)
turned_away exchanges history from bytes now h s t m did past spells request is (settled (no_request n of_n isnt was same)) =
    absurd (differ (subst (λ (x : CoapMessage). is_request x ≡ false) (at_most_one_message n m bytes of_n spells) isnt))
  where
    differ : is_request m ≡ false → ⊥
    differ isnt' = cc
turned_away exchanges history from bytes now h s t m did past spells request is (settled (settles_duplicate n kept e met found was)) =
    absurd (differ (not_refused exchanges history from bytes now m n duplicate spells met.spells is (met_by exchanges history from bytes now n (Repeat kept) s t did past met)))
  where
    differ : duplicate ≡ refused → ⊥
    differ e = cc
turned_away exchanges history from bytes now h s t m did past spells request is (settled (full n u met was after)) = record {
  reply = _;
  is = was;
  exchanges = ap (λ (x : Server). x.exchanges) after ∙ same_exchanges (request_type n.kind) u ∙ met.meets.1.1;
  observers = ap (λ (x : Server). x.observers) after ∙ same_observers (request_type n.kind) u ∙ met.same_observers;
}
turned_away exchanges history from bytes now h s t m did past spells request is (admitted n slot u met reads) =
    absurd (differ (not_refused exchanges history from bytes now m n is_admitted spells met.spells is (met_by exchanges history from bytes now n (Fresh slot) s u did past met)))
  where
    differ : is_admitted ≡ refused → ⊥
    differ e = cc

pub full_tables_act_on_nothing : FullTablesActOnNothing
full_tables_act_on_nothing site exchanges epoch from m s t e seen comes =
    let k = known refused site exchanges epoch from m s t e seen comes in
    let b = comes.brings in
    let past : s.coap.exchanges.moment ≤ max s.moment e.event.moment = omega (arith, k.moment) in
    let p = parts_of site from b.size e s t seen b.datagram b.short comes.step in
    let away = turned_away exchanges comes.history from e.bytes (moment_of s e) p.what s.coap p.server m k.did past b.spells b.request comes.verdict_is p.hears in
    let does = subst (λ (x : Heard). AnswersDatagram site from x (record s { moment = moment_of s e; coap = p.server }) p.answer p.middle) away.is p.answers in record {
      reply = away.reply;
      middle = p.middle;
      nothing = subst (λ (a : List Sighting). ActsOnNothing e s a p.middle seen t) does.saw
          (nothing_done e s p.middle t p.answer p.rest seen p.whole p.ends (ap calls_in does.saw) (ap (λ (x : State). x.thing) does.next) (ap (λ (x : State). x.directory) does.next));
      exchanges = ap (λ (x : State). x.coap.exchanges) does.next ∙ away.exchanges;
      observers = ap (λ (x : State). x.coap.observers) does.next ∙ away.observers;
    }
