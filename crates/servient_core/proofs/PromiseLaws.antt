-- Duplicates of requests, and a full table.
use Rattle.std.proofs.Common.{◌≡◌, ℕ, ◌≤◌, List, [], ◌∷◌, ◌++◌, length, refl, ap, subst, ◌∙◌, arith, inl, inr, true, false}
use Rattle.std.specs.Prelude.{Some, None}
use Rattle.servient_base.specs.Moves.{Becomes}
use Rattle.coap_msg.specs.declared.endpoint.Endpoint.{Endpoint}
use Rattle.coap_msg.specs.declared.message.RequestType.{RequestType}
use Rattle.coap_msg.specs.declared.message.RequestType.TheVariants.{Confirmable, NonConfirmable}
use Rattle.coap_msg.specs.Grammar.{CoapMessage, Spells}
use Rattle.coap_msg.specs.Requests.{request_type}
use Rattle.coap_msg.proofs.Messages.{at_most_one_message}
use Rattle.coap_msg.proofs.FaultLaws.{no_fault_of_message}
use Rattle.coap_exchange.specs.Table.{at_moment, duplicated_exchange}
use Rattle.coap_opts.specs.Reading.{AskSeen}
use Rattle.coap_bind.specs.declared.pending.PendingReply.{PendingReply}
use Rattle.coap_bind.specs.declared.server.Server.{Server}
use Rattle.coap_bind.specs.Server.{Heard, ignored, answered_at_once, asked, arrival, is_request, with_id_used, malformed, no_request, duplicate, full, Hears, settled, admitted}
use Rattle.coap_bind.proofs.HistoryLaws.{duplicates_ask_nothing}
use Rattle.servient_outside.specs.declared.net.Act.TheVariants as act
use Rattle.servient_outside.specs.Network.{did}
use Rattle.servient_trace.specs.Trace.{Sighting, at_network, calls_in}
use Rattle.servient_core.specs.Machine.{Site, State, AnswersDatagram}
use Rattle.servient_core.specs.Promises.{ActsOnNothing, DuplicatesActOnNothing, FullTableActsOnNothing}

pub acts_as : (s u t : State) (shown seen : List Sighting) → Becomes u shown seen t → u.thing ≡ s.thing → u.directory ≡ s.directory → calls_in shown ≡ []
    → ActsOnNothing s seen t
acts_as s u t shown seen b same kept none =
    record { calls = ap calls_in b.saw ∙ none; thing = ap (λ (x : State). x.thing) b.next ∙ same; directory = ap (λ (x : State). x.directory) b.next ∙ kept }

-- a message that asks for nothing acts on nothing
unasked_acts : (site : Site) (from : Endpoint) (h : Heard) (s m t : State) (first seen second : List Sighting) → m.thing ≡ s.thing → m.directory ≡ s.directory → first ≡ []
    → seen ≡ first ++ second → ((ask : AskSeen) (request : PendingReply) → ¬ (h ≡ asked ask request)) → AnswersDatagram site from h m second t → ActsOnNothing s seen t
unasked_acts site from ignored s m t first seen second same kept none whole never stays =
    let all : seen ≡ second = whole ∙ ap (λ (x : List Sighting). x ++ second) none in
    record { calls = ap calls_in (all ∙ stays.saw); thing = ap (λ (x : State). x.thing) stays.next ∙ same; directory = ap (λ (x : State). x.directory) stays.next ∙ kept }
unasked_acts site from (answered_at_once bytes) s m t first seen second same kept none whole never does =
    let all : seen ≡ second = whole ∙ ap (λ (x : List Sighting). x ++ second) none in
    record { calls = ap calls_in (all ∙ does.saw); thing = ap (λ (x : State). x.thing) does.next ∙ same; directory = ap (λ (x : State). x.directory) does.next ∙ kept }
unasked_acts site from (asked ask request) s m t first seen second same kept none whole never is = absurd (never ask request refl)

pub duplicates_act_on_nothing : DuplicatesActOnNothing
duplicates_act_on_nothing site from bytes s seen t m capacity history earlier (inl long) past later spells has again =
    record { calls = ap calls_in long.1.saw; thing = ap (λ (x : State). x.thing) long.1.next; directory = ap (λ (x : State). x.directory) long.1.next }
duplicates_act_on_nothing site from bytes s seen t m capacity history earlier (inr heard) past later spells has again =
    let h = heard.1.0 in
    let both = heard.1.1 in
    let on = both.one in
    unasked_acts site from h s both.mid t both.first seen both.second (ap (λ (x : State). x.thing) on.2.next) (ap (λ (x : State). x.directory) on.2.next) on.2.saw both.whole
    (λ ask request is. duplicates_ask_nothing capacity history s.coap on.0 from bytes s.moment m earlier past later spells has again ask request
    (subst (λ (x : Heard). Hears from bytes s.moment x s.coap on.0) is on.1))
    both.other

-- ---- a full table

-- a request that finds it full is answered at once, and the exchanges are as they were
pub record IsTurnedAway (h : Heard) (now : ℕ) (s t : Server) : Type 0 where
  pub reply : List ℕ
  pub at_once : h ≡ answered_at_once reply
  pub exchanges : t.exchanges ≡ at_moment now s.exchanges

same_exchanges : (kind : RequestType) (s : Server) → (with_id_used kind s).exchanges ≡ s.exchanges
same_exchanges Confirmable s = refl
same_exchanges NonConfirmable s = refl

turned_away : (from : Endpoint) (bytes : List ℕ) (now : ℕ) (h : Heard) (s t : Server) (m : CoapMessage) → Spells m bytes → is_request m ≡ true
    → duplicated_exchange (arrival from now m) (at_moment now s.exchanges) ≡ None → s.exchanges.capacity ≤ length (at_moment now s.exchanges).exchanges
    → Hears from bytes now h s t → IsTurnedAway h now s t
turned_away from bytes now h s t m spells request none many (settled (malformed f fault is same)) = absurd (no_fault_of_message f m bytes spells fault)
turned_away from bytes now h s t m spells request none many (settled (no_request n of_n isnt is same)) =
    absurd (differ (subst (λ (x : CoapMessage). is_request x ≡ false) (at_most_one_message n m bytes of_n spells) isnt))
  where
    differ : is_request m ≡ false → ⊥
    differ isnt' = cc
turned_away from bytes now h s t m spells request none many (settled (duplicate n kept e met found is)) =
    absurd (differ (subst (λ (x : CoapMessage). duplicated_exchange (arrival from now x) (at_moment now s.exchanges) ≡ Some e) (at_most_one_message n m bytes met.spells spells) found))
  where
    differ : duplicated_exchange (arrival from now m) (at_moment now s.exchanges) ≡ Some e → ⊥
    differ found' = cc
turned_away from bytes now h s t m spells request none many (settled (full n u met is after)) = record {
  reply = _;
  at_once = is;
  exchanges = ap (λ (x : Server). x.exchanges) after ∙ same_exchanges (request_type n.kind) u ∙ met.meets.1.1;
}
turned_away from bytes now h s t m spells request none many (admitted n slot u met reads) = absurd (omega (arith, many, met.meets.1.0))

answered_once : (site : Site) (from : Endpoint) (h : Heard) (reply : List ℕ) (s m t : State) (first seen second : List Sighting) → h ≡ answered_at_once reply → first ≡ [] → seen ≡ first ++ second
    → AnswersDatagram site from h m second t → (seen ≡ at_network (did (act.Datagram from reply)) ∷ []) × (t ≡ m)
answered_once site from h reply s m t first seen second is none whole responds =
    let does = subst (λ (x : Heard). AnswersDatagram site from x m second t) is responds in
    (whole ∙ ap (λ (x : List Sighting). x ++ second) none ∙ does.saw, does.next)

pub full_table_acts_on_nothing : FullTableActsOnNothing
full_table_acts_on_nothing site from bytes s seen t m (inl long) short spells over = absurd (omega (arith, long.0, short))
full_table_acts_on_nothing site from bytes s seen t m (inr heard) short spells over =
    let h = heard.1.0 in
    let both = heard.1.1 in
    let on = both.one in
    let away = turned_away from bytes s.moment h s.coap on.0 m spells over.request over.no_duplicate over.capacity on.1 in
    let once = answered_once site from h away.reply s both.mid t both.first seen both.second away.at_once on.2.saw both.whole both.other in (
      record { calls = ap calls_in once.0; thing = ap (λ (x : State). x.thing) (once.1 ∙ on.2.next); directory = ap (λ (x : State). x.directory) (once.1 ∙ on.2.next) },
      ap (λ (x : State). x.coap.exchanges) (once.1 ∙ on.2.next) ∙ away.exchanges,
      away.reply,
      once.0,
    )
