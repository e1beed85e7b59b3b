-- Two answers to one datagram are seen alike, up to a sign that memory was wanting.
use Rattle.std.proofs.Common.{◌≡◌, ℕ, map, List, [], ◌∷◌, ◌++◌, refl, sym, ap, ap₂, subst, ◌∙◌, arith, inl, inr}
use Rattle.std.specs.Prelude.{◌⊎◌}
use Rattle.servient_base.specs.Moves.{Then}
use Rattle.coap_msg.specs.declared.block.Block.{Block}
use Rattle.coap_msg.specs.declared.endpoint.Endpoint.{Endpoint}
use Rattle.coap_msg.specs.Grammar.{CoapMessage, Spells}
use Rattle.thing_ops.specs.declared.outcome.Outcome.TheVariants as outcome
use Rattle.thing_ops.specs.Requests.{RequestSeen}
use Rattle.thing_handler.specs.declared.handler.Answer.{Answer}
use Rattle.thing_handler.specs.Turns.{HandlerCall}
use Rattle.thing_state.specs.State.{State as ThingState, Emission}
use Rattle.thing_core.specs.Thing.{Done, Acts, refuses, has_no_memory, performs, only}
use Rattle.thing_core.proofs.ApartLaws.{PartsAt, part_before}
use Rattle.coap_opts.specs.Reading.{AskSeen, asked as what_is_asked}
use Rattle.coap_bind.specs.declared.pending.PendingReply.{PendingReply}
use Rattle.coap_bind.specs.declared.server.Server.{Server}
use Rattle.coap_bind.specs.declared.blocks.BlockWish.TheVariants as wanted
use Rattle.coap_bind.specs.Writing.{reply_of, head_of, head_in, ReplyHead}
use Rattle.coap_exchange.specs.Table.{Table}
use Rattle.coap_bind.specs.Server.{Heard, ignored, answered_at_once, asked, wanted_in, with_parts, pending_of, pending_joined, Hears, Answers}
use Rattle.servient_trace.specs.Trace.{Sighting, at_handler}
use Rattle.servient_core.specs.Machine.{Site, State, observed_target, AnswersAsk, AnswersDatagram, HearsDatagram, DeliversEach}
use Rattle.servient_laws.specs.Determined.{IsSign, SameTable, SameServer, Alike, Agree, AreAnswered}
use Rattle.servient_laws.proofs.AlikeStates.{Agreed, coap_changed, fits_first, fits_rest, becomes_alike, becomes_agree, joined_alike, joined, server_back, alike_back}
use Rattle.servient_laws.proofs.AlikeTables.{IsLast}
use Rattle.servient_laws.proofs.AlikeAnswers.{SameAsk, SameHeard, same_replies}
use Rattle.servient_laws.proofs.AlikeServers.{OutAtOnce, AnsweredElse, else_replied, else_asked, else_joined, HearAlike, hears_alike, first_refuses, second_refuses, same_hearing}
use Rattle.servient_laws.proofs.AlikeObservers.{same_answers}
use Rattle.servient_laws.proofs.AlikeMoves.{deliveries_agree}
use Rattle.servient_laws.proofs.AlikeRequests.{memory_or_not, Requested, as_one, parted, first_out, second_out, by_things, decided_calls}
use Rattle.servient_laws.proofs.RefusedRequests.{part_here, sent_to, memory_bytes, sent_is_sign, sent_once, no_call_is_sent, RepliesOfMemory, refused_by, AnswerSeen, answer_seen, refusal_seen, other_seen, asks_part}

-- ---- CoAP

answer_agrees : (site : Site) (from : Endpoint) (ask : AskSeen) (r q : PendingReply) (done : Done) (s t u v : State) (a b : List Sighting) → Alike s t → SameAsk r q s.coap t.coap
    → AnswersAsk site from ask r done s a u → AnswersAsk site from ask q done t b v → Agree a b u v
answer_agrees site from ask r q done s t u v a b alike same (x, w) (y, z) =
    let there : Answers q done.outcome (observed_target site s.thing ask) y t.coap z.one.0 =
    subst (λ (k : ThingState). Answers q done.outcome (observed_target site k ask) y t.coap z.one.0) (sym alike.thing) z.one.1 in
    let both = same_answers r q done.outcome (observed_target site s.thing ask) x y s.coap t.coap w.one.0 z.one.0 alike.coap same w.one.1 there in
    let first : Agree w.first z.first w.mid z.mid =
    becomes_alike (record s { coap = w.one.0 }) (record t { coap = z.one.0 }) w.mid z.mid [] [] w.first z.first (coap_changed s t w.one.0 z.one.0 alike both.1) refl w.one.2 z.one.2 in
    let second : Agree w.second z.second u v =
    becomes_alike w.mid z.mid u v (sent_to from x ∷ []) (sent_to from y ∷ []) w.second z.second first.state (ap (λ (bytes : List ℕ). sent_to from bytes ∷ []) both.0) w.other z.other in
    joined_alike w.first z.first w.second z.second a b w.mid z.mid u v first second w.whole z.whole

-- a request is performed, answered and delivered
asked_agrees : (answers : ℕ → Answer) (site : Site) (from : Endpoint) (ask : AskSeen) (r q : PendingReply) (s t u v : State) (a b : List Sighting) → Alike s t → SameAsk r q s.coap t.coap
    → AnswersDatagram site from (asked ask r) s a u → AnswersDatagram site from (asked ask q) t b v → AreAnswered answers a → AreAnswered answers b → Agreed a b u v
asked_agrees answers site from ask r q s t u v a b alike same (x, p) (y, w) on_a on_b =
    by (by_things answers site ask.request x y s t p.mid w.mid p.first w.first alike p.one w.one (fits_first answers p.first p.second a p.whole on_a) (fits_first answers w.first w.second b w.whole on_b))
  where
    a_two : AreAnswered answers p.second
    a_two = fits_rest answers p.first p.second a p.whole on_a

    b_two : AreAnswered answers w.second
    b_two = fits_rest answers w.first w.second b w.whole on_b

    a_is : a ≡ p.first ++ (p.other.first ++ p.other.second)
    a_is = p.whole ∙ ap (λ (z : List Sighting). p.first ++ z) p.other.whole

    b_is : b ≡ w.first ++ (w.other.first ++ w.other.second)
    b_is = w.whole ∙ ap (λ (z : List Sighting). w.first ++ z) w.other.whole

    after : x ≡ y → Agree p.first w.first p.mid w.mid → Agreed p.second w.second u v
    after done first =
        let asks_there : SameAsk r q p.mid.coap w.mid.coap =
        subst (λ (c : Server). SameAsk r q p.mid.coap c) (sym (ap (λ (z : State). z.coap) w.one.3.next))
        (subst (λ (c : Server). SameAsk r q c t.coap) (sym (ap (λ (z : State). z.coap) p.one.3.next)) same) in
        let there : Then (AnswersAsk site from ask q x) (DeliversEach x.emissions) w.mid w.second v =
        subst (λ (z : Done). Then (AnswersAsk site from ask q z) (DeliversEach z.emissions) w.mid w.second v) (sym done) w.other in
        joined p.other.first there.first p.other.second there.second p.second w.second p.other.mid there.mid u v
        (inl (answer_agrees site from ask r q x p.mid w.mid p.other.mid there.mid p.other.first there.first first.state asks_there p.other.one there.one))
        (λ written. deliveries_agree answers x.emissions p.other.mid there.mid u v p.other.second there.second written.state p.other.other there.other
        (fits_rest answers p.other.first p.other.second p.second p.other.whole a_two) (fits_rest answers there.first there.second w.second there.whole b_two))
        p.other.whole there.whole

    -- the next ids, which a request to a Thing doesn't change
    first_id : p.mid.coap.next_id ≡ s.coap.next_id
    first_id = ap (λ (z : State). z.coap.next_id) p.one.3.next

    second_id : w.mid.coap.next_id ≡ t.coap.next_id
    second_id = ap (λ (z : State). z.coap.next_id) w.one.3.next

    ids : p.mid.coap.next_id ≡ w.mid.coap.next_id
    ids = first_id ∙ alike.coap.next ∙ sym second_id

    by : Requested x y p.first w.first p.mid w.mid → Agreed a b u v
    by (as_one done first) = joined p.first w.first p.second w.second a b p.mid w.mid u v (inl first) (λ one. after done one) p.whole w.whole
    by (parted parts) = inr (part_before IsSign p.first w.first p.second w.second a b p.whole w.whole parts)
    by (first_out none is goes beside) =
        inr (inl (subst (λ (z : List Sighting). PartsAt IsSign z b) (sym a_is) (subst (λ (z : List Sighting). PartsAt IsSign (p.first ++ (p.other.first ++ p.other.second)) z) (sym b_is)
        (asks_part site from ask r q x y p.mid w.mid p.other.mid w.other.mid p.first w.first p.other.first w.other.first p.other.second w.other.second is goes same.head ids p.other.one w.other.one none))))
    by (second_out none is goes beside) =
        inr (inr (subst (λ (z : List Sighting). PartsAt IsSign z a) (sym b_is) (subst (λ (z : List Sighting). PartsAt IsSign (w.first ++ (w.other.first ++ w.other.second)) z) (sym a_is)
        (asks_part site from ask q r y x w.mid p.mid w.other.mid p.other.mid w.first p.first w.other.first p.other.first w.other.second p.other.second is goes (sym same.head) (sym ids) w.other.one p.other.one none))))

-- the answer to a datagram that was heard
heard_agrees : (answers : ℕ → Answer) (site : Site) (from : Endpoint) (h k : Heard) (s t u v : State) (a b : List Sighting) → SameHeard h k s.coap t.coap → Alike s t
    → AnswersDatagram site from h s a u → AnswersDatagram site from k t b v → AreAnswered answers a → AreAnswered answers b → Agreed a b u v
heard_agrees answers site from ignored ignored s t u v a b same alike p q on_a on_b = becomes_agree s t u v [] [] a b alike refl p q
heard_agrees answers site from (answered_at_once x) (answered_at_once y) s t u v a b same alike p q on_a on_b =
    becomes_agree s t u v (sent_to from x ∷ []) (sent_to from y ∷ []) a b alike (ap (λ (bytes : List ℕ). sent_to from bytes ∷ []) same) p q
heard_agrees answers site from (asked ask r) (asked other q) s t u v a b same alike p w on_a on_b =
    asked_agrees answers site from ask r q s t u v a b alike same.1 p (subst (λ (x : AskSeen). AnswersDatagram site from (asked x q) t b v) (sym same.0) w) on_a on_b
heard_agrees answers site from ignored (answered_at_once y) s t u v a b same alike p q on_a on_b = absurd same
heard_agrees answers site from ignored (asked other q) s t u v a b same alike p w on_a on_b = absurd same
heard_agrees answers site from (answered_at_once x) ignored s t u v a b same alike p q on_a on_b = absurd same
heard_agrees answers site from (answered_at_once x) (asked other q) s t u v a b same alike p w on_a on_b = absurd same
heard_agrees answers site from (asked ask r) ignored s t u v a b same alike p w on_a on_b = absurd same
heard_agrees answers site from (asked ask r) (answered_at_once y) s t u v a b same alike p w on_a on_b = absurd same

-- ---- a request that is refused before it is asked

-- What is seen of one that is asked begins with something else than its refusal; or it is refused, too.
data AsksOrRefused (from : Endpoint) (r : PendingReply) (t : State) (b : List Sighting) (v : State) : Type 0 where
  asks_otherwise : (y : Sighting) (other : List Sighting) → b ≡ y ∷ other → (y ≡ sent_to from (memory_bytes (head_in r) t.coap.next_id) → ⊥) → AsksOrRefused from r t b v
  is_refused : (bytes : List ℕ) (d : Server) → b ≡ sent_to from (memory_bytes (head_in r) t.coap.next_id) ∷ [] → RepliesOfMemory r bytes t.coap d → v ≡ record t { coap = d } → AsksOrRefused from r t b v

-- one that made no call and was out of memory did nothing
did_nothing : (site : Site) (q : RequestSeen) (done : Done) (s t : ThingState) (calls : List HandlerCall) → Acts site q done s calls t → calls ≡ [] → done.outcome ≡ outcome.Memory
    → (done ≡ only outcome.Memory) × (t ≡ s)
did_nothing site q done s t calls (has_no_memory answers) none memory = (answers.0, answers.1.next)
did_nothing site q done s t calls (refuses o is answers) none memory = absurd (decided_calls site q done s t calls (refuses o is answers) tt none memory)
did_nothing site q done s t calls (performs act inputs free found given move) none memory = absurd (decided_calls site q done s t calls (performs act inputs free found given move) tt none memory)

asks_or_refused : (site : Site) (from : Endpoint) (ask : AskSeen) (r : PendingReply) (t v : State) (b : List Sighting) → AnswersDatagram site from (asked ask r) t b v → AsksOrRefused from r t b v
asks_or_refused site from ask r t v b (y, w) = by w.one.1 refl (memory_or_not y.outcome)
  where
    id : w.mid.coap.next_id ≡ t.coap.next_id
    id = ap (λ (z : State). z.coap.next_id) w.one.3.next

    e : AnswerSeen from r y.outcome (observed_target site w.mid.thing ask) w.mid w.other.first w.other.mid
    e = answer_seen site from ask r y w.mid w.other.mid w.other.first w.other.one

    b_is : (calls : List HandlerCall) → w.one.1 ≡ calls → b ≡ map at_handler calls ++ (w.other.first ++ w.other.second)
    b_is calls is = w.whole ∙ ap₂ (λ (z l : List Sighting). z ++ l) (w.one.3.saw ∙ ap (λ (cs : List HandlerCall). map at_handler cs) is) w.other.whole

    by : (calls : List HandlerCall) → w.one.1 ≡ calls → (y.outcome ≡ outcome.Memory) ⊎ (y.outcome ≡ outcome.Memory → ⊥) → AsksOrRefused from r t b v
    by (c ∷ calls) is memory =
        asks_otherwise (at_handler c) (map at_handler calls ++ (w.other.first ++ w.other.second)) (b_is (c ∷ calls) is) (no_call_is_sent c from (memory_bytes (head_in r) t.coap.next_id))
    by [] is (inr isnt) =
        asks_otherwise (sent_to from e.bytes) w.other.second (b_is [] is ∙ ap (λ (z : List Sighting). z ++ w.other.second) e.seen)
        (λ same. other_seen from r y.outcome (observed_target site w.mid.thing ask) w.mid w.other.mid w.other.first isnt e
        (sent_once from e.bytes (memory_bytes (head_in r) t.coap.next_id) same ∙ ap (λ (n : ℕ). memory_bytes (head_in r) n) (sym id)))
    by [] is (inl memory) =
        let nothing = did_nothing site ask.request y t.thing w.one.0 w.one.1 w.one.2 is memory in
        let mid_is : w.mid ≡ t = w.one.3.next ∙ ap (λ (k : ThingState). record t { thing = k }) nothing.1 in
        let delivered : DeliversEach [] w.other.mid w.other.second v = subst (λ (es : List Emission). DeliversEach es w.other.mid w.other.second v) (ap (λ (d : Done). d.emissions) nothing.0) w.other.other in
        let seen = refusal_seen from r y.outcome (observed_target site w.mid.thing ask) w.mid w.other.mid w.other.first memory e in
        is_refused e.bytes e.coap
        (b_is [] is ∙ ap₂ (λ (z l : List Sighting). z ++ l) (seen ∙ ap (λ (n : ℕ). sent_to from (memory_bytes (head_in r) n) ∷ []) id) delivered.saw)
        (subst (λ (z : State). RepliesOfMemory r e.bytes z.coap e.coap) mid_is (refused_by r y.outcome (observed_target site w.mid.thing ask) e.bytes w.mid.coap e.coap memory e.answers))
        (delivered.next ∙ e.after ∙ ap (λ (z : State). record z { coap = e.coap }) mid_is)

-- both begin with the same sign
pub record BothBegin (a b : List Sighting) : Type 0 where
  pub sign : Sighting
  pub later : List Sighting
  pub other : List Sighting
  pub first : a ≡ sign ∷ later
  pub second : b ≡ sign ∷ other
  pub is_sign : IsSign sign

-- these bytes are a message that brings a block of a request
pub record AreBlock (bytes : List ℕ) : Type 0 where
  pub message : CoapMessage
  pub spells : Spells message bytes
  pub block : Block
  pub joins : wanted_in message ≡ wanted.Joining block

-- Two that hear a datagram agree; or it brings a block, which both refuse.
pub data HeardBoth (bytes : List ℕ) (a b : List Sighting) (u v : State) : Type 0 where
  both_agree : Agreed a b u v → HeardBoth bytes a b u v
  both_refuse : AreBlock bytes → BothBegin a b → HeardBoth bytes a b u v

heard_back : (bytes : List ℕ) (a b : List Sighting) (u v : State) → HeardBoth bytes a b u v → HeardBoth bytes b a v u
heard_back bytes a b u v (both_agree (inl one)) = both_agree (inl (record { seen = sym one.seen; state = alike_back u v one.state }))
heard_back bytes a b u v (both_agree (inr (inl e))) = both_agree (inr (inr e))
heard_back bytes a b u v (both_agree (inr (inr e))) = both_agree (inr (inl e))
heard_back bytes a b u v (both_refuse is both) =
    both_refuse is (record { sign = both.sign; later = both.other; other = both.later; first = both.second; second = both.first; is_sign = both.is_sign })

-- the one is refused at once
refused_at_once : (site : Site) (from : Endpoint) (bytes : List ℕ) (now : ℕ) (m : CoapMessage) (slot other : ℕ) (h k : Heard) (c d : Server) (s t u v : State) (a b : List Sighting)
    → Spells m bytes → SameServer c d → IsLast slot c.exchanges → IsLast other d.exchanges → OutAtOnce m slot h c s.coap → AnsweredElse from now m other k d t.coap
    → ((x y : Server) → SameServer x y → Alike (record s { coap = x }) (record t { coap = y })) → AnswersDatagram site from h s a u → AnswersDatagram site from k t b v → HeardBoth bytes a b u v
refused_at_once site from bytes now m slot other h k c d s t u v a b spells same l n out otherwise alike one two = by otherwise
  where
    refusal : List ℕ
    refusal = memory_bytes (head_of m) d.next_id

    bytes_are : out.bytes ≡ refusal
    bytes_are = out.replies.bytes_are ∙ ap (λ (i : ℕ). memory_bytes (head_of m) i) same.next

    does : AnswersDatagram site from (answered_at_once out.bytes) s a u
    does = subst (λ (x : Heard). AnswersDatagram site from x s a u) out.is one

    seen : a ≡ sent_to from refusal ∷ []
    seen = does.saw ∙ ap (λ (x : List ℕ). sent_to from x ∷ []) bytes_are

    parts : (y : Sighting) (more : List Sighting) → b ≡ y ∷ more → (y ≡ sent_to from refusal → ⊥) → HeardBoth bytes a b u v
    parts y more saw apart = both_agree (inr (inl (part_here (sent_to from refusal) y [] more a b (sent_is_sign from (head_of m) d.next_id) apart seen saw)))

    -- the other is asked, by a server of this next id, with a pending reply of this head
    by_asking : (r : PendingReply) → head_in r ≡ head_of m → t.coap.next_id ≡ d.next_id
        → ((e : List ℕ) (f : Server) → b ≡ sent_to from refusal ∷ [] → RepliesOfMemory r e t.coap f → v ≡ record t { coap = f } → HeardBoth bytes a b u v)
        → AsksOrRefused from r t b v → HeardBoth bytes a b u v
    by_asking r heads ids both (asks_otherwise y more saw apart) =
        parts y more saw (λ is. apart (is ∙ ap₂ (λ (p : ReplyHead) (i : ℕ). sent_to from (memory_bytes p i)) (sym heads) (sym ids)))
    by_asking r heads ids both (is_refused e f saw replies after) =
        both e f (saw ∙ ap₂ (λ (p : ReplyHead) (i : ℕ). sent_to from (memory_bytes p i) ∷ []) heads ids) replies after

    -- it is refused, too, and the servers are alike
    refused_too : t.coap ≡ d → (e : List ℕ) (f : Server) → b ≡ sent_to from refusal ∷ [] → RepliesOfMemory (pending_of from now m other) e t.coap f → v ≡ record t { coap = f } → HeardBoth bytes a b u v
    refused_too stay e f saw replies after =
        let tables : replies.between.exchanges ≡ d.exchanges = replies.table ∙ ap (λ (x : Server). x.exchanges) stay in
        let servers : SameServer (with_parts out.parts c) replies.between = record {
          table = subst (λ (x : Table). SameTable c.exchanges x) (sym tables) same.table;
          observers = same.observers ∙ sym (replies.observers ∙ ap (λ (x : Server). x.observers) stay);
          next = same.next ∙ sym (replies.next ∙ ap (λ (x : Server). x.next_id) stay);
          bodies = same.bodies ∙ sym (replies.bodies ∙ ap (λ (x : Server). x.bodies) stay);
          parts = out.stay ∙ same.parts ∙ sym (replies.parts ∙ ap (λ (x : Server). x.parts) stay);
          links = same.links ∙ sym (replies.links ∙ ap (λ (x : Server). x.links) stay);
        } in
        let both = same_replies (reply_of outcome.Memory) (head_of m) slot (head_in (pending_of from now m other)) other out.bytes e (with_parts out.parts c) replies.between s.coap f servers refl l
        (subst (λ (x : Table). IsLast other x) (sym tables) n) out.replies replies.replies in
        both_agree (inl (record {
          seen = seen ∙ sym saw;
          state = subst (λ (x : State). Alike u x) (sym after) (subst (λ (x : State). Alike x (record t { coap = f })) (sym does.next) (alike s.coap f both.1));
        }))

    by : AnsweredElse from now m other k d t.coap → HeardBoth bytes a b u v
    by (else_replied x is isnt) =
        let sends : AnswersDatagram site from (answered_at_once x) t b v = subst (λ (y : Heard). AnswersDatagram site from y t b v) is two in
        parts (sent_to from x) [] sends.saw (λ like. isnt (sent_once from x refusal like))
    by (else_asked is stay) =
        by_asking (pending_of from now m other) refl (ap (λ (x : Server). x.next_id) stay) (refused_too stay)
        (asks_or_refused site from (what_is_asked m) (pending_of from now m other) t v b (subst (λ (y : Heard). AnswersDatagram site from y t b v) is two))
    by (else_joined block ask joins is stay) =
        by_asking (pending_joined from m other block) refl stay
        (λ e f saw replies after. both_refuse (record { message = m; spells = spells; block = block; joins = joins })
        (record { sign = sent_to from refusal; later = []; other = []; first = seen; second = saw; is_sign = sent_is_sign from (head_of m) d.next_id }))
        (asks_or_refused site from ask (pending_joined from m other block) t v b (subst (λ (y : Heard). AnswersDatagram site from y t b v) is two))

pub datagram_agrees : (answers : ℕ → Answer) (site : Site) (from : Endpoint) (bytes : List ℕ) (s t u v : State) (a b : List Sighting) → Alike s t
    → HearsDatagram site from bytes s a u → HearsDatagram site from bytes t b v → AreAnswered answers a → AreAnswered answers b → HeardBoth bytes a b u v
datagram_agrees answers site from bytes s t u v a b alike (inl p) (inl q) on_a on_b = both_agree (becomes_agree s t u v [] [] a b alike refl p.1 q.1)
datagram_agrees answers site from bytes s t u v a b alike (inl p) (inr q) on_a on_b = absurd (omega (arith, p.0, q.0))
datagram_agrees answers site from bytes s t u v a b alike (inr p) (inl q) on_a on_b = absurd (omega (arith, p.0, q.0))
datagram_agrees answers site from bytes s t u v a b alike (inr (short, (h, p))) (inr (short', (k, q))) on_a on_b =
    by (same_hearing from bytes s.moment h k s.coap t.coap p.one.0 q.one.0 alike.coap p.one.1 (subst (λ (now : ℕ). Hears from bytes now k t.coap q.one.0) (sym alike.moment) q.one.1))
  where
    first_is : p.mid ≡ record s { coap = p.one.0 }
    first_is = p.one.2.next

    second_is : q.mid ≡ record t { coap = q.one.0 }
    second_is = q.one.2.next

    a_is : a ≡ p.second
    a_is = p.whole ∙ ap (λ (x : List Sighting). x ++ p.second) p.one.2.saw

    b_is : b ≡ q.second
    b_is = q.whole ∙ ap (λ (x : List Sighting). x ++ q.second) q.one.2.saw

    with_servers : (x y : Server) → SameServer x y → Alike (record p.mid { coap = x }) (record q.mid { coap = y })
    with_servers x y same =
        subst (λ (m : State). Alike (record m { coap = x }) (record q.mid { coap = y })) (sym first_is)
        (subst (λ (m : State). Alike (record s { coap = x }) (record m { coap = y })) (sym second_is) (coap_changed s t x y alike same))

    heard : HeardBoth bytes p.second q.second u v → HeardBoth bytes a b u v
    heard both = subst (λ (x : List Sighting). HeardBoth bytes x b u v) (sym a_is) (subst (λ (x : List Sighting). HeardBoth bytes p.second x u v) (sym b_is) both)

    by : HearAlike from bytes s.moment h k p.one.0 q.one.0 → HeardBoth bytes a b u v
    by (hears_alike same servers) =
        let there : SameHeard h k p.mid.coap q.mid.coap =
        subst (λ (x : Server). SameHeard h k p.mid.coap x) (sym (ap (λ (z : State). z.coap) second_is)) (subst (λ (x : Server). SameHeard h k x q.one.0) (sym (ap (λ (z : State). z.coap) first_is)) same) in
        let first : Agree p.first q.first p.mid q.mid =
        becomes_alike (record s { coap = p.one.0 }) (record t { coap = q.one.0 }) p.mid q.mid [] [] p.first q.first (coap_changed s t p.one.0 q.one.0 alike servers) refl p.one.2 q.one.2 in
        both_agree (joined p.first q.first p.second q.second a b p.mid q.mid u v (inl first)
        (λ one. heard_agrees answers site from h k p.mid q.mid u v p.second q.second there one.state p.other q.other
        (fits_rest answers p.first p.second a p.whole on_a) (fits_rest answers q.first q.second b q.whole on_b)) p.whole q.whole)
    by (first_refuses m slot other c d spells same l n out otherwise) =
        heard (refused_at_once site from bytes s.moment m slot other h k c d p.mid q.mid u v p.second q.second spells same l n
        (subst (λ (x : Server). OutAtOnce m slot h c x) (sym (ap (λ (z : State). z.coap) first_is)) out)
        (subst (λ (x : Server). AnsweredElse from s.moment m other k d x) (sym (ap (λ (z : State). z.coap) second_is)) otherwise) with_servers p.other q.other)
    by (second_refuses m slot other c d spells same l n out otherwise) =
        heard (heard_back bytes q.second p.second v u
        (refused_at_once site from bytes s.moment m other slot k h d c q.mid p.mid v u q.second p.second spells (server_back c d same) n l
        (subst (λ (x : Server). OutAtOnce m other k d x) (sym (ap (λ (z : State). z.coap) second_is)) out)
        (subst (λ (x : Server). AnsweredElse from s.moment m slot h c x) (sym (ap (λ (z : State). z.coap) first_is)) otherwise)
        (λ x y same. alike_back (record p.mid { coap = y }) (record q.mid { coap = x }) (with_servers y x (server_back x y same))) q.other p.other))
