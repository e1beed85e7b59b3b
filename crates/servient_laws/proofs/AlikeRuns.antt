-- Two runs with the same events and answers are seen alike, up to a sign that memory was wanting.
use Rattle.std.proofs.Common.{◌≡◌, ℕ, true, false, max, List, [], ◌∷◌, ◌++◌, Option, refl, sym, ap, ap₂, subst, ◌∙◌, inl, inr}
use Rattle.std.specs.Prelude.{◌⊎◌}
use Rattle.servient_base.specs.Moves.{Then, is_done, goes_on}
use Rattle.coap_msg.specs.declared.endpoint.Endpoint.{Endpoint}
use Rattle.thing_ops.specs.declared.outcome.Outcome.TheVariants as outcome
use Rattle.thing_ops.specs.Requests.{RequestSeen}
use Rattle.thing_handler.specs.declared.handler.Answer.{Answer}
use Rattle.thing_site.specs.Site.{events_of}
use Rattle.thing_core.specs.Thing.{Done, only}
use Rattle.thing_core.proofs.ApartLaws.{PartsAt, part_before}
use Rattle.http_bind.specs.Streams.{HttpReply, Streams, Taken, asks, wants_continue, is_faulty, interrupts, Opened, Ended, Lengthened, Takes, IsDry, Answers as AnswersRequest, Continues, Refuses}
use Rattle.servient_outside.specs.declared.net.What.{What}
use Rattle.servient_outside.specs.declared.net.What.TheVariants as what
use Rattle.servient_outside.specs.declared.net.EventWithBytes.{EventWithBytes}
use Rattle.servient_outside.specs.declared.net.Act.TheVariants as act
use Rattle.servient_outside.specs.Network.{heard}
use Rattle.servient_trace.specs.Trace.{Sighting, at_network, at_handler}
use Rattle.servient_core.specs.Machine.{Site, State, start, DeliversEach, Sends, SendsIfAny, AnswersMessage, AnswersTaken, TakesNextMessage, TakesEveryMessage, HearsPiece, PollsAndDelivers, Follows, Step, EventAndStep, Run}
use Rattle.servient_laws.specs.Determined.{by_http, IsSign, BringsBlock, Alike, Agree, AreAnswered, RunsAreDetermined}
use Rattle.servient_laws.proofs.AlikeStates.{AgreeAs, alike_self, fits_first, fits_rest, becomes_alike, becomes_agree, joined, then_agree, each_agree, alike_back, passing_http, on_http, http_agree}
use Rattle.servient_laws.proofs.AlikeStreams.{taken_once, dry_takes, answered_once}
use Rattle.servient_laws.proofs.AlikeMoves.{does_agree, sends_agree, if_any_agree, deliveries_agree, ends_agree}
use Rattle.servient_laws.proofs.AlikeRequests.{GoesOn, has_called, has_ended, Requested, as_one, parted, first_out, second_out, by_http as performed_by_http, poll_agrees}
use Rattle.servient_laws.proofs.OwedReplies.{Owes, IsNoRefusal, Passed, deliveries_pass, messages_pass, ends_pass, events_pass}
use Rattle.servient_laws.proofs.RefusedRequests.{part_here, sent_on, no_call_is_sent_on, RefusedByHttp, refused_by_http, AnsweredByHttp, has_replied, has_to_wait, answered_by_http}
use Rattle.servient_laws.proofs.RunParts.{Told, Ran, agreed, refused, first_told, second_told, of_these, ran_after, ran_then, ran_determined}
use Rattle.servient_laws.proofs.AlikeDatagrams.{BothBegin, HeardBoth, datagram_agrees, both_agree, both_refuse}

-- ---- HTTP

message_agrees : (answers : ℕ → Answer) (c : ℕ) (done : Done) → AgreeAs answers (AnswersMessage c done) (AnswersMessage c done)
message_agrees answers c done =
    passing_http answers (λ (reply : Option HttpReply) now. AnswersRequest c done.outcome now reply) (SendsIfAny c)
    (λ x y now h k l p q. answered_once c done.outcome x y now h k l p q) (if_any_agree answers c)

-- A request of one connection was refused before its first call in one run, and the same one goes on in another: they
-- part, or it waits there and nothing more is seen.
messages_part : (c : ℕ) (x y : Done) (m n k l v : State) (a b first second more other seen shown : List Sighting) → x ≡ only outcome.Memory → GoesOn b y
    → AnswersMessage c x m first k → AnswersMessage c y n second l → DeliversEach y.emissions l other v → a ≡ [] → seen ≡ a ++ (first ++ more) → shown ≡ b ++ (second ++ other)
    → PartsAt IsSign seen shown ⊎ Told (λ d. d ≡ c) seen shown v
messages_part c x y m n k l v a b first second more other seen shown is goes one two delivers none whole all = by goes
  where
    r : RefusedByHttp c first
    r = refused_by_http c x m k first (ap (λ (d : Done). d.outcome) is) one

    sign : Sighting
    sign = sent_on c r.bytes

    is_sign : IsSign sign
    is_sign = by_http c r.bodiless r.closes r.bytes r.says refl

    begins : seen ≡ sign ∷ (r.more ++ more)
    begins = whole ∙ ap₂ (λ (z w : List Sighting). z ++ (w ++ more)) none r.seen

    parts : (z : Sighting) (rest : List Sighting) → IsNoRefusal c z → shown ≡ z ∷ rest → PartsAt IsSign seen shown ⊎ Told (λ d. d ≡ c) seen shown v
    parts z rest isnt saw = inl (part_here sign z (r.more ++ more) rest seen shown is_sign (isnt r.bodiless r.closes r.bytes r.says) begins saw)

    waits : b ≡ [] → second ≡ [] → Passed c other v → PartsAt IsSign seen shown ⊎ Told (λ d. d ≡ c) seen shown v
    waits nothing silent (inr otherwise) =
        parts otherwise.instead otherwise.other otherwise.is_no_refusal (all ∙ ap₂ (λ (z w : List Sighting). z ++ (w ++ other)) nothing silent ∙ otherwise.whole)
    waits nothing silent (inl (quiet, owes)) =
        let shown_is : shown ≡ [] = all ∙ ap₂ (λ (z w : List Sighting). z ++ (w ++ other)) nothing silent ∙ quiet in
        inr (record {
          connection = c;
          of = refl;
          sign = sign;
          rest = r.more ++ more;
          whole = begins ∙ ap (λ (z : List Sighting). z ++ sign ∷ (r.more ++ more)) (sym shown_is);
          is_sign = is_sign;
          refuses = λ z isnt. isnt r.bodiless r.closes r.bytes r.says;
          owes = owes;
        })

    answered : b ≡ [] → AnsweredByHttp c second l → PartsAt IsSign seen shown ⊎ Told (λ d. d ≡ c) seen shown v
    answered nothing (has_replied bytes rest saw isnt) = parts (sent_on c bytes) (rest ++ other) isnt (all ∙ ap₂ (λ (z w : List Sighting). z ++ (w ++ other)) nothing saw)
    answered nothing (has_to_wait silent owes) = waits nothing silent (deliveries_pass c y.emissions l v other owes delivers)

    by : GoesOn b y → PartsAt IsSign seen shown ⊎ Told (λ d. d ≡ c) seen shown v
    by (has_called h rest called) =
        parts (at_handler h) (rest ++ (second ++ other)) (λ bodiless closes bytes says same. no_call_is_sent_on h c bytes same) (all ∙ ap (λ (z : List Sighting). z ++ (second ++ other)) called)
    by (has_ended nothing isnt) = answered nothing (answered_by_http c y n l second isnt two)

request_ran : (answers : ℕ → Answer) (site : Site) (c : ℕ) (q : RequestSeen) (s t u v : State) (a b : List Sighting) → Alike s t
    → AnswersTaken site c (asks q) s a u → AnswersTaken site c (asks q) t b v → AreAnswered answers a → AreAnswered answers b → Ran (λ d. d ≡ c) a b u v
request_ran answers site c q s t u v a b alike (x, p) (y, w) on_a on_b =
    by (performed_by_http answers site q x y s t p.mid w.mid p.first w.first alike p.one w.one (fits_first answers p.first p.second a p.whole on_a) (fits_first answers w.first w.second b w.whole on_b))
  where
    a_is : a ≡ p.first ++ (p.other.first ++ p.other.second)
    a_is = p.whole ∙ ap (λ (z : List Sighting). p.first ++ z) p.other.whole

    b_is : b ≡ w.first ++ (w.other.first ++ w.other.second)
    b_is = w.whole ∙ ap (λ (z : List Sighting). w.first ++ z) w.other.whole

    told : PartsAt IsSign a b ⊎ Told (λ d. d ≡ c) a b v → Ran (λ d. d ≡ c) a b u v
    told (inl e) = agreed (inr (inl e))
    told (inr e) = first_told e

    told_back : PartsAt IsSign b a ⊎ Told (λ d. d ≡ c) b a u → Ran (λ d. d ≡ c) a b u v
    told_back (inl e) = agreed (inr (inr e))
    told_back (inr e) = second_told e

    by : Requested x y p.first w.first p.mid w.mid → Ran (λ d. d ≡ c) a b u v
    by (as_one same first) =
        agreed (joined p.first w.first p.second w.second a b p.mid w.mid u v (inl first)
        (λ one. then_agree answers (AnswersMessage c x) (AnswersMessage c x) (DeliversEach x.emissions) (DeliversEach x.emissions) (message_agrees answers c x) (deliveries_agree answers x.emissions)
        p.mid w.mid u v p.second w.second one.state p.other (subst (λ (z : Done). Then (AnswersMessage c z) (DeliversEach z.emissions) w.mid w.second v) (sym same) w.other)
        (fits_rest answers p.first p.second a p.whole on_a) (fits_rest answers w.first w.second b w.whole on_b)) p.whole w.whole)
    by (parted parts) = agreed (inr (part_before IsSign p.first w.first p.second w.second a b p.whole w.whole parts))
    by (first_out none is goes beside) =
        told (messages_part c x y p.mid w.mid p.other.mid w.other.mid v p.first w.first p.other.first w.other.first p.other.second w.other.second a b is goes p.other.one w.other.one w.other.other none a_is b_is)
    by (second_out none is goes beside) =
        told_back (messages_part c y x w.mid p.mid w.other.mid p.other.mid u w.first p.first w.other.first p.other.first w.other.second p.other.second b a is goes w.other.one p.other.one p.other.other none b_is a_is)

taken_ran : (answers : ℕ → Answer) (site : Site) (c : ℕ) (taken : Taken) (s t u v : State) (a b : List Sighting) → Alike s t
    → AnswersTaken site c taken s a u → AnswersTaken site c taken t b v → AreAnswered answers a → AreAnswered answers b → Ran (λ d. d ≡ c) a b u v
taken_ran answers site c (asks q) s t u v a b alike p w on_a on_b = request_ran answers site c q s t u v a b alike p w on_a on_b
taken_ran answers site c wants_continue s t u v a b alike p w on_a on_b =
    agreed (passing_http answers (λ (bytes : List ℕ) now. Continues bytes) (λ bytes. Sends c (record { bytes = bytes; closes = false })) (λ x y now h k l p q. (p.0 ∙ sym q.0, p.1 ∙ sym q.1))
    (λ bytes. sends_agree answers c (record { bytes = bytes; closes = false })) s t u v a b alike p w on_a on_b)
taken_ran answers site c (is_faulty status) s t u v a b alike p w on_a on_b =
    agreed (passing_http answers (λ (bytes : List ℕ) now. Refuses c status bytes) (λ bytes. Sends c (record { bytes = bytes; closes = true })) (λ x y now h k l p q. (p.0 ∙ sym q.0, p.1 ∙ sym q.1))
    (λ bytes. sends_agree answers c (record { bytes = bytes; closes = true })) s t u v a b alike p w on_a on_b)
taken_ran answers site c interrupts s t u v a b alike p w on_a on_b = agreed (does_agree answers (act.Closed c ∷ []) s t u v a b alike p w on_a on_b)

next_ran : (answers : ℕ → Answer) (site : Site) (c : ℕ) (s t u v : State) (a b : List Sighting) → Alike s t
    → TakesNextMessage site c s a u → TakesNextMessage site c t b v → AreAnswered answers a → AreAnswered answers b → Ran (λ d. d ≡ c) a b u v
next_ran answers site c s t u v a b alike (x, p) (y, q) on_a on_b =
    let first = on_http answers (λ (taken : Taken) now. Takes c taken) (λ x y now h k l p q. taken_once c x y h k l p q) x y s t p.mid q.mid p.first q.first alike p.one q.one in
    ran_after (λ d. d ≡ c) p.first q.first p.second q.second a b p.mid q.mid u v first.1
    (taken_ran answers site c x p.mid q.mid u v p.second q.second first.1.state p.other (subst (λ (z : Taken). AnswersTaken site c z q.mid q.second v) (sym first.0) q.other)
    (fits_rest answers p.first p.second a p.whole on_a) (fits_rest answers q.first q.second b q.whole on_b)) p.whole q.whole

dry_or_not : (site : Site) (c : ℕ) (s t u : State) (a : List Sighting) → Alike s t → IsDry c s.http → TakesNextMessage site c t a u → ⊥
dry_or_not site c s t u a alike dry (taken, move) = dry_takes c taken t.http move.one.0 (subst (λ (h : Streams). IsDry c h) alike.http dry) move.one.1

-- what follows of the same connection passes over it
rest_passes : (site : Site) (c k : ℕ) (m u : State) (d : List Sighting) → TakesEveryMessage site c m d u → k ≡ c → Owes k m.http → Passed k d u
rest_passes site c k m u d more is owes =
    subst (λ (x : ℕ). Passed x d u) (sym is) (messages_pass site c m u d (subst (λ (x : ℕ). Owes x m.http) is owes) more)

messages_ran : (answers : ℕ → Answer) (site : Site) (c : ℕ) (s t u v : State) (a b : List Sighting) → Alike s t
    → TakesEveryMessage site c s a u → TakesEveryMessage site c t b v → AreAnswered answers a → AreAnswered answers b → Ran (λ d. d ≡ c) a b u v
messages_ran answers site c s t u v a b alike (is_done s' a' u' done stays) (is_done t' b' v' also stay) on_a on_b = agreed (becomes_agree s t u v [] [] a b alike refl stays stay)
messages_ran answers site c s t u v a b alike (is_done s' a' u' done stays) (goes_on t' mid v' b' first second move more whole) on_a on_b =
    absurd (dry_or_not site c s t mid first alike done move)
messages_ran answers site c s t u v a b alike (goes_on s' mid u' a' first second move more whole) (is_done t' b' v' done stays) on_a on_b =
    absurd (dry_or_not site c t s mid first (alike_back s t alike) done move)
messages_ran answers site c s t u v a b alike (goes_on s' m u' a' g d p more whole) (goes_on t' n v' b' e f q further all) on_a on_b =
    ran_then (λ k. k ≡ c) g e d f a b m n u v
    (next_ran answers site c s t m n g e alike p q (fits_first answers g d a whole on_a) (fits_first answers e f b all on_b))
    (λ first. messages_ran answers site c m n u v d f first.state more further (fits_rest answers g d a whole on_a) (fits_rest answers e f b all on_b))
    (λ k is owes. rest_passes site c k m u d more is owes) (λ k is owes. rest_passes site c k n v f further is owes) whole all

abbrev Any : ℕ → Type 0
Any c = Unit {0}

piece_ran : (answers : ℕ → Answer) (site : Site) (c : ℕ) (bytes : List ℕ) (s t u v : State) (a b : List Sighting) → Alike s t
    → HearsPiece site c bytes s a u → HearsPiece site c bytes t b v → AreAnswered answers a → AreAnswered answers b → Ran Any a b u v
piece_ran answers site c bytes s t u v a b alike p q on_a on_b =
    let first = on_http answers (λ (x : Unit {0}). Lengthened c bytes) (λ x y now h k l p q. (refl, p ∙ sym q)) tt tt s t p.mid q.mid p.first q.first alike p.one q.one in
    of_these (λ d. d ≡ c) Any a b u v (λ d is. tt)
    (ran_after (λ d. d ≡ c) p.first q.first p.second q.second a b p.mid q.mid u v first.1
    (messages_ran answers site c p.mid q.mid u v p.second q.second first.1.state p.other q.other (fits_rest answers p.first p.second a p.whole on_a) (fits_rest answers q.first q.second b q.whole on_b))
    p.whole q.whole)

-- ---- events

-- what is known of two runs after an event, which may bring a block that both refuse
data Followed (e : EventWithBytes) (a b : List Sighting) (u v : State) : Type 0 where
  followed : Ran Any a b u v → Followed e a b u v
  block_refused : BringsBlock e → BothBegin a b → Followed e a b u v

datagram_ran : (e : EventWithBytes) (from : Endpoint) (size : ℕ) (a b : List Sighting) (u v : State) → e.event.what ≡ what.Datagram from size → HeardBoth e.bytes a b u v → Followed e a b u v
datagram_ran e from size a b u v is (both_agree x) = followed (agreed x)
datagram_ran e from size a b u v is (both_refuse block both) =
    block_refused (record { from = from; count = size; datagram = is; message = block.message; spells = block.spells; block = block.block; joins = block.joins }) both

follows_ran : (answers : ℕ → Answer) (site : Site) (e : EventWithBytes) (w : What) (s t u v : State) (a b : List Sighting) → e.event.what ≡ w → Alike s t
    → Follows site w e.bytes s a u → Follows site w e.bytes t b v → AreAnswered answers a → AreAnswered answers b → Followed e a b u v
follows_ran answers site e (what.Opened c) s t u v a b is alike p q on_a on_b = followed (agreed (http_agree answers (Opened c) (λ now h k l x y. x ∙ sym y) s t u v a b alike p q on_a on_b))
follows_ran answers site e (what.Bytes c size) s t u v a b is alike p q on_a on_b = followed (piece_ran answers site c e.bytes s t u v a b alike p q on_a on_b)
follows_ran answers site e (what.Ended c) s t u v a b is alike p q on_a on_b = followed (agreed (http_agree answers (λ now. Ended c) (λ now h k l x y. x ∙ sym y) s t u v a b alike p q on_a on_b))
follows_ran answers site e (what.Datagram from size) s t u v a b is alike p q on_a on_b =
    datagram_ran e from size a b u v is (datagram_agrees answers site from e.bytes s t u v a b alike p q on_a on_b)
follows_ran answers site e what.Tick s t u v a b is alike p q on_a on_b =
    followed (agreed (each_agree answers PollsAndDelivers (events_of site.things) (poll_agrees answers) s t u v a b alike p q on_a on_b))
follows_ran answers site e what.Stop s t u v a b is alike p q on_a on_b = followed (agreed (becomes_agree s t u v [] [] a b alike refl p q))

step_ran : (answers : ℕ → Answer) (site : Site) (e : EventWithBytes) (s t u v : State) (a b : List Sighting) → Alike s t
    → Step site e s a u → Step site e t b v → AreAnswered answers a → AreAnswered answers b → Followed e a b u v
step_ran answers site e s t u v a b alike p q on_a on_b =
    by (follows_ran answers site e e.event.what (record s { moment = max s.moment e.event.moment }) (record t { moment = max t.moment e.event.moment }) p.mid q.mid p.first q.first refl later p.one q.one
    (fits_first answers p.first p.second a p.whole on_a) (fits_first answers q.first q.second b q.whole on_b))
  where
    later : Alike (record s { moment = max s.moment e.event.moment }) (record t { moment = max t.moment e.event.moment })
    later = record { moment = ap (λ (m : ℕ). max m e.event.moment) alike.moment; http = alike.http; coap = alike.coap; thing = alike.thing; directory = alike.directory }

    by : Followed e p.first q.first p.mid q.mid → Followed e a b u v
    by (followed r) =
        followed (ran_then Any p.first q.first p.second q.second a b p.mid q.mid u v r
        (λ one. agreed (ends_agree answers p.mid q.mid u v p.second q.second one.state p.other q.other (fits_rest answers p.first p.second a p.whole on_a) (fits_rest answers q.first q.second b q.whole on_b)))
        (λ k of owes. ends_pass k p.mid u p.second owes p.other) (λ k of owes. ends_pass k q.mid v q.second owes q.other) p.whole q.whole)
    by (block_refused brings both) =
        block_refused brings (record {
          sign = both.sign;
          later = both.later ++ p.second;
          other = both.other ++ q.second;
          first = p.whole ∙ ap (λ (x : List Sighting). x ++ p.second) both.first;
          second = q.whole ∙ ap (λ (x : List Sighting). x ++ q.second) both.second;
          is_sign = both.is_sign;
        })

event_ran : (answers : ℕ → Answer) (site : Site) (e : EventWithBytes) (s t u v : State) (a b : List Sighting) → Alike s t
    → EventAndStep site e s a u → EventAndStep site e t b v → AreAnswered answers a → AreAnswered answers b → Ran Any a b u v
event_ran answers site e s t u v a b alike p q on_a on_b =
    by (step_ran answers site e p.mid q.mid u v p.second q.second first.state p.other q.other (fits_rest answers p.first p.second a p.whole on_a) (fits_rest answers q.first q.second b q.whole on_b))
  where
    first : Agree p.first q.first p.mid q.mid
    first = becomes_alike s t p.mid q.mid (at_network (heard e) ∷ []) (at_network (heard e) ∷ []) p.first q.first alike refl p.one q.one

    by : Followed e p.second q.second u v → Ran Any a b u v
    by (followed r) = ran_after Any p.first q.first p.second q.second a b p.mid q.mid u v first r p.whole q.whole
    by (block_refused brings both) = refused (record {
      before = [];
      event = e;
      sign = both.sign;
      later = both.later;
      other = both.other;
      first = p.whole ∙ ap₂ (λ (x y : List Sighting). x ++ y) p.one.saw both.first;
      second = q.whole ∙ ap₂ (λ (x y : List Sighting). x ++ y) q.one.saw both.second;
      brings = brings;
      is_sign = both.is_sign;
    })

run_ran : (answers : ℕ → Answer) (site : Site) (took : List EventWithBytes) (s t u v : State) (a b : List Sighting) → Alike s t
    → Run site took s a u → Run site took t b v → AreAnswered answers a → AreAnswered answers b → Ran Any a b u v
run_ran answers site [] s t u v a b alike p q on_a on_b = agreed (becomes_agree s t u v [] [] a b alike refl p q)
run_ran answers site (e ∷ took) s t u v a b alike p q on_a on_b =
    ran_then Any p.first q.first p.second q.second a b p.mid q.mid u v
    (event_ran answers site e s t p.mid q.mid p.first q.first alike p.one q.one (fits_first answers p.first p.second a p.whole on_a) (fits_first answers q.first q.second b q.whole on_b))
    (λ first. run_ran answers site took p.mid q.mid u v p.second q.second first.state p.other q.other
    (fits_rest answers p.first p.second a p.whole on_a) (fits_rest answers q.first q.second b q.whole on_b))
    (λ k of owes. events_pass site k took p.mid u p.second owes p.other) (λ k of owes. events_pass site k took q.mid v q.second owes q.other) p.whole q.whole

pub runs_are_determined : RunsAreDetermined
runs_are_determined site exchanges epoch took answers seen shown s t one other on_seen on_shown =
    ran_determined Any seen shown s t
    (run_ran answers site took (start site exchanges epoch) (start site exchanges epoch) s t seen shown (alike_self (start site exchanges epoch)) one other on_seen on_shown)
