-- Each call of a run polls, or is one of a request that came.
use Rattle.std.proofs.Common.{◌≡◌, ◌<◌, ◌≤◌, ◌+◌, ℕ, Bool, true, false, max, List, [], ◌∷◌, ◌++◌, length, map, Option, Some, None, refl, sym, ap, ap₂, subst, ◌∙◌, arith, append_assoc, inl, inr}
use Rattle.std.specs.Prelude.{◌==◌, ◌⊎◌, nat_lt, option_map, if◌then◌else◌}
use Rattle.std.proofs.lemmas.Bool.Decides.{nat_tests}
use Rattle.std.proofs.lemmas.List.{append-nil, get_or_past, length-set}
use Rattle.std.proofs.lemmas.Option.{same_Some}
use Rattle.servient_base.specs.Moves.{Until, is_done, goes_on}
use Rattle.thing_ops.specs.Requests.{RequestSeen}
use Rattle.thing_handler.specs.Turns.{HandlerCall}
use Rattle.thing_site.specs.Site.{events_of}
use Rattle.thing_core.specs.Thing.{Done}
use Rattle.http_wire.specs.Stream.{Front, message, IsFront}
use Rattle.http_bind.specs.Streams.{Connection, Streams, connection_at, with_connection, without_wait, lengthened, opened_at, Taken, asks, wants_continue, is_faulty, interrupts, after_taking, LetsTake, takes_front, is_interrupted, Takes, IsDry}
use Rattle.servient_outside.specs.declared.net.What.{What}
use Rattle.servient_outside.specs.declared.net.What.TheVariants as what
use Rattle.servient_outside.specs.declared.net.EventWithBytes.{EventWithBytes}
use Rattle.servient_outside.specs.declared.net.Act.TheVariants as act
use Rattle.servient_outside.specs.Network.{heard}
use Rattle.servient_trace.specs.Trace.{Sighting, at_network, at_handler, calls_in}
use Rattle.servient_core.specs.Machine.{Site, State, Move, start, acts_of_reply, DeliversEach, PerformsByHttp, HearsDatagram, AnswersMessage, AnswersTaken, TakesNextMessage, EndsEvent, Follows, Step, EventAndStep, Run}
use Rattle.servient_core.specs.Meaning.{by_http}
use Rattle.servient_core.proofs.MeaningLaws.{does_quiet, ends_quiet, rest_quiet}
use Rattle.servient_laws.specs.Dialogues.{Talk, unread}
use Rattle.servient_laws.specs.CallRequests.{IsHeardLast, AreCallsOf, makes_none, updated, CallsCome, none_yet, begins_anew, by_message, CallsHaveRequests}
use Rattle.servient_laws.proofs.CallHistories.{HasHeard, heard_none, heard_more}
use Rattle.servient_laws.proofs.CallsOfActs.{acts_have_calls}
use Rattle.servient_laws.proofs.DialogueSteps.{Keeps, keeps_here}
use Rattle.servient_laws.proofs.DialogueReplies.{performed_none, ends_keep}
use Rattle.servient_laws.proofs.DialogueMessages.{before_of, IsMessage, message_of, front_of, next_keeps, lengthened_keeps}
use Rattle.servient_laws.proofs.DialogueMoves.{heard_keeps, at_moment, first_keeps, nothing_open}
use Rattle.servient_laws.proofs.TakenMessages.{TakesNothing, nothing_same, nothing_then, changed_at, nothing_at, closed_nothing, Settled, Settles64, settled_same, then_settles, deliveries_settle, ends_settle, message_settles}
use Rattle.servient_laws.proofs.DatagramCalls.{none_of, quiet_come, moved_to, heard_come, after_heard, datagram_come, datagram_settles, polls_come}

-- ---- the invariant

record Known (site : Site) (exchanges : ℕ) (seen : List Sighting) (s : State) : Type 0 where
  keeps : (c : ℕ) → c < 64 → Keeps site c seen s
  used : ℕ → ℕ
  come : CallsCome site exchanges seen used
  agree : (c : ℕ) (z : Connection) → c < 64 → connection_at c s.http ≡ Some z → z.taken ≡ used c

places_of : (site : Site) (exchanges : ℕ) (seen : List Sighting) (s : State) → Known site exchanges seen s → length s.http.places ≡ 64
places_of site exchanges seen s k = (k.keeps 0 (omega arith)).places

-- a move is known after what was seen
abbrev KnowsOn : Site → ℕ → Move → Type 0
KnowsOn site exchanges P = (seen a : List Sighting) (s t : State) → Known site exchanges seen s → P s a t → Known site exchanges (seen ++ a) t

known_here : (site : Site) (exchanges : ℕ) (seen told : List Sighting) (s t : State) → told ≡ seen → t ≡ s → Known site exchanges seen s → Known site exchanges told t
known_here site exchanges seen told s t saw next k = subst (λ (x : List Sighting). Known site exchanges x t) (sym saw) (subst (λ (x : State). Known site exchanges seen x) (sym next) k)

-- one that makes no call and takes no message
quiet_knows : (site : Site) (exchanges : ℕ) (seen a : List Sighting) (s t : State) → Known site exchanges seen s → ((c : ℕ) → c < 64 → Keeps site c (seen ++ a) t) → calls_in a ≡ [] → TakesNothing s.http t.http → Known site exchanges (seen ++ a) t
quiet_knows site exchanges seen a s t k keeps none nothing = record {
  keeps = keeps;
  used = k.used;
  come = quiet_come site exchanges seen a k.used k.come (none_of a none);
  agree = λ c z below at.
      let x = nothing c z below at in
      x.2 ∙ k.agree c x.0 below x.1;
}

knows_until : (site : Site) (exchanges : ℕ) (P : Move) (IsDone : State → Type 0) → KnowsOn site exchanges P → KnowsOn site exchanges (Until P IsDone)
knows_until site exchanges P IsDone each seen a s t k (is_done s' a' t' done stays) = known_here site exchanges seen (seen ++ a) s t (ap (λ (x : List Sighting). seen ++ x) stays.saw ∙ append-nil seen) stays.next k
knows_until site exchanges P IsDone each seen a s t k (goes_on s' m t' a' first second one more whole) =
    known_here site exchanges ((seen ++ first) ++ second) (seen ++ a) t t (ap (λ (x : List Sighting). seen ++ x) whole ∙ sym (append_assoc seen first second)) refl
    (knows_until site exchanges P IsDone each (seen ++ first) second m t (each seen first s m k one) more)

ends_knows : (site : Site) (exchanges : ℕ) → KnowsOn site exchanges EndsEvent
ends_knows site exchanges seen a s t k w =
    quiet_knows site exchanges seen a s t k (λ c below. ends_keep site c below seen a s t (k.keeps c below) w) (ends_quiet s t a w).calls (ends_settle s t a (places_of site exchanges seen s k) w).nothing

-- ---- messages

-- a connection that is there is one of 64
is_below : (d : ℕ) (h : Streams) (z : Connection) → length h.places ≡ 64 → connection_at d h ≡ Some z → d < 64
is_below d h z places there = by (nat_lt d 64) refl
  where
    by : (t : Bool) → nat_lt d 64 ≡ t → d < 64
    by true test = grind (arith, nat_tests)
    by false test =
        let past : 64 ≤ d = grind (arith, nat_tests) in
        absurd (let e : None ≡ Some z = sym (get_or_past h.places d None (omega (arith, past, places))) ∙ there in cc)

-- the calls of a request that is performed
performed_calls : (site : Site) (q : RequestSeen) (done : Done) (s t : State) (a : List Sighting) → PerformsByHttp site q done s a t → (calls : List HandlerCall) × (a ≡ map at_handler calls) × AreCallsOf site q calls
performed_calls site q done s t a (inl (is, (d, acts, none, p))) = ([], p.saw, makes_none refl)
performed_calls site q done s t a (inr (isnt, (k, calls, acts, p))) = (calls, p.saw, acts_have_calls site q done s.thing k calls acts)

updated_here : (used : ℕ → ℕ) (c n : ℕ) → updated used c n c ≡ n
updated_here used c n = ap (λ (t : Bool). if t then n else used c) (itself c)
  where
    itself : (m : ℕ) → (m == m) ≡ true
    itself m = grind (arith, nat_tests)

updated_there : (used : ℕ → ℕ) (c n d : ℕ) → (d == c) ≡ false → updated used c n d ≡ used d
updated_there used c n d test = ap (λ (t : Bool). if t then n else used d) test

request_knows : (site : Site) (exchanges : ℕ) (d : ℕ) (q : RequestSeen) (seen a : List Sighting) (s n t : State) (z : Connection) (y : Option Connection) → Known site exchanges seen s → ((c : ℕ) → c < 64 → Keeps site c (seen ++ a) t)
    → connection_at d s.http ≡ Some z → LetsTake (asks q) z y → n.http ≡ with_connection d y (without_wait d s.http) → AnswersTaken site d (asks q) n a t → Known site exchanges (seen ++ a) t
request_knows site exchanges d q seen a s n t z y k keeps there (is_interrupted o owed rest is gone) after answers = absurd (let e : asks q ≡ interrupts = is in cc)
request_knows site exchanges d q seen a s n t z y k keeps there (takes_front f free front found is) after (done, w) =
    let places = places_of site exchanges seen s k in
    let below = is_below d s.http z places there in
    let b = before_of site d seen s z (k.keeps d below) there in
    let x : Talk = b.0 in
    let g = message_of z.continued f q found in
    let at_front : IsFront (unread x) (message g.head g.body g.used g.expect) = subst (λ (v : Front). IsFront (unread x) v) g.front (front_of z x f b.1.same front) in
    let made = performed_calls site q done n w.mid w.first w.one in
    let counted : x.taken ≡ k.used d = sym b.1.same.taken ∙ k.agree d z below there in
    let come : CallsCome site exchanges (seen ++ w.first) (updated k.used d (x.taken + g.used)) =
    subst (λ (l : List Sighting). CallsCome site exchanges (seen ++ l) (updated k.used d (x.taken + g.used))) (sym made.1)
    (by_message seen d x g.head g.body g.used g.expect q made.0 k.used k.come b.1.dialogue counted at_front g.asks_for made.2) in
    let n_places : length n.http.places ≡ 64 = ap (λ (h : Streams). length h.places) after ∙ length-set s.http.places d y ∙ places in
    let performed = (performed_none site q done d n w.mid w.first w.one).1 in
    let later : Settled w.mid.http t.http =
    then_settles (AnswersMessage d done) (DeliversEach done.emissions) (message_settles d done) (deliveries_settle done.emissions) w.mid t w.second (ap (λ (h : Streams). length h.places) performed ∙ n_places) w.other in
    record {
      keeps = keeps;
      used = updated k.used d (x.taken + g.used);
      come = subst (λ (l : List Sighting). CallsCome site exchanges l (updated k.used d (x.taken + g.used)))
          (append_assoc seen w.first w.second ∙ ap (λ (l : List Sighting). seen ++ l) (sym w.whole))
          (quiet_come site exchanges (seen ++ w.first) w.second (updated k.used d (x.taken + g.used)) come (none_of w.second (rest_quiet site (by_http d q) done w.mid t w.second w.other).calls));
      agree = λ c v under at.
          let u = later.nothing c v under at in
          u.2 ∙ by c u.0 x g (ap (connection_at c) (sym performed) ∙ u.1) b.1.same.taken (changed_at c d y (without_wait d s.http) under places);
    }
  where
    by : (c : ℕ) (u : Connection) (x : Talk) (g : IsMessage f q) → connection_at c n.http ≡ Some u → z.taken ≡ x.taken
        → ((c ≡ d) × (connection_at c (with_connection d y (without_wait d s.http)) ≡ y)) ⊎ (((c == d) ≡ false) × (connection_at c (with_connection d y (without_wait d s.http)) ≡ connection_at c (without_wait d s.http)))
        → u.taken ≡ updated k.used d (x.taken + g.used) c
    by c u x g at same (inl (mine, changed)) =
        let whole : y ≡ Some u = sym changed ∙ sym (ap (connection_at c) after) ∙ at in
        let now : after_taking (asks q) (message g.head g.body g.used g.expect) z ≡ u =
        same_Some (after_taking (asks q) (message g.head g.body g.used g.expect) z) u (sym (is ∙ ap (λ (v : Front). Some (after_taking (asks q) v z)) g.front) ∙ whole) in
        sym (ap (λ (v : Connection). v.taken) now) ∙ ap (λ (m : ℕ). m + g.used) same ∙ sym (updated_here k.used d (x.taken + g.used)) ∙ ap (updated k.used d (x.taken + g.used)) (sym mine)
    by c u x g at same (inr (other, changed)) =
        let before : connection_at c s.http ≡ Some u = sym changed ∙ sym (ap (connection_at c) after) ∙ at in
        k.agree c u (is_below c s.http u (places_of site exchanges seen s k) before) before ∙ sym (updated_there k.used d (x.taken + g.used) c other)

-- what else is taken of a connection makes no call
taken_quiet : (site : Site) (d : ℕ) (taken : Taken) (n t : State) (a : List Sighting) → ((q : RequestSeen) → taken ≡ asks q → ⊥) → AnswersTaken site d taken n a t → calls_in a ≡ []
taken_quiet site d (asks q) n t a isnt answers = absurd (isnt q refl)
taken_quiet site d wants_continue n t a isnt (bytes, w) =
    ap calls_in (w.whole ∙ ap (λ (x : List Sighting). x ++ w.second) w.one.2.saw) ∙ (does_quiet (acts_of_reply d (record { bytes = bytes; closes = false })) w.mid t w.second w.other).calls
taken_quiet site d (is_faulty status) n t a isnt (bytes, w) =
    ap calls_in (w.whole ∙ ap (λ (x : List Sighting). x ++ w.second) w.one.2.saw) ∙ (does_quiet (acts_of_reply d (record { bytes = bytes; closes = true })) w.mid t w.second w.other).calls
taken_quiet site d interrupts n t a isnt does = (does_quiet (act.Closed d ∷ []) n t a does).calls

-- nor takes it a message
lets_nothing : (taken : Taken) (z : Connection) (y : Option Connection) → ((q : RequestSeen) → taken ≡ asks q → ⊥) → LetsTake taken z y → (v : Connection) → y ≡ Some v → v.taken ≡ z.taken
lets_nothing (asks q) z y isnt lets v is = absurd (isnt q refl)
lets_nothing wants_continue z y isnt (takes_front f free front found same) v is = sym (ap (λ (x : Connection). x.taken) (same_Some (record z { continued = true }) v (sym same ∙ is)))
lets_nothing (is_faulty status) z y isnt (takes_front f free front found same) v is = sym (ap (λ (x : Connection). x.taken) (same_Some z v (sym same ∙ is)))
lets_nothing interrupts z y isnt (takes_front f free front found same) v is = sym (ap (λ (x : Connection). x.taken) (same_Some z v (sym same ∙ is)))
lets_nothing wants_continue z y isnt (is_interrupted o owed rest same gone) v is = absurd (let e : None ≡ Some v = sym gone ∙ is in cc)
lets_nothing (is_faulty status) z y isnt (is_interrupted o owed rest same gone) v is = absurd (let e : None ≡ Some v = sym gone ∙ is in cc)
lets_nothing interrupts z y isnt (is_interrupted o owed rest same gone) v is = absurd (let e : None ≡ Some v = sym gone ∙ is in cc)

others_settle : (site : Site) (d : ℕ) (taken : Taken) → ((q : RequestSeen) → taken ≡ asks q → ⊥) → Settles64 (AnswersTaken site d taken)
others_settle site d (asks q) isnt s t a places answers = absurd (isnt q refl)
others_settle site d wants_continue isnt s t a places (bytes, w) = settled_same s.http t.http places (ap (λ (x : State). x.http) (w.other.next ∙ w.one.2.next) ∙ w.one.1.1)
others_settle site d (is_faulty status) isnt s t a places (bytes, w) =
    let http_is : t.http ≡ w.one.0 = ap (λ (x : State). x.http) (w.other.next ∙ w.one.2.next) in
    subst (λ (k : Streams). Settled s.http k) (sym http_is)
    (record { nothing = closed_nothing d s.http w.one.0 places w.one.1.1; places = ap (λ (k : Streams). length k.places) w.one.1.1 ∙ length-set s.http.places d None ∙ places })
others_settle site d interrupts isnt s t a places does = settled_same s.http t.http places (ap (λ (x : State). x.http) does.next)

other_knows : (site : Site) (exchanges : ℕ) (d : ℕ) (taken : Taken) (seen a : List Sighting) (s n t : State) (z : Connection) (y : Option Connection) → Known site exchanges seen s → ((c : ℕ) → c < 64 → Keeps site c (seen ++ a) t)
    → connection_at d s.http ≡ Some z → LetsTake taken z y → n.http ≡ with_connection d y (without_wait d s.http) → ((q : RequestSeen) → taken ≡ asks q → ⊥) → AnswersTaken site d taken n a t → Known site exchanges (seen ++ a) t
other_knows site exchanges d taken seen a s n t z y k keeps there lets after isnt answers =
    let places = places_of site exchanges seen s k in
    let n_places : length n.http.places ≡ 64 = ap (λ (h : Streams). length h.places) after ∙ length-set s.http.places d y ∙ places in
    quiet_knows site exchanges seen a s t k keeps (taken_quiet site d taken n t a isnt answers)
    (nothing_then s.http n.http t.http (nothing_at d y s.http n.http places (ap (λ (h : Streams). h.places) after) (λ v is. (z, there, lets_nothing taken z y isnt lets v is)))
    (others_settle site d taken isnt n t a n_places answers).nothing)

next_knows : (site : Site) (exchanges : ℕ) (d : ℕ) → KnowsOn site exchanges (TakesNextMessage site d)
next_knows site exchanges d seen a s t k (taken, w) = by taken w.one.1 w.other
  where
    a_is : a ≡ w.second
    a_is = w.whole ∙ ap (λ (x : List Sighting). x ++ w.second) w.one.2.saw

    keeps : (c : ℕ) → c < 64 → Keeps site c (seen ++ w.second) t
    keeps c below = keeps_here site c (seen ++ a) (seen ++ w.second) t t (ap (λ (x : List Sighting). seen ++ x) (sym a_is)) refl (next_keeps site c d below seen a s t (k.keeps c below) (taken, w))

    whole : Known site exchanges (seen ++ w.second) t → Known site exchanges (seen ++ a) t
    whole known = known_here site exchanges (seen ++ w.second) (seen ++ a) t t (ap (λ (x : List Sighting). seen ++ x) a_is) refl known

    by : (taken : Taken) → Takes d taken s.http w.one.0 → AnswersTaken site d taken w.mid w.second t → Known site exchanges (seen ++ a) t
    by (asks q) (z, y, there, lets, after) answers = whole (request_knows site exchanges d q seen w.second s w.mid t z y k keeps there lets (ap (λ (v : State). v.http) w.one.2.next ∙ after) answers)
    by wants_continue (z, y, there, lets, after) answers =
        whole (other_knows site exchanges d wants_continue seen w.second s w.mid t z y k keeps there lets (ap (λ (v : State). v.http) w.one.2.next ∙ after) (λ q is. (let e : wants_continue ≡ asks q = is in cc)) answers)
    by (is_faulty status) (z, y, there, lets, after) answers =
        whole (other_knows site exchanges d (is_faulty status) seen w.second s w.mid t z y k keeps there lets (ap (λ (v : State). v.http) w.one.2.next ∙ after) (λ q is. (let e : is_faulty status ≡ asks q = is in cc)) answers)
    by interrupts (z, y, there, lets, after) answers =
        whole (other_knows site exchanges d interrupts seen w.second s w.mid t z y k keeps there lets (ap (λ (v : State). v.http) w.one.2.next ∙ after) (λ q is. (let e : interrupts ≡ asks q = is in cc)) answers)

-- ---- one event

-- the messages that were taken, after a change that takes none
agree_by : (site : Site) (exchanges : ℕ) (seen : List Sighting) (s : State) (h : Streams) (k : Known site exchanges seen s) → TakesNothing s.http h → (c : ℕ) (z : Connection) → c < 64 → connection_at c h ≡ Some z → z.taken ≡ k.used c
agree_by site exchanges seen s h k nothing c z below at =
    let x = nothing c z below at in
    x.2 ∙ k.agree c x.0 below x.1

follows_know : (site : Site) (exchanges : ℕ) (e : EventWithBytes) (w : What) (seen a : List Sighting) (before s t : State) → e.event.what ≡ w → HasHeard exchanges seen before → s ≡ moved_to e before → Known site exchanges seen s → Follows site w e.bytes s a t
    → Known site exchanges (seen ++ at_network (heard e) ∷ a) t
follows_know site exchanges e (what.Opened d) seen a before s t is told moves k on = record {
  keeps = λ c below. heard_keeps site c e (what.Opened d) seen s t a below is (k.keeps c below) on;
  used = updated k.used d 0;
  come = after_heard site exchanges seen e a (updated k.used d 0)
      (quiet_come site exchanges (seen ++ at_network (heard e) ∷ []) a (updated k.used d 0) (begins_anew seen e d k.used k.come is) (none_of a (ap calls_in on.2.saw)));
  agree = λ c z below at.
      let there : connection_at c (with_connection d (Some (opened_at s.moment)) (without_wait d s.http)) ≡ Some z = sym (ap (connection_at c) (ap (λ (v : State). v.http) on.2.next ∙ on.1)) ∙ at in
      by c z below there (changed_at c d (Some (opened_at s.moment)) (without_wait d s.http) below (places_of site exchanges seen s k));
}
  where
    by : (c : ℕ) (z : Connection) → c < 64 → connection_at c (with_connection d (Some (opened_at s.moment)) (without_wait d s.http)) ≡ Some z
        → ((c ≡ d) × (connection_at c (with_connection d (Some (opened_at s.moment)) (without_wait d s.http)) ≡ Some (opened_at s.moment)))
        ⊎ (((c == d) ≡ false) × (connection_at c (with_connection d (Some (opened_at s.moment)) (without_wait d s.http)) ≡ connection_at c (without_wait d s.http)))
        → z.taken ≡ updated k.used d 0 c
    by c z below there (inl (mine, changed)) =
        sym (ap (λ (v : Connection). v.taken) (same_Some (opened_at s.moment) z (sym changed ∙ there))) ∙ sym (updated_here k.used d 0) ∙ ap (updated k.used d 0) (sym mine)
    by c z below there (inr (other, changed)) = k.agree c z below (sym changed ∙ there) ∙ sym (updated_there k.used d 0 c other)
follows_know site exchanges e (what.Ended d) seen a before s t is told moves k on = record {
  keeps = λ c below. heard_keeps site c e (what.Ended d) seen s t a below is (k.keeps c below) on;
  used = k.used;
  come = after_heard site exchanges seen e a k.used (quiet_come site exchanges (seen ++ at_network (heard e) ∷ []) a k.used (heard_come site exchanges seen e k.used k.come) (none_of a (ap calls_in on.2.saw)));
  agree = agree_by site exchanges seen s t.http k (closed_nothing d s.http t.http (places_of site exchanges seen s k) (ap (λ (v : State). v.http) on.2.next ∙ on.1));
}
follows_know site exchanges e (what.Bytes d count) seen a before s t is told moves k both =
    known_here site exchanges ((seen ++ at_network (heard e) ∷ both.first) ++ both.second) (seen ++ at_network (heard e) ∷ a) t t
    (ap (λ (l : List Sighting). seen ++ at_network (heard e) ∷ l) both.whole ∙ sym (append_assoc seen (at_network (heard e) ∷ both.first) both.second)) refl
    (knows_until site exchanges (TakesNextMessage site d) (λ s. IsDry d s.http) (next_knows site exchanges d) (seen ++ at_network (heard e) ∷ both.first) both.second both.mid t first both.other)
  where
    long : both.mid.http ≡ with_connection d (option_map (lengthened e.bytes s.moment) (connection_at d s.http)) s.http
    long = ap (λ (v : State). v.http) both.one.2.next ∙ both.one.1

    kept : (o : Option Connection) → connection_at d s.http ≡ o → (y : Connection) → option_map (lengthened e.bytes s.moment) (connection_at d s.http) ≡ Some y
        → (z : Connection) × (connection_at d s.http ≡ Some z) × (y.taken ≡ z.taken)
    kept None gone y at = absurd (let x : None ≡ Some y = sym (ap (option_map (lengthened e.bytes s.moment)) gone) ∙ at in cc)
    kept (Some z) there y at =
        (z, there, sym (ap (λ (v : Connection). v.taken) (same_Some (lengthened e.bytes s.moment z) y (sym (ap (option_map (lengthened e.bytes s.moment)) there) ∙ at))))

    first : Known site exchanges (seen ++ at_network (heard e) ∷ both.first) both.mid
    first = record {
      keeps = λ c below. lengthened_keeps site c d count e seen both.first s both.mid below is (k.keeps c below) both.one;
      used = k.used;
      come = after_heard site exchanges seen e both.first k.used
          (quiet_come site exchanges (seen ++ at_network (heard e) ∷ []) both.first k.used (heard_come site exchanges seen e k.used k.come) (none_of both.first (ap calls_in both.one.2.saw)));
      agree = agree_by site exchanges seen s both.mid.http k
          (nothing_at d (option_map (lengthened e.bytes s.moment) (connection_at d s.http)) s.http both.mid.http (places_of site exchanges seen s k) (ap (λ (x : Streams). x.places) long) (kept (connection_at d s.http) refl));
    }
follows_know site exchanges e (what.Datagram from count) seen a before s t is told moves k on = record {
  keeps = λ c below. heard_keeps site c e (what.Datagram from count) seen s t a below is (k.keeps c below) on;
  used = k.used;
  come = datagram_come site exchanges from count e seen a before t k.used is told k.come (subst (λ (x : State). HearsDatagram site from e.bytes x a t) moves on);
  agree = agree_by site exchanges seen s t.http k (datagram_settles site from e.bytes s t a (places_of site exchanges seen s k) on).nothing;
}
follows_know site exchanges e what.Tick seen a before s t is told moves k on =
    let last : IsHeardLast e (seen ++ at_network (heard e) ∷ []) = record { before = seen; later = []; whole = refl; none = tt } in
    let polled = polls_come site exchanges e [] (events_of site.things) (seen ++ at_network (heard e) ∷ []) a s t k.used is refl last (heard_come site exchanges seen e k.used k.come) (places_of site exchanges seen s k) on in
    record {
      keeps = λ c below. heard_keeps site c e what.Tick seen s t a below is (k.keeps c below) on;
      used = k.used;
      come = after_heard site exchanges seen e a k.used polled.come;
      agree = agree_by site exchanges seen s t.http k polled.settled.nothing;
    }
follows_know site exchanges e what.Stop seen a before s t is told moves k stays = record {
  keeps = λ c below. heard_keeps site c e what.Stop seen s t a below is (k.keeps c below) stays;
  used = k.used;
  come = after_heard site exchanges seen e a k.used (quiet_come site exchanges (seen ++ at_network (heard e) ∷ []) a k.used (heard_come site exchanges seen e k.used k.come) (none_of a (ap calls_in stays.saw)));
  agree = agree_by site exchanges seen s t.http k (nothing_same s.http t.http (ap (λ (v : State). v.http) stays.next));
}

event_knows : (site : Site) (exchanges : ℕ) (e : EventWithBytes) (seen a : List Sighting) (s t : State) → HasHeard exchanges seen s → Known site exchanges seen s → EventAndStep site e s a t → Known site exchanges (seen ++ a) t
event_knows site exchanges e seen a s t told k w =
    let step : Step site e s w.second t = subst (λ (x : State). Step site e x w.second t) w.one.next w.other in
    let moved : State = moved_to e s in
    let before : Known site exchanges seen moved = record { keeps = λ c below. at_moment site c seen s (max s.moment e.event.moment) (k.keeps c below); used = k.used; come = k.come; agree = k.agree } in
    let after = follows_know site exchanges e e.event.what seen step.first s moved step.mid refl told refl before step.one in
    known_here site exchanges ((seen ++ at_network (heard e) ∷ step.first) ++ step.second) (seen ++ a) t t
    (ap (λ (l : List Sighting). seen ++ l) (w.whole ∙ ap₂ (λ (u v : List Sighting). u ++ v) w.one.saw step.whole) ∙ sym (append_assoc seen (at_network (heard e) ∷ step.first) step.second)) refl
    (ends_knows site exchanges (seen ++ at_network (heard e) ∷ step.first) step.second step.mid t after step.other)

knows_each : (site : Site) (exchanges : ℕ) (took : List EventWithBytes) (seen a : List Sighting) (s t : State) → HasHeard exchanges seen s → Known site exchanges seen s → Run site took s a t → Known site exchanges (seen ++ a) t
knows_each site exchanges [] seen a s t told k stays = known_here site exchanges seen (seen ++ a) s t (ap (λ (x : List Sighting). seen ++ x) stays.saw ∙ append-nil seen) stays.next k
knows_each site exchanges (e ∷ took) seen a s t told k w =
    known_here site exchanges ((seen ++ w.first) ++ w.second) (seen ++ a) t t (ap (λ (x : List Sighting). seen ++ x) w.whole ∙ sym (append_assoc seen w.first w.second)) refl
    (knows_each site exchanges took (seen ++ w.first) w.second w.mid t (heard_more site exchanges e seen w.first s w.mid told w.one) (event_knows site exchanges e seen w.first s w.mid told k w.one) w.other)

pub calls_have_requests : CallsHaveRequests
calls_have_requests site exchanges epoch took seen s run =
    let k = knows_each site exchanges took [] seen (start site exchanges epoch) s (heard_none site exchanges epoch) first run in
    (k.used, k.come)
  where
    first : Known site exchanges [] (start site exchanges epoch)
    first = record {
      keeps = λ c below. first_keeps site exchanges epoch c below;
      used = λ c. 0;
      come = none_yet (λ c. 0);
      agree = λ c z below at. absurd (let e : None ≡ Some z = sym (nothing_open c below) ∙ at in cc);
    }
