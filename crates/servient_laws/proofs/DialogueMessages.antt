-- Messages that are taken keep the dialogue of a connection, and so do bytes that come.
use Rattle.std.proofs.Common.{◌≡◌, ◌<◌, ◌+◌, ℕ, Bool, true, false, List, [], ◌∷◌, ◌++◌, length, drop, Option, Some, None, refl, sym, ap, ap₂, subst, ◌∙◌, arith, append_assoc, inl}
use Rattle.std.specs.Prelude.{◌==◌, ◌&&◌, not, option_map, if◌then◌else◌}
use Rattle.std.proofs.lemmas.Bool.Decides.{nat_tests}
use Rattle.std.proofs.lemmas.List.{append-nil, length-set}
use Rattle.std.proofs.lemmas.Option.{same_Some}
use Rattle.servient_base.specs.Moves.{Then}
use Rattle.thing_ops.specs.declared.outcome.Outcome.{Outcome}
use Rattle.thing_ops.specs.Requests.{RequestSeen}
use Rattle.thing_core.specs.Thing.{Done}
use Rattle.http_wire.specs.Stream.{PlainHead, Front, short, message, fault, IsFront}
use Rattle.http_wire.specs.Reading.{asked}
use Rattle.http_bind.specs.Replying.{is_head, continue_reply, fault_reply}
use Rattle.http_bind.specs.Streams.{HttpReply, Connection, Streams, connection_at, with_connection, without_wait, other_waits, is_waiting, Lengthened, lengthened, Taken, asks, wants_continue, is_faulty, interrupts, read_as, expected, found, to_take, after_taking, rest_of, LetsTake, takes_front, is_interrupted, Takes, Answers as AnswersRequest, lets_wait, sends_reply, Continues, Refuses}
use Rattle.servient_outside.specs.declared.net.What.TheVariants as what
use Rattle.servient_outside.specs.declared.net.EventWithBytes.{EventWithBytes}
use Rattle.servient_outside.specs.declared.net.Act.TheVariants as act
use Rattle.servient_outside.specs.Network.{heard}
use Rattle.servient_trace.specs.Trace.{Sighting, at_network}
use Rattle.servient_core.specs.Machine.{Site, State, OnHttp, Does, acts_of_reply, Sends, SendsIfAny, DeliversEach, PerformsByHttp, AnswersMessage, AnswersTaken, TakesNextMessage}
use Rattle.servient_laws.specs.Dialogues.{is_event_of, sent, closed, Pending, Talk, unread, Dialogue, bytes_come, bytes_are_late, continues, takes_request, refuses, is_closed, IsTalk, AreSame, PendingWaits}
use Rattle.servient_laws.proofs.DialogueSteps.{NoneIsOf, no_more, one_more, Keeps, KeepsOn, keeps_here, keeps_then, IsUntouched, untouched_self, untouched_keeps, aside_keeps, same_of, other_untouched, place_untouched, waiting_more, waits_at_last, connection_is}
use Rattle.servient_laws.proofs.DialogueReplies.{acts_seen, sends_none, http_keeps, does_keeps, replies_untouched, Amid, nothing_waits, replied, deliveries_keep, performed_none, performed_keeps}

-- ---- messages of another connection

any_keeps : (site : Site) (c d : ℕ) (r : Option HttpReply) → (c == d) ≡ false → KeepsOn site c (SendsIfAny d r)
any_keeps site c d None test seen a s t k p = aside_keeps site c seen a [] s t s k refl p no_more
any_keeps site c d (Some r) test seen a s t k p = does_keeps site c (acts_of_reply d r) (sends_none c d r test) seen a s t k p

answers_untouched : (c d : ℕ) (o : Outcome) (r : Option HttpReply) (now : ℕ) (h k : Streams) → (c == d) ≡ false → AnswersRequest d o now r h k → IsUntouched c h k
answers_untouched c d o r now h k test (lets_wait target is (z, owed, there, is_owed, after) none) =
    subst (λ (x : Streams). IsUntouched c h x) (sym after) (record {
      connection = refl;
      waits = waiting_more c (other_waits d h.waits) (record { connection = d; target = target; since = now }) test ∙ (other_untouched c d None h (with_connection d None (without_wait d h)) test refl).waits;
      places = refl;
    })
answers_untouched c d o r now h k test (sends_reply bytes closes none replies is) = replies_untouched c d o now bytes closes h k test replies

message_keeps : (site : Site) (c d : ℕ) (done : Done) → (c == d) ≡ false → KeepsOn site c (AnswersMessage d done)
message_keeps site c d done test seen a s t k (r, w) =
    keeps_then site c (OnHttp (λ now. AnswersRequest d done.outcome now r)) (SendsIfAny d r)
    (http_keeps site c (λ now. AnswersRequest d done.outcome now r) (λ now h l p. answers_untouched c d done.outcome r now h l test p)) (any_keeps site c d r test) seen a s t k w

taken_keeps : (site : Site) (c d : ℕ) (taken : Taken) → c < 64 → (c == d) ≡ false → KeepsOn site c (AnswersTaken site d taken)
taken_keeps site c d (asks q) below test seen a s t k (done, w) =
    keeps_then site c (PerformsByHttp site q done) (Then (AnswersMessage d done) (DeliversEach done.emissions)) (performed_keeps site q done c)
    (keeps_then site c (AnswersMessage d done) (DeliversEach done.emissions) (message_keeps site c d done test) (deliveries_keep site c done.emissions below)) seen a s t k w
taken_keeps site c d wants_continue below test seen a s t k (bytes, w) =
    keeps_then site c (OnHttp (λ now. Continues bytes)) (Does (acts_of_reply d (record { bytes = bytes; closes = false })))
    (http_keeps site c (λ now. Continues bytes) (λ now h l p. subst (λ (x : Streams). IsUntouched c h x) (sym p.1) (untouched_self c h)))
    (does_keeps site c (acts_of_reply d (record { bytes = bytes; closes = false })) (sends_none c d (record { bytes = bytes; closes = false }) test)) seen a s t k w
taken_keeps site c d (is_faulty status) below test seen a s t k (bytes, w) =
    keeps_then site c (OnHttp (λ now. Refuses d status bytes)) (Does (acts_of_reply d (record { bytes = bytes; closes = true })))
    (http_keeps site c (λ now. Refuses d status bytes) (λ now h l p. other_untouched c d None h l test p.1))
    (does_keeps site c (acts_of_reply d (record { bytes = bytes; closes = true })) (sends_none c d (record { bytes = bytes; closes = true }) test)) seen a s t k w
taken_keeps site c d interrupts below test seen a s t k p = does_keeps site c (act.Closed d ∷ []) (one_more (closed d) [] test no_more) seen a s t k p

-- ---- a message of this connection

-- the front of what isn't read, of both
pub front_of : (z : Connection) (x : Talk) (f : Front) → IsTalk z x → IsFront (rest_of z) f → IsFront (unread x) f
front_of z x f is front =
    subst (λ (n : ℕ). IsFront (drop n x.stream) f) is.taken (subst (λ (bytes : List ℕ). IsFront (drop z.taken bytes) f) is.stream front)

-- nothing is pending where nothing is owed
not_pending : (z : Connection) (x : Talk) → IsTalk z x → z.owed ≡ None → x.pending ≡ None
not_pending z x is none = by x.pending refl
  where
    by : (p : Option Pending) → x.pending ≡ p → x.pending ≡ None
    by None same = same
    by (Some p) same = absurd (let e : None ≡ Some p.owed = sym none ∙ is.owed ∙ ap (option_map (λ (q : Pending). q.owed)) same in cc)

-- a request at the front
pub record IsMessage (f : Front) (q : RequestSeen) : Type 0 where
  pub head : PlainHead
  pub body : List ℕ
  pub used : ℕ
  pub expect : Bool
  pub front : f ≡ message head body used expect
  pub asks_for : asked head body ≡ Some q

pub message_of : (continued : Bool) (f : Front) (q : RequestSeen) → to_take continued f ≡ Some (asks q) → IsMessage f q
message_of continued f q is = by (expected f && not continued) is
  where
    whole : (head : PlainHead) (body : List ℕ) (used : ℕ) (expect : Bool) → f ≡ message head body used expect → (r : Option RequestSeen) → asked head body ≡ r → Some (read_as r) ≡ Some (asks q) → IsMessage f q
    whole head body used expect same None reads said = absurd (let e : is_faulty 400 ≡ asks q = same_Some (is_faulty 400) (asks q) said in cc)
    whole head body used expect same (Some r) reads said =
        let one : r ≡ q = (let e : asks r ≡ asks q = same_Some (asks r) (asks q) said in cc) in
        record { head = head; body = body; used = used; expect = expect; front = same; asks_for = reads ∙ ap Some one }

    within : (g : Front) → f ≡ g → found g ≡ Some (asks q) → IsMessage f q
    within (short expect) same said = absurd (let e : None ≡ Some (asks q) = said in cc)
    within (message head body used expect) same said = whole head body used expect same (asked head body) refl said
    within (fault status expect) same said = absurd (let e : is_faulty status ≡ asks q = same_Some (is_faulty status) (asks q) said in cc)

    by : (t : Bool) → (if t then Some wants_continue else found f) ≡ Some (asks q) → IsMessage f q
    by true said = absurd (let e : wants_continue ≡ asks q = same_Some wants_continue (asks q) said in cc)
    by false said = within f refl said

-- a fault at the front, or that a 100 is asked for
fault_of : (continued : Bool) (f : Front) (status : ℕ) → to_take continued f ≡ Some (is_faulty status) → found f ≡ Some (is_faulty status)
fault_of continued f status is = by (expected f && not continued) is
  where
    by : (t : Bool) → (if t then Some wants_continue else found f) ≡ Some (is_faulty status) → found f ≡ Some (is_faulty status)
    by true said = absurd (let e : wants_continue ≡ is_faulty status = same_Some wants_continue (is_faulty status) said in cc)
    by false said = said

never_found : (f : Front) (taken : Taken) → found f ≡ Some taken → (taken ≡ wants_continue → ⊥) × (taken ≡ interrupts → ⊥)
never_found (short expect) taken said = absurd (let e : None ≡ Some taken = said in cc)
never_found (message head body used expect) taken said = by (asked head body) said
  where
    by : (r : Option RequestSeen) → Some (read_as r) ≡ Some taken → (taken ≡ wants_continue → ⊥) × (taken ≡ interrupts → ⊥)
    by None said = let e : is_faulty 400 ≡ taken = same_Some (is_faulty 400) taken said in (λ is. (let x : is_faulty 400 ≡ wants_continue = e ∙ is in cc), λ is. (let x : is_faulty 400 ≡ interrupts = e ∙ is in cc))
    by (Some r) said = let e : asks r ≡ taken = same_Some (asks r) taken said in (λ is. (let x : asks r ≡ wants_continue = e ∙ is in cc), λ is. (let x : asks r ≡ interrupts = e ∙ is in cc))
never_found (fault status expect) taken said =
    let e : is_faulty status ≡ taken = same_Some (is_faulty status) taken said in (λ is. (let x : is_faulty status ≡ wants_continue = e ∙ is in cc), λ is. (let x : is_faulty status ≡ interrupts = e ∙ is in cc))

continue_of : (continued : Bool) (f : Front) → to_take continued f ≡ Some wants_continue → (expected f ≡ true) × (continued ≡ false)
continue_of continued f is = by (expected f) continued refl is
  where
    by : (e c : Bool) → expected f ≡ e → (if e && not c then Some wants_continue else found f) ≡ Some wants_continue → (expected f ≡ true) × (c ≡ false)
    by true false test said = (test, refl)
    by true true test said = absurd ((never_found f wants_continue said).0 refl)
    by false c test said = absurd ((never_found f wants_continue said).0 refl)

never_interrupts : (continued : Bool) (f : Front) → to_take continued f ≡ Some interrupts → ⊥
never_interrupts continued f is = by (expected f && not continued) is
  where
    by : (t : Bool) → (if t then Some wants_continue else found f) ≡ Some interrupts → ⊥
    by true said = absurd (let e : wants_continue ≡ interrupts = same_Some wants_continue interrupts said in cc)
    by false said = (never_found f interrupts said).1 refl

-- the dialogue before a message is taken
pub record Before (site : Site) (c : ℕ) (seen : List Sighting) (s : State) (z : Connection) (x : Talk) : Type 0 where
  pub dialogue : Dialogue site c seen (Some x)
  pub same : IsTalk z x
  pub places : length s.http.places ≡ 64

pub before_of : (site : Site) (c : ℕ) (seen : List Sighting) (s : State) (z : Connection) → Keeps site c seen s → connection_at c s.http ≡ Some z → (x : Talk) × Before site c seen s z x
before_of site c seen s z k there = by k.converses.talk refl
  where
    by : (talk : Option Talk) → k.converses.talk ≡ talk → (x : Talk) × Before site c seen s z x
    by None is = absurd (subst (λ (y : Option Connection). AreSame y None) there (subst (λ (y : Option Talk). AreSame (connection_at c s.http) y) is k.converses.same))
    by (Some x) is = (
      x,
      record {
        dialogue = subst (λ (y : Option Talk). Dialogue site c seen y) is k.converses.dialogue;
        same = subst (λ (y : Option Connection). AreSame y (Some x)) there (subst (λ (y : Option Talk). AreSame (connection_at c s.http) y) is k.converses.same);
        places = k.places;
      },
    )

-- the connections after something was taken
pub taken_at : (c : ℕ) (y : Option Connection) (h k : Streams) → c < 64 → length h.places ≡ 64 → k ≡ with_connection c y (without_wait c h) → (connection_at c k ≡ y) × (length k.places ≡ 64)
taken_at c y h k below places is =
    (ap (connection_at c) is ∙ connection_is c y (without_wait c h) below places, ap (λ (x : Streams). length x.places) is ∙ length-set h.places c y ∙ places)

itself : (n : ℕ) → (n == n) ≡ true
itself n = grind (arith, nat_tests)

-- the message is a request, which is performed and answered
answered_mine : (site : Site) (c : ℕ) (done : Done) (seen a : List Sighting) (s t : State) (x : Talk) (p : Pending) → c < 64 → Amid site c seen s x p → p.outcome ≡ done.outcome → AnswersMessage c done s a t
    → Keeps site c (seen ++ a) t
answered_mine site c done seen a s t x p below m of (r, w) = by r w.one.1 w.other
  where
    by : (r : Option HttpReply) → AnswersRequest c done.outcome s.moment r s.http w.one.0 → SendsIfAny c r w.mid w.second t → Keeps site c (seen ++ a) t
    by r (lets_wait target is (z, owed, there, is_owed, after) none) sends =
        let stays = subst (λ (y : Option HttpReply). SendsIfAny c y w.mid w.second t) none sends in
        keeps_here site c seen (seen ++ a) (record s { http = w.one.0 }) t
        (ap (λ (l : List Sighting). seen ++ l) (w.whole ∙ ap₂ (λ (u v : List Sighting). u ++ v) w.one.2.saw stays.saw) ∙ append-nil seen) (stays.next ∙ w.one.2.next)
        (record {
          converses = record {
            talk = Some x;
            dialogue = m.dialogue;
            same = subst (λ (h : Streams). AreSame (connection_at c h) (Some x)) (sym after) m.same;
            waits = λ q pending. (
              ap (λ (h : Streams). is_waiting c h.waits) after ∙ waits_at_last c (other_waits c s.http.waits) (record { connection = c; target = target; since = s.moment }) (itself c),
              target,
              ap (λ (y : Pending). y.outcome) (same_Some q p (sym pending ∙ m.pending)) ∙ of ∙ is,
            );
          };
          places = ap (λ (h : Streams). length h.places) after ∙ m.places;
        })
    by r (sends_reply bytes closes none replies is) sends =
        let does : Sends c (record { bytes = bytes; closes = closes }) w.mid w.second t = subst (λ (y : Option HttpReply). SendsIfAny c y w.mid w.second t) is sends in
        keeps_here site c (seen ++ acts_seen (acts_of_reply c (record { bytes = bytes; closes = closes }))) (seen ++ a) (record s { http = w.one.0 }) t
        (ap (λ (l : List Sighting). seen ++ l) (w.whole ∙ ap₂ (λ (u v : List Sighting). u ++ v) w.one.2.saw does.saw)) (does.next ∙ w.one.2.next)
        (replied site c seen s x p done.outcome s.moment bytes closes w.one.0 below m (inl (sym of)) replies)

request_mine : (site : Site) (c : ℕ) (q : RequestSeen) (f : Front) (seen a : List Sighting) (s n t : State) (z : Connection) (x : Talk) → c < 64 → Before site c seen s z x → z.owed ≡ None → IsFront (rest_of z) f
    → to_take z.continued f ≡ Some (asks q) → n.http ≡ with_connection c (Some (after_taking (asks q) f z)) (without_wait c s.http) → AnswersTaken site c (asks q) n a t → Keeps site c (seen ++ a) t
request_mine site c q f seen a s n t z x below b free front found taken (done, w) =
    let g = message_of z.continued f q found in
    let at_front : IsFront (unread x) (message g.head g.body g.used g.expect) = subst (λ (y : Front). IsFront (unread x) y) g.front (front_of z x f b.same front) in
    let p : Pending = record { owed = record { bodiless = is_head q.verb; closes = g.head.close }; outcome = done.outcome } in
    let now : Talk = record x { taken = x.taken + g.used; continued = false; pending = Some p } in
    let performed = performed_none site q done c n w.mid w.first w.one in
    let at_c = taken_at c (Some (after_taking (asks q) f z)) s.http n.http below b.places taken in
    let there : connection_at c w.mid.http ≡ Some (after_taking (asks q) (message g.head g.body g.used g.expect) z) =
    ap (connection_at c) performed.1 ∙ at_c.0 ∙ ap (λ (y : Front). Some (after_taking (asks q) y z)) g.front in
    let amid : Amid site c (seen ++ w.first) w.mid now p = record {
      dialogue = takes_request seen x g.head g.body g.used g.expect q done n w.mid w.first b.dialogue (not_pending z x b.same free) at_front g.asks_for w.one;
      same = subst (λ (y : Option Connection). AreSame y (Some now)) (sym there) (record { stream = b.same.stream; taken = ap (λ (k : ℕ). k + g.used) b.same.taken; continued = refl; owed = refl });
      places = ap (λ (h : Streams). length h.places) performed.1 ∙ at_c.1;
      pending = refl;
    } in
    keeps_here site c (((seen ++ w.first) ++ w.other.first) ++ w.other.second) (seen ++ a) t t
    (ap (λ (l : List Sighting). seen ++ l) (w.whole ∙ ap (λ (l : List Sighting). w.first ++ l) w.other.whole) ∙ sym (append_assoc seen w.first (w.other.first ++ w.other.second)) ∙ sym (append_assoc (seen ++ w.first) w.other.first w.other.second)) refl
    (deliveries_keep site c done.emissions below ((seen ++ w.first) ++ w.other.first) w.other.second w.other.mid t
    (answered_mine site c done (seen ++ w.first) w.other.first w.mid w.other.mid now p below amid refl w.other.one) w.other.other)

-- something is taken of this connection, and answered
taken_mine : (site : Site) (c : ℕ) (taken : Taken) (seen a : List Sighting) (s n t : State) (z : Connection) (y : Option Connection) (x : Talk) → c < 64 → Before site c seen s z x → LetsTake taken z y
    → n.http ≡ with_connection c y (without_wait c s.http) → AnswersTaken site c taken n a t → Keeps site c (seen ++ a) t
taken_mine site c (asks q) seen a s n t z y x below b (takes_front f free front found is) after answers =
    request_mine site c q f seen a s n t z x below b free front found (after ∙ ap (λ (v : Option Connection). with_connection c v (without_wait c s.http)) is) answers
taken_mine site c (asks q) seen a s n t z y x below b (is_interrupted o owed rest is gone) after answers = absurd (let e : asks q ≡ interrupts = is in cc)
taken_mine site c wants_continue seen a s n t z y x below b (takes_front f free front found is) after (bytes, w) =
    let test = continue_of z.continued f found in
    let at_c = taken_at c y s.http n.http below b.places after in
    let a_is : a ≡ sent c continue_reply ∷ [] = w.whole ∙ ap₂ (λ (u v : List Sighting). u ++ v) w.one.2.saw w.other.saw ∙ ap (λ (l : List ℕ). sent c l ∷ []) w.one.1.0 in
    let http_is : t.http ≡ n.http = ap (λ (v : State). v.http) (w.other.next ∙ w.one.2.next) ∙ w.one.1.1 in
    let none = not_pending z x b.same free in
    keeps_here site c (seen ++ sent c continue_reply ∷ []) (seen ++ a) t t (ap (λ (l : List Sighting). seen ++ l) a_is) refl (record {
      converses = record {
        talk = Some (record x { continued = true });
        dialogue = continues seen x f b.dialogue none (front_of z x f b.same front) test.0 (sym b.same.continued ∙ test.1);
        same = subst (λ (v : Option Connection). AreSame v (Some (record x { continued = true }))) (sym (ap (connection_at c) http_is ∙ at_c.0 ∙ is))
            (record { stream = b.same.stream; taken = b.same.taken; continued = refl; owed = b.same.owed });
        waits = nothing_waits c t.http (record x { continued = true }) none;
      };
      places = ap (λ (h : Streams). length h.places) http_is ∙ at_c.1;
    })
taken_mine site c wants_continue seen a s n t z y x below b (is_interrupted o owed rest is gone) after answers = absurd (let e : wants_continue ≡ interrupts = is in cc)
taken_mine site c (is_faulty status) seen a s n t z y x below b (takes_front f free front found is) after (bytes, w) =
    let at_c = taken_at c y s.http n.http below b.places after in
    let a_is : a ≡ sent c (fault_reply status) ∷ closed c ∷ [] = w.whole ∙ ap₂ (λ (u v : List Sighting). u ++ v) w.one.2.saw w.other.saw ∙ ap (λ (l : List ℕ). sent c l ∷ closed c ∷ []) w.one.1.0 in
    let http_is : t.http ≡ w.one.0 = ap (λ (v : State). v.http) (w.other.next ∙ w.one.2.next) in
    let shut = taken_at c None n.http w.one.0 below at_c.1 w.one.1.1 in
    keeps_here site c (seen ++ sent c (fault_reply status) ∷ closed c ∷ []) (seen ++ a) t t (ap (λ (l : List Sighting). seen ++ l) a_is) refl (record {
      converses = record {
        talk = None;
        dialogue = refuses seen x f status b.dialogue (not_pending z x b.same free) (front_of z x f b.same front) (fault_of z.continued f status found);
        same = subst (λ (v : Option Connection). AreSame v None) (sym (ap (connection_at c) http_is ∙ shut.0)) tt;
        waits = tt;
      };
      places = ap (λ (h : Streams). length h.places) http_is ∙ shut.1;
    })
taken_mine site c (is_faulty status) seen a s n t z y x below b (is_interrupted o owed rest is gone) after answers = absurd (let e : is_faulty status ≡ interrupts = is in cc)
taken_mine site c interrupts seen a s n t z y x below b (takes_front f free front found is) after answers = absurd (never_interrupts z.continued f found)
taken_mine site c interrupts seen a s n t z y x below b (is_interrupted o owed rest is gone) after does =
    let at_c = taken_at c y s.http n.http below b.places after in
    let http_is : t.http ≡ n.http = ap (λ (v : State). v.http) does.next in
    keeps_here site c (seen ++ closed c ∷ []) (seen ++ a) t t (ap (λ (l : List Sighting). seen ++ l) does.saw) refl (record {
      converses = record {
        talk = None;
        dialogue = is_closed seen x b.dialogue;
        same = subst (λ (v : Option Connection). AreSame v None) (sym (ap (connection_at c) http_is ∙ at_c.0 ∙ gone)) tt;
        waits = tt;
      };
      places = ap (λ (h : Streams). length h.places) http_is ∙ at_c.1;
    })

pub next_keeps : (site : Site) (c d : ℕ) → c < 64 → KeepsOn site c (TakesNextMessage site d)
next_keeps site c d below seen a s t k (taken, w) = by (c == d) refl
  where
    mine : Takes c taken s.http w.one.0 → AnswersTaken site c taken w.mid w.second t → Keeps site c (seen ++ a) t
    mine (z, y, there, lets, after) answers =
        let b = before_of site c seen s z k there in
        keeps_here site c (seen ++ w.second) (seen ++ a) t t
        (ap (λ (l : List Sighting). seen ++ l) (w.whole ∙ ap (λ (l : List Sighting). l ++ w.second) w.one.2.saw)) refl
        (taken_mine site c taken seen w.second s w.mid t z y b.0 below b.1 lets (ap (λ (v : State). v.http) w.one.2.next ∙ after) answers)

    by : (test : Bool) → (c == d) ≡ test → Keeps site c (seen ++ a) t
    by true test =
        let is : c ≡ d = same_of c d test in
        mine (subst (λ (n : ℕ). Takes n taken s.http w.one.0) (sym is) w.one.1) (subst (λ (n : ℕ). AnswersTaken site n taken w.mid w.second t) (sym is) w.other)
    by false test =
        keeps_then site c (OnHttp (λ now. Takes d taken)) (AnswersTaken site d taken)
        (http_keeps site c (λ now. Takes d taken) (λ now h l p. other_untouched c d p.1 h l test p.4)) (taken_keeps site c d taken below test) seen a s t k w

-- bytes came, of a connection that is open or isn't
lengthened_mine : (site : Site) (c : ℕ) (e : EventWithBytes) (count : ℕ) (seen : List Sighting) (s : State) (h : Streams) → c < 64 → Keeps site c seen s → e.event.what ≡ what.Bytes c count → Lengthened c e.bytes s.moment s.http h
    → Keeps site c (seen ++ at_network (heard e) ∷ []) (record s { http = h })
lengthened_mine site c e count seen s h below k is after = by_talk k.converses.talk refl (connection_at c s.http) refl
  where
    places : length h.places ≡ 64
    places = ap (λ (x : Streams). length x.places) after ∙ length-set s.http.places c (option_map (lengthened e.bytes s.moment) (connection_at c s.http)) ∙ k.places

    at_c : connection_at c h ≡ option_map (lengthened e.bytes s.moment) (connection_at c s.http)
    at_c = ap (connection_at c) after ∙ connection_is c (option_map (lengthened e.bytes s.moment) (connection_at c s.http)) s.http below k.places

    by_talk : (talk : Option Talk) → k.converses.talk ≡ talk → (x : Option Connection) → connection_at c s.http ≡ x → Keeps site c (seen ++ at_network (heard e) ∷ []) (record s { http = h })
    by_talk None none None gone = record {
      converses = record {
        talk = None;
        dialogue = bytes_are_late seen e count (subst (λ (y : Option Talk). Dialogue site c seen y) none k.converses.dialogue) is;
        same = subst (λ (v : Option Connection). AreSame v None) (sym (at_c ∙ ap (option_map (lengthened e.bytes s.moment)) gone)) tt;
        waits = tt;
      };
      places = places;
    }
    by_talk (Some y) some (Some z) there =
        let one : IsTalk z y = subst (λ (v : Option Connection). AreSame v (Some y)) there (subst (λ (v : Option Talk). AreSame (connection_at c s.http) v) some k.converses.same) in
        let waits : PendingWaits c s.http (Some y) = subst (λ (v : Option Talk). PendingWaits c s.http v) some k.converses.waits in
        record {
          converses = record {
            talk = Some (record y { stream = y.stream ++ e.bytes });
            dialogue = bytes_come seen e count y (subst (λ (v : Option Talk). Dialogue site c seen v) some k.converses.dialogue) is;
            same = subst (λ (v : Option Connection). AreSame v (Some (record y { stream = y.stream ++ e.bytes }))) (sym (at_c ∙ ap (option_map (lengthened e.bytes s.moment)) there))
                (record { stream = ap (λ (l : List ℕ). l ++ e.bytes) one.stream; taken = one.taken; continued = one.continued; owed = one.owed });
            waits = λ p pending. let w = waits p pending in (ap (λ (v : Streams). is_waiting c v.waits) after ∙ w.0, w.1, w.2);
          };
          places = places;
        }
    by_talk None none (Some z) there =
        absurd (subst (λ (v : Option Connection). AreSame v None) there (subst (λ (v : Option Talk). AreSame (connection_at c s.http) v) none k.converses.same))
    by_talk (Some y) some None gone =
        absurd (subst (λ (v : Option Connection). AreSame v (Some y)) gone (subst (λ (v : Option Talk). AreSame (connection_at c s.http) v) some k.converses.same))

pub lengthened_keeps : (site : Site) (c d count : ℕ) (e : EventWithBytes) (seen a : List Sighting) (s t : State) → c < 64 → e.event.what ≡ what.Bytes d count → Keeps site c seen s → OnHttp (Lengthened d e.bytes) s a t
    → Keeps site c (seen ++ at_network (heard e) ∷ a) t
lengthened_keeps site c d count e seen a s t below is k (h, long, p) = by (c == d) refl
  where
    by : (test : Bool) → (c == d) ≡ test → Keeps site c (seen ++ at_network (heard e) ∷ a) t
    by true test =
        let same : c ≡ d = same_of c d test in
        keeps_here site c (seen ++ at_network (heard e) ∷ []) (seen ++ at_network (heard e) ∷ a) (record s { http = h }) t (ap (λ (l : List Sighting). seen ++ at_network (heard e) ∷ l) p.saw) p.next
        (lengthened_mine site c e count seen s h below k (is ∙ ap (λ (n : ℕ). what.Bytes n count) (sym same)) (subst (λ (n : ℕ). Lengthened n e.bytes s.moment s.http h) (sym same) long))
    by false test =
        keeps_here site c (seen ++ at_network (heard e) ∷ a) (seen ++ at_network (heard e) ∷ a) (record s { http = h }) t refl p.next
        (untouched_keeps site c seen (at_network (heard e) ∷ a) s (record s { http = h }) k (place_untouched c d (option_map (lengthened e.bytes s.moment) (connection_at d s.http)) s.http h test long)
        (one_more (at_network (heard e)) a (ap (is_event_of c) is ∙ test) (subst (λ (l : List Sighting). NoneIsOf c l) (sym p.saw) no_more)))
