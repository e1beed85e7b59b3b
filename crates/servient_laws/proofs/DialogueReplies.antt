-- A reply, the end of an event and what comes of a datagram keep the dialogue of a connection.
use Rattle.std.proofs.Common.{◌≡◌, ◌<◌, ℕ, Bool, true, false, List, [], ◌∷◌, ◌++◌, length, map, Option, Some, None, refl, sym, ap, ap₂, subst, ◌∙◌, inl, inr}
use Rattle.std.specs.Prelude.{◌==◌, option_map, if◌then◌else◌}
use Rattle.std.proofs.lemmas.List.{length-set}
use Rattle.std.proofs.lemmas.Option.{same_Some}
use Rattle.std.proofs.lemmas.List.Quantifiers.{position-Some}
use Rattle.servient_base.specs.Moves.{Then, Until}
use Rattle.coap_msg.specs.declared.endpoint.Endpoint.{Endpoint}
use Rattle.thing_ops.specs.declared.outcome.Outcome.{Outcome}
use Rattle.thing_ops.specs.Requests.{RequestSeen}
use Rattle.thing_site.specs.Site.{Placed}
use Rattle.thing_state.specs.State.{Emission, last_of}
use Rattle.thing_core.specs.Thing.{Done, PollsEvent}
use Rattle.coap_bind.specs.Server.{Heard, ignored, answered_at_once, asked as is_asked, Hears, Answers, SendsNext, with_emitted}
use Rattle.http_bind.specs.declared.owed.Owed.{Owed}
use Rattle.http_bind.specs.Replying.{reply}
use Rattle.http_bind.specs.Streams.{HttpReply, Connection, Streams, connection_at, without_wait, found, after_reply, Replies, woken_by, Wakes, Closes, IsIdle, NoneIdle, is_idle, oldest_for, oldest_late}
use Rattle.servient_outside.specs.declared.net.Act.{Act}
use Rattle.servient_outside.specs.declared.net.Act.TheVariants as act
use Rattle.servient_outside.specs.Network.{did}
use Rattle.servient_trace.specs.Trace.{Sighting, at_network, at_handler}
use Rattle.servient_core.specs.Machine.{Site, State, OnHttp, OnCoap, OnThing, Does, acts_of_reply, RepliesToWait, AnswersWait, MarksObservers, Delivers, DeliversEach, Performs, PerformsByHttp, AnswersAsk, AnswersDatagram, HearsDatagram, SendsNotification, NothingIsDue, SendsNotifications, AnswersLateWait, ClosesIdle, EndsEvent, PollsAndDelivers, observed_target, notification_bytes}
use Rattle.servient_core.specs.Keeping.{AnswersWaits, ClosesAllIdle, AnswersLateWaits}
use Rattle.servient_laws.specs.Dialogues.{sent, closed, Pending, Talk, IsFinal, Dialogue, responds, responds_last, is_closed, IsTalk, AreSame, PendingWaits}
use Rattle.servient_laws.proofs.DialogueSteps.{NoneIsOf, no_more, one_more, calls_are_none, Keeps, KeepsOn, keeps_here, keeps_then, keeps_each, keeps_until, IsUntouched, untouched_self, untouched_keeps, aside_keeps, coap_keeps, same_of, other_untouched, connection_is}

-- ---- acts on another connection

abbrev pub acts_seen : List Act → List Sighting
acts_seen acts = map (λ x. at_network (did x)) acts

abbrev closing : ℕ → Bool → List Act
closing d closes = if closes then act.Closed d ∷ [] else []

closing_none : (c d : ℕ) (closes : Bool) → (c == d) ≡ false → NoneIsOf c (acts_seen (closing d closes))
closing_none c d true test = one_more (closed d) [] test no_more
closing_none c d false test = no_more

pub sends_none : (c d : ℕ) (r : HttpReply) → (c == d) ≡ false → NoneIsOf c (acts_seen (acts_of_reply d r))
sends_none c d r test = one_more (sent d r.bytes) (acts_seen (closing d r.closes)) test (closing_none c d r.closes test)

datagram_none : (c : ℕ) (to : Endpoint) (bytes : List ℕ) → NoneIsOf c (at_network (did (act.Datagram to bytes)) ∷ [])
datagram_none c to bytes = one_more (at_network (did (act.Datagram to bytes))) [] refl no_more

-- a change of another connection
pub http_keeps : (site : Site) (c : ℕ) (C : ℕ → Streams → Streams → Type 0) → ((now : ℕ) (h k : Streams) → C now h k → IsUntouched c h k) → KeepsOn site c (OnHttp C)
http_keeps site c C untouched seen a s t k (h, change, p) =
    untouched_keeps site c seen a s t k (subst (λ (x : Streams). IsUntouched c s.http x) (sym (ap (λ (x : State). x.http) p.next)) (untouched s.moment s.http h change)) (subst (λ (x : List Sighting). NoneIsOf c x) (sym p.saw) no_more)

-- acts on another
pub does_keeps : (site : Site) (c : ℕ) (acts : List Act) → NoneIsOf c (acts_seen acts) → KeepsOn site c (Does acts)
does_keeps site c acts none seen a s t k p = aside_keeps site c seen a (acts_seen acts) s t s k refl p none

pub replies_untouched : (c d : ℕ) (o : Outcome) (now : ℕ) (bytes : List ℕ) (closes : Bool) (h k : Streams) → (c == d) ≡ false → Replies d o now bytes closes h k → IsUntouched c h k
replies_untouched c d o now bytes closes h k test r = other_untouched c d (after_reply closes now r.0) h k test r.6

-- ---- the reply to the request that was taken last

-- the dialogue in the middle of a message
pub record Amid (site : Site) (c : ℕ) (seen : List Sighting) (s : State) (x : Talk) (p : Pending) : Type 0 where
  pub dialogue : Dialogue site c seen (Some x)
  pub same : AreSame (connection_at c s.http) (Some x)
  pub places : length s.http.places ≡ 64
  pub pending : x.pending ≡ Some p

-- what is owed to a connection is owed to the request that is pending
record IsOwed (z : Connection) (owed : Owed) (talk : Option Talk) : Type 0 where
  talking : Talk
  talk_is : talk ≡ Some talking
  pending : Pending
  pending_is : talking.pending ≡ Some pending
  owed_is : pending.owed ≡ owed
  is : IsTalk z talking

owed_talk : (o : Option Connection) (talk : Option Talk) (z : Connection) (owed : Owed) → AreSame o talk → o ≡ Some z → z.owed ≡ Some owed → IsOwed z owed talk
owed_talk o talk z owed same there is = by talk (subst (λ (x : Option Connection). AreSame x talk) there same)
  where
    within : (x : Talk) → IsTalk z x → (pending : Option Pending) → x.pending ≡ pending → IsOwed z owed (Some x)
    within x t None none = absurd (let e : Some owed ≡ None = sym is ∙ t.owed ∙ ap (option_map (λ p. p.owed)) none in cc)
    within x t (Some p) some = record {
      talking = x;
      talk_is = refl;
      pending = p;
      pending_is = some;
      owed_is = same_Some p.owed owed (sym (ap (option_map (λ (q : Pending). q.owed)) some) ∙ sym t.owed ∙ is);
      is = t;
    }

    by : (talk : Option Talk) → AreSame (Some z) talk → IsOwed z owed talk
    by None same = absurd same
    by (Some x) same = within x same x.pending refl

pub nothing_waits : (c : ℕ) (h : Streams) (x : Talk) → x.pending ≡ None → PendingWaits c h (Some x)
nothing_waits c h x none = λ p is. absurd (let e : None ≡ Some p = sym none ∙ is in cc)

pub replied : (site : Site) (c : ℕ) (seen : List Sighting) (s : State) (x : Talk) (p : Pending) (said : Outcome) (now : ℕ) (bytes : List ℕ) (closes : Bool) (h : Streams) → c < 64 → Amid site c seen s x p
    → IsFinal p.outcome said → Replies c said now bytes closes s.http h → Keeps site c (seen ++ acts_seen (acts_of_reply c (record { bytes = bytes; closes = closes }))) (record s { http = h })
replied site c seen s x p said now bytes closes h below m final (z, owed, there, is_owed, closes_is, reply_is, after) = by closes refl
  where
    o : IsOwed z owed (Some x)
    o = owed_talk (connection_at c s.http) (Some x) z owed m.same there is_owed

    talk_is : o.talking ≡ x
    talk_is = sym (same_Some x o.talking o.talk_is)

    owed_is : p.owed ≡ owed
    owed_is = ap (λ (q : Pending). q.owed) (same_Some p o.pending (sym m.pending ∙ ap (λ (y : Talk). y.pending) (sym talk_is) ∙ o.pending_is)) ∙ o.owed_is

    is : IsTalk z x
    is = subst (λ (y : Talk). IsTalk z y) talk_is o.is

    places : length h.places ≡ 64
    places = ap (λ (k : Streams). length k.places) after ∙ length-set s.http.places c (after_reply closes now z) ∙ m.places

    at_c : connection_at c h ≡ after_reply closes now z
    at_c = ap (connection_at c) after ∙ connection_is c (after_reply closes now z) (without_wait c s.http) below m.places

    by : (shuts : Bool) → closes ≡ shuts → Keeps site c (seen ++ acts_seen (acts_of_reply c (record { bytes = bytes; closes = closes }))) (record s { http = h })
    by false shut = record {
      converses = record {
        talk = Some (record x { pending = None });
        dialogue = subst (λ (b : Bool). Dialogue site c (seen ++ sent c bytes ∷ acts_seen (closing c b)) (Some (record x { pending = None }))) (sym shut)
            (responds seen x p said bytes m.dialogue m.pending final
            (ap₂ (λ (w : Owed) (b : Bool). reply w.bodiless b said) owed_is (sym shut) ∙ reply_is) (ap (λ (w : Owed). w.closes) owed_is ∙ sym closes_is ∙ shut));
        same = subst (λ (y : Option Connection). AreSame y (Some (record x { pending = None }))) (sym (at_c ∙ ap (λ (b : Bool). after_reply b now z) shut))
            (record { stream = is.stream; taken = is.taken; continued = is.continued; owed = refl });
        waits = nothing_waits c h (record x { pending = None }) refl;
      };
      places = places;
    }
    by true shut = record {
      converses = record {
        talk = None;
        dialogue = subst (λ (b : Bool). Dialogue site c (seen ++ sent c bytes ∷ acts_seen (closing c b)) None) (sym shut)
            (responds_last seen x p said bytes m.dialogue m.pending final
            (ap₂ (λ (w : Owed) (b : Bool). reply w.bodiless b said) owed_is (sym shut) ∙ reply_is) (ap (λ (w : Owed). w.closes) owed_is ∙ sym closes_is ∙ shut));
        same = subst (λ (y : Option Connection). AreSame y None) (sym (at_c ∙ ap (λ (b : Bool). after_reply b now z) shut)) tt;
        waits = tt;
      };
      places = places;
    }

-- ---- a request that waits is replied to

wakes_keep : (site : Site) (c d : ℕ) (text : Option (List ℕ)) → c < 64 → KeepsOn site c (RepliesToWait d text)
wakes_keep site c d text below seen a s t k (r, w) = by (c == d) refl
  where
    a_is : a ≡ acts_seen (acts_of_reply d r)
    a_is = w.whole ∙ ap₂ (λ (x y : List Sighting). x ++ y) w.one.2.saw w.other.saw

    t_is : t ≡ record s { http = w.one.0 }
    t_is = w.other.next ∙ w.one.2.next

    mine : c ≡ d → Keeps site c (seen ++ a) t
    mine is =
        let wakes : Wakes c text s.moment r.bytes r.closes s.http w.one.0 = subst (λ (x : ℕ). Wakes x text s.moment r.bytes r.closes s.http w.one.0) (sym is) w.one.1 in
        let o = owed_talk (connection_at c s.http) k.converses.talk wakes.1.0 wakes.1.1 k.converses.same wakes.1.2 wakes.1.3 in
        let waits : PendingWaits c s.http (Some o.talking) = subst (λ (x : Option Talk). PendingWaits c s.http x) o.talk_is k.converses.waits in
        let target = waits o.pending o.pending_is in
        keeps_here site c (seen ++ acts_seen (acts_of_reply c r)) (seen ++ a) (record s { http = w.one.0 }) t
        (ap (λ (x : List Sighting). seen ++ x) (a_is ∙ ap (λ (n : ℕ). acts_seen (acts_of_reply n r)) (sym is))) t_is
        (replied site c seen s o.talking o.pending (woken_by text) s.moment r.bytes r.closes w.one.0 below
        (record {
          dialogue = subst (λ (x : Option Talk). Dialogue site c seen x) o.talk_is k.converses.dialogue;
          same = subst (λ (x : Option Talk). AreSame (connection_at c s.http) x) o.talk_is k.converses.same;
          places = k.places;
          pending = o.pending_is;
        }) (inr (target.1, text, target.2, refl)) wakes.1)

    by : (test : Bool) → (c == d) ≡ test → Keeps site c (seen ++ a) t
    by true test = mine (same_of c d test)
    by false test =
        untouched_keeps site c seen a s t k
        (subst (λ (x : State). IsUntouched c s.http x.http) (sym t_is) (replies_untouched c d (woken_by text) s.moment r.bytes r.closes s.http w.one.0 test w.one.1.1))
        (subst (λ (x : List Sighting). NoneIsOf c x) (sym a_is) (sends_none c d r test))

wait_keeps : (site : Site) (c target : ℕ) → c < 64 → KeepsOn site c (AnswersWait target)
wait_keeps site c target below seen a s t k (d, found, w) = wakes_keep site c d (last_of target s.thing.last) below seen a s t k w

delivers_keep : (site : Site) (c target : ℕ) → c < 64 → KeepsOn site c (Delivers target)
delivers_keep site c target below =
    keeps_then site c (AnswersWaits target) (MarksObservers target)
    (keeps_until site c (AnswersWait target) (λ s. oldest_for target s.http.waits ≡ None) (wait_keeps site c target below))
    (coap_keeps site c (λ now before after. after ≡ with_emitted target before))

pub deliveries_keep : (site : Site) (c : ℕ) (emissions : List Emission) → c < 64 → KeepsOn site c (DeliversEach emissions)
deliveries_keep site c emissions below = keeps_each site c Delivers (map (λ e. e.target) emissions) (λ target. delivers_keep site c target below)

late_keeps : (site : Site) (c : ℕ) → c < 64 → KeepsOn site c AnswersLateWait
late_keeps site c below seen a s t k (d, found, w) = wakes_keep site c d None below seen a s t k w

-- ---- the end of an event

notification_keeps : (site : Site) (c : ℕ) → KeepsOn site c SendsNotification
notification_keeps site c seen a s t k (n, w) =
    keeps_then site c (OnCoap (λ now. SendsNext now (Some n))) (Does (act.Datagram n.to (notification_bytes n s.thing) ∷ []))
    (coap_keeps site c (λ now. SendsNext now (Some n))) (does_keeps site c (act.Datagram n.to (notification_bytes n s.thing) ∷ []) (datagram_none c n.to (notification_bytes n s.thing))) seen a s t k w

-- a connection that is idle is open
idle_is_open : (now c : ℕ) (h : Streams) → IsIdle c now h → (z : Connection) × (connection_at c h ≡ Some z)
idle_is_open now c h idle = by (connection_at c h) refl (position-Some (is_idle now) h.places c None idle).1
  where
    by : (x : Option Connection) → connection_at c h ≡ x → is_idle now (connection_at c h) ≡ true → (z : Connection) × (connection_at c h ≡ Some z)
    by None is test = absurd (let e : false ≡ true = sym (ap (is_idle now) is) ∙ test in cc)
    by (Some z) is test = (z, is)

-- the server closes it
closes_mine : (site : Site) (c : ℕ) (seen : List Sighting) (s : State) (h : Streams) (z : Connection) → c < 64 → Keeps site c seen s → connection_at c s.http ≡ Some z → Closes c s.http h
    → Keeps site c (seen ++ closed c ∷ []) (record s { http = h })
closes_mine site c seen s h z below k there closes = by k.converses.talk refl
  where
    by : (talk : Option Talk) → k.converses.talk ≡ talk → Keeps site c (seen ++ closed c ∷ []) (record s { http = h })
    by None is =
        absurd (subst (λ (x : Option Connection). AreSame x None) there (subst (λ (x : Option Talk). AreSame (connection_at c s.http) x) is k.converses.same))
    by (Some x) is = record {
      converses = record {
        talk = None;
        dialogue = is_closed seen x (subst (λ (y : Option Talk). Dialogue site c seen y) is k.converses.dialogue);
        same = subst (λ (y : Option Connection). AreSame y None) (sym (ap (connection_at c) closes ∙ connection_is c None (without_wait c s.http) below k.places)) tt;
        waits = tt;
      };
      places = ap (λ (x : Streams). length x.places) closes ∙ length-set s.http.places c None ∙ k.places;
    }

closes_keep : (site : Site) (c : ℕ) → c < 64 → KeepsOn site c ClosesIdle
closes_keep site c below seen a s t k (d, w) = by (c == d) refl
  where
    a_is : a ≡ closed d ∷ []
    a_is = w.whole ∙ ap₂ (λ (x y : List Sighting). x ++ y) w.one.2.saw w.other.saw

    t_is : t ≡ record s { http = w.one.0 }
    t_is = w.other.next ∙ w.one.2.next

    by : (test : Bool) → (c == d) ≡ test → Keeps site c (seen ++ a) t
    by true test =
        let is : c ≡ d = same_of c d test in
        let idle : IsIdle c s.moment s.http = subst (λ (x : ℕ). IsIdle x s.moment s.http) (sym is) w.one.1.0 in
        let z = idle_is_open s.moment c s.http idle in
        keeps_here site c (seen ++ closed c ∷ []) (seen ++ a) (record s { http = w.one.0 }) t (ap (λ (x : List Sighting). seen ++ x) (a_is ∙ ap (λ (n : ℕ). closed n ∷ []) (sym is))) t_is
        (closes_mine site c seen s w.one.0 z.0 below k z.1 (subst (λ (x : ℕ). Closes x s.http w.one.0) (sym is) w.one.1.1))
    by false test =
        untouched_keeps site c seen a s t k (subst (λ (x : State). IsUntouched c s.http x.http) (sym t_is) (other_untouched c d None s.http w.one.0 test w.one.1.1))
        (subst (λ (x : List Sighting). NoneIsOf c x) (sym a_is) (one_more (closed d) [] test no_more))

pub ends_keep : (site : Site) (c : ℕ) → c < 64 → KeepsOn site c EndsEvent
ends_keep site c below =
    keeps_then site c SendsNotifications (Then AnswersLateWaits ClosesAllIdle)
    (keeps_then site c (Until SendsNotification NothingIsDue) (OnCoap (λ now. SendsNext now None)) (keeps_until site c SendsNotification NothingIsDue (notification_keeps site c))
    (coap_keeps site c (λ now. SendsNext now None)))
    (keeps_then site c AnswersLateWaits ClosesAllIdle
    (keeps_until site c AnswersLateWait (λ s. oldest_late s.moment s.http.waits ≡ None) (late_keeps site c below))
    (keeps_until site c ClosesIdle (λ s. NoneIdle s.moment s.http) (closes_keep site c below)))

-- ---- requests that are performed, and those of CoAP

pub performed_none : (site : Site) (q : RequestSeen) (done : Done) (c : ℕ) (s t : State) (a : List Sighting) → PerformsByHttp site q done s a t → NoneIsOf c a × (t.http ≡ s.http)
performed_none site q done c s t a (inl (is, (d, acts, none, p))) = (subst (λ (x : List Sighting). NoneIsOf c x) (sym p.saw) no_more, ap (λ (x : State). x.http) p.next)
performed_none site q done c s t a (inr (isnt, (k, calls, acts, p))) = (subst (λ (x : List Sighting). NoneIsOf c x) (sym p.saw) (calls_are_none c calls), ap (λ (x : State). x.http) p.next)

pub performed_keeps : (site : Site) (q : RequestSeen) (done : Done) (c : ℕ) → KeepsOn site c (PerformsByHttp site q done)
performed_keeps site q done c seen a s t k p =
    let both = performed_none site q done c s t a p in
    untouched_keeps site c seen a s t k (subst (λ (h : Streams). IsUntouched c s.http h) (sym both.1) (untouched_self c s.http)) both.0

things_keep : (site : Site) (q : RequestSeen) (done : Done) (c : ℕ) → KeepsOn site c (Performs site q done)
things_keep site q done c seen a s t k (x, calls, acts, p) = aside_keeps site c seen a (map at_handler calls) s t (record s { thing = x }) k refl p (calls_are_none c calls)

datagram_keeps : (site : Site) (c : ℕ) (from : Endpoint) (h : Heard) → c < 64 → KeepsOn site c (AnswersDatagram site from h)
datagram_keeps site c from ignored below seen a s t k p = aside_keeps site c seen a [] s t s k refl p no_more
datagram_keeps site c from (answered_at_once bytes) below seen a s t k p = does_keeps site c (act.Datagram from bytes ∷ []) (datagram_none c from bytes) seen a s t k p
datagram_keeps site c from (is_asked ask r) below seen a s t k (done, w) =
    keeps_then site c (Performs site ask.request done) (Then (AnswersAsk site from ask r done) (DeliversEach done.emissions)) (things_keep site ask.request done c)
    (keeps_then site c (AnswersAsk site from ask r done) (DeliversEach done.emissions) answer (deliveries_keep site c done.emissions below)) seen a s t k w
  where
    answer : KeepsOn site c (AnswersAsk site from ask r done)
    answer seen a s t k (bytes, w) =
        keeps_then site c (OnCoap (λ now. Answers r done.outcome (observed_target site s.thing ask) bytes)) (Does (act.Datagram from bytes ∷ []))
        (coap_keeps site c (λ now. Answers r done.outcome (observed_target site s.thing ask) bytes)) (does_keeps site c (act.Datagram from bytes ∷ []) (datagram_none c from bytes)) seen a s t k w

pub hears_keep : (site : Site) (c : ℕ) (from : Endpoint) (bytes : List ℕ) → c < 64 → KeepsOn site c (HearsDatagram site from bytes)
hears_keep site c from bytes below seen a s t k (inl p) = aside_keeps site c seen a [] s t s k refl p.1 no_more
hears_keep site c from bytes below seen a s t k (inr (under, (h, w))) =
    keeps_then site c (OnCoap (λ now. Hears from bytes now h)) (AnswersDatagram site from h) (coap_keeps site c (λ now. Hears from bytes now h)) (datagram_keeps site c from h below) seen a s t k w

pub polls_keep : (site : Site) (c : ℕ) (p : Placed) → c < 64 → KeepsOn site c (PollsAndDelivers p)
polls_keep site c p below seen a s t k (emissions, w) =
    keeps_then site c (OnThing (PollsEvent p emissions)) (DeliversEach emissions)
    (λ seen a s t k on. aside_keeps site c seen a (map at_handler on.1) s t (record s { thing = on.0 }) k refl on.3 (calls_are_none c on.1)) (deliveries_keep site c emissions below) seen a s t k w
