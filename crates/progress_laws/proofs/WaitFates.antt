-- The fate of one wait: it stays, or its connection is replied to, once.
use Rattle.std.proofs.Common.{◌≡◌, ◌++◌, ◌==◌, ◌-◌, ◌&&◌, ℕ, Bool, true, false, cond, List, [], ◌∷◌, map, nat_le, is_none, Option, Some, None, refl, sym, ap, ap₂, subst, ◌∙◌, arith, if◌then◌else◌}
use Rattle.std.proofs.lemmas.List.{append-nil}
use Rattle.std.proofs.lemmas.List.Folds.{find-append}
use Rattle.std.proofs.lemmas.Option.{same_Some}
use Rattle.std.specs.Option.{option_or}
use Rattle.servient_base.specs.Moves.{Becomes}
use Rattle.coap_bind.specs.declared.server.Server.{Server}
use Rattle.thing_handler.specs.Turns.{HandlerCall}
use Rattle.thing_state.specs.State.{State as ThingState, last_of}
use Rattle.thing_state.specs.Calls.{Move as ThingMove}
use Rattle.http_bind.specs.declared.owed.Owed.{Owed}
use Rattle.http_bind.specs.declared.waits.Wait.{Wait}
use Rattle.http_bind.specs.Replying.{reply}
use Rattle.http_bind.specs.Streams.{HttpReply, Connection, Streams, connection_at, with_connection, without_wait, is_waiting, is_idle, Wakes, woken_by, after_reply}
use Rattle.http_bind.proofs.WaitLists.{none_is_left}
use Rattle.servient_outside.specs.declared.net.Act.{Act}
use Rattle.servient_outside.specs.declared.net.Act.TheVariants as act
use Rattle.servient_outside.specs.Network.{heard, did, broke}
use Rattle.servient_trace.specs.Trace.{Sighting, at_network, at_handler}
use Rattle.servient_core.specs.Machine.{State, OnCoap, OnThing, Does, acts_of_reply, RepliesToWait, AnswersWait}
use Rattle.progress_laws.specs.Waits.{Delivery, is_delivery_of, first_of, is_act_on, acts_on}
use Rattle.progress_laws.proofs.WaitingStreams.{apart_of, same_of, turned, isnt_both, IsAmong, others_among, still_none, Oldest, oldest_is, Owes, here_is, there_is}
use Rattle.progress_laws.proofs.WaitMoves.{Base, base_wait}

-- ---- what is done to a connection

pub acts_then : (c : ℕ) (a b : List Sighting) → acts_on c (a ++ b) ≡ acts_on c a ++ acts_on c b
acts_then c [] b = refl
acts_then c (at_network (heard e) ∷ a) b = acts_then c a b
acts_then c (at_network (did x) ∷ a) b = by (is_act_on c x) (acts_then c a b)
  where
    by : (t : Bool) → acts_on c (a ++ b) ≡ acts_on c a ++ acts_on c b
        → (if t then x ∷ acts_on c (a ++ b) else acts_on c (a ++ b)) ≡ (if t then x ∷ acts_on c a else acts_on c a) ++ acts_on c b
    by true rest = ap (λ (l : List Act). x ∷ l) rest
    by false rest = rest
acts_then c (at_network (broke call) ∷ a) b = acts_then c a b
acts_then c (at_handler call ∷ a) b = acts_then c a b

pub calls_do_nothing : (c : ℕ) (calls : List HandlerCall) → acts_on c (map at_handler calls) ≡ []
calls_do_nothing c [] = refl
calls_do_nothing c (h ∷ calls) = calls_do_nothing c calls

abbrev pub acts_seen : List Act → List Sighting
acts_seen acts = map (λ x. at_network (did x)) acts

pub reply_here : (c d : ℕ) (r : HttpReply) → (c == d) ≡ true → acts_on c (acts_seen (acts_of_reply d r)) ≡ acts_of_reply d r
reply_here c d r test = by r.closes
  where
    by : (closes : Bool) → acts_on c (acts_seen (act.Sent d r.bytes ∷ (if closes then act.Closed d ∷ [] else []))) ≡ act.Sent d r.bytes ∷ (if closes then act.Closed d ∷ [] else [])
    by true =
        ap (λ (t : Bool). if t then act.Sent d r.bytes ∷ (if t then act.Closed d ∷ [] else []) else (if t then act.Closed d ∷ [] else [])) test
    by false = ap (λ (t : Bool). if t then act.Sent d r.bytes ∷ [] else []) test

pub reply_there : (c d : ℕ) (r : HttpReply) → (c == d) ≡ false → acts_on c (acts_seen (acts_of_reply d r)) ≡ []
reply_there c d r test = by r.closes
  where
    by : (closes : Bool) → acts_on c (acts_seen (act.Sent d r.bytes ∷ (if closes then act.Closed d ∷ [] else []))) ≡ []
    by true =
        ap (λ (t : Bool). if t then act.Sent d r.bytes ∷ (if t then act.Closed d ∷ [] else []) else (if t then act.Closed d ∷ [] else [])) test
    by false = ap (λ (t : Bool). if t then act.Sent d r.bytes ∷ [] else []) test

pub close_there : (c d : ℕ) → (c == d) ≡ false → acts_on c (acts_seen (act.Closed d ∷ [])) ≡ []
close_there c d test = ap (λ (t : Bool). if t then act.Closed d ∷ [] else []) test

pub close_here : (c : ℕ) → (c == c) ≡ true → acts_on c (acts_seen (act.Closed c ∷ [])) ≡ act.Closed c ∷ []
close_here c test = ap (λ (t : Bool). if t then act.Closed c ∷ [] else []) test

-- ---- the first delivery of a target

pub first_more : (target : ℕ) (ds es : List Delivery) (d : Delivery) → first_of target ds ≡ Some d → first_of target (ds ++ es) ≡ Some d
first_more target ds es d is = find-append (is_delivery_of target) ds es ∙ ap (λ (o : Option Delivery). option_or o (first_of target es)) is

pub first_last : (target : ℕ) (ds : List Delivery) (d : Delivery) → first_of target ds ≡ None → (d.target == target) ≡ true → first_of target (ds ++ d ∷ []) ≡ Some d
first_last target ds d none test =
    find-append (is_delivery_of target) ds (d ∷ []) ∙ ap (λ (o : Option Delivery). option_or o (first_of target (d ∷ []))) none ∙ ap (λ (t : Bool). cond t (Some d) None) test

pub none_last : (target : ℕ) (ds : List Delivery) (d : Delivery) → first_of target ds ≡ None → (d.target == target) ≡ false → first_of target (ds ++ d ∷ []) ≡ None
none_last target ds d none test =
    find-append (is_delivery_of target) ds (d ∷ []) ∙ ap (λ (o : Option Delivery). option_or o (first_of target (d ∷ []))) none ∙ ap (λ (t : Bool). cond t (Some d) None) test

-- ---- a connection that isn't idle

pub owing_is_awake : (c : ℕ) (o : Owed) (now : ℕ) (h : Streams) → Owes c o h → is_idle now (connection_at c h) ≡ false
owing_is_awake c o now h owes = ap (is_idle now) owes.is ∙ ap (λ (x : Option Owed). is_none x && nat_le 120000 (now - owes.connection.active)) owes.owed

too_soon : (now : ℕ) → nat_le 120000 (now - now) ≡ false
too_soon now = ap (nat_le 120000) (let e : now - now ≡ 0 = omega arith in e)

pub replied_is_awake : (closes : Bool) (now : ℕ) (x : Connection) → is_idle now (after_reply closes now x) ≡ false
replied_is_awake true now x = refl
replied_is_awake false now x = too_soon now

pub opened_is_awake : (now : ℕ) (x : Connection) → x.owed ≡ None → x.active ≡ now → is_idle now (Some x) ≡ false
opened_is_awake now x none is = ap₂ (λ (y : Option Owed) (n : ℕ). is_none y && nat_le 120000 (now - n)) none is ∙ too_soon now

-- ---- a move that leaves a connection alone

-- The connection of a wait is as it was, and so is its wait; nothing is done to it.
pub record Leaves (w : Wait) (s t : State) (a : List Sighting) : Type 0 where
  pub connection : connection_at w.connection t.http ≡ connection_at w.connection s.http
  pub still : IsAmong w s.http.waits → IsAmong w t.http.waits
  pub none : is_waiting w.connection s.http.waits ≡ false → is_waiting w.connection t.http.waits ≡ false
  pub acts : acts_on w.connection a ≡ []

pub leaves_then : (w : Wait) (s m t : State) (a b whole : List Sighting) → whole ≡ a ++ b → Leaves w s m a → Leaves w m t b → Leaves w s t whole
leaves_then w s m t a b whole is one other = record {
  connection = other.connection ∙ one.connection;
  still = λ there. other.still (one.still there);
  none = λ isnt. other.none (one.none isnt);
  acts = ap (acts_on w.connection) is ∙ acts_then w.connection a b ∙ ap₂ (λ (x y : List Act). x ++ y) one.acts other.acts;
}

-- the connections stay
pub leaves_same : (w : Wait) (s t u : State) (shown a : List Sighting) → u.http ≡ s.http → Becomes u shown a t → acts_on w.connection shown ≡ [] → Leaves w s t a
leaves_same w s t u shown a http p none =
    let same : t.http ≡ s.http = ap (λ (x : State). x.http) p.next ∙ http in record {
      connection = ap (connection_at w.connection) same;
      still = λ there. subst (λ (h : Streams). IsAmong w h.waits) (sym same) there;
      none = λ isnt. ap (λ (h : Streams). is_waiting w.connection h.waits) same ∙ isnt;
      acts = ap (acts_on w.connection) p.saw ∙ none;
    }

pub leaves_coap : (w : Wait) (C : ℕ → Server → Server → Type 0) (s t : State) (a : List Sighting) → OnCoap C s a t → Leaves w s t a
leaves_coap w C s t a (d, change, p) = leaves_same w s t (record s { coap = d }) [] a refl p refl

pub leaves_thing : (w : Wait) (M : ThingMove) (s t : State) (a : List Sighting) → OnThing M s a t → Leaves w s t a
leaves_thing w M s t a (x, calls, m, p) = leaves_same w s t (record s { thing = x }) (map at_handler calls) a refl p (calls_do_nothing w.connection calls)

pub leaves_does : (w : Wait) (acts : List Act) (s t : State) (a : List Sighting) → acts_on w.connection (acts_seen acts) ≡ [] → Does acts s a t → Leaves w s t a
leaves_does w acts s t a none p = leaves_same w s t s (acts_seen acts) a refl p none

-- another connection changes, and waits no longer
pub leaves_cut : (w : Wait) (d : ℕ) (y : Option Connection) (s t : State) (h : Streams) (a : List Sighting) → (d == w.connection) ≡ false → h ≡ with_connection d y (without_wait d s.http)
    → Becomes (record s { http = h }) [] a t → Leaves w s t a
leaves_cut w d y s t h a isnt is p =
    let same : t.http ≡ with_connection d y (without_wait d s.http) = ap (λ (x : State). x.http) p.next ∙ is in record {
      connection = ap (connection_at w.connection) same ∙ there_is w.connection d y s.http isnt;
      still = λ there. subst (λ (k : Streams). IsAmong w k.waits) (sym same) (others_among d w s.http.waits there isnt);
      none = λ none. ap (λ (k : Streams). is_waiting w.connection k.waits) same ∙ still_none w.connection d s.http.waits none;
      acts = ap (acts_on w.connection) p.saw;
    }

-- ---- what a wait comes to

-- it waits, and nothing was done to its connection
pub record Still (w : Wait) (o : Owed) (seen : List Sighting) (u : State) : Type 0 where
  pub there : IsAmong w u.http.waits
  pub owes : Owes w.connection o u.http
  pub acts : acts_on w.connection seen ≡ []

-- it waits no longer, these acts were done to its connection, and that isn't idle
pub record Cut (w : Wait) (now : ℕ) (acts : List Act) (seen : List Sighting) (u : State) : Type 0 where
  pub over : is_waiting w.connection u.http.waits ≡ false
  pub awake : is_idle now (connection_at w.connection u.http) ≡ false
  pub acts_are : acts_on w.connection seen ≡ acts

-- it was replied to
pub record IsTold (w : Wait) (o : Owed) (now : ℕ) (text : Option (List ℕ)) (seen : List Sighting) (u : State) : Type 0 where
  pub bytes : List ℕ
  pub replies : reply o.bodiless o.closes (woken_by text) ≡ Some bytes
  pub cut : Cut w now (acts_of_reply w.connection (record { bytes = bytes; closes = o.closes })) seen u

acts_more : (c : ℕ) (seen a : List Sighting) (acts : List Act) → acts_on c seen ≡ acts → acts_on c a ≡ [] → acts_on c (seen ++ a) ≡ acts
acts_more c seen a acts is none = acts_then c seen a ∙ ap₂ (λ (x y : List Act). x ++ y) is none ∙ append-nil acts

pub still_after : (w : Wait) (o : Owed) (seen a : List Sighting) (s t : State) → Leaves w s t a → Still w o seen s → Still w o (seen ++ a) t
still_after w o seen a s t leaves still = record {
  there = leaves.still still.there;
  owes = record { connection = still.owes.connection; is = leaves.connection ∙ still.owes.is; owed = still.owes.owed };
  acts = acts_more w.connection seen a [] still.acts leaves.acts;
}

pub cut_after : (w : Wait) (now : ℕ) (acts : List Act) (seen a : List Sighting) (s t : State) → Leaves w s t a → Cut w now acts seen s → Cut w now acts (seen ++ a) t
cut_after w now acts seen a s t leaves cut = record {
  over = leaves.none cut.over;
  awake = ap (is_idle now) leaves.connection ∙ cut.awake;
  acts_are = acts_more w.connection seen a acts cut.acts_are leaves.acts;
}

pub told_after : (w : Wait) (o : Owed) (now : ℕ) (text : Option (List ℕ)) (seen a : List Sighting) (s t : State) → Leaves w s t a → IsTold w o now text seen s → IsTold w o now text (seen ++ a) t
told_after w o now text seen a s t leaves told =
    record { bytes = told.bytes; replies = told.replies; cut = cut_after w now (acts_of_reply w.connection (record { bytes = told.bytes; closes = o.closes })) seen a s t leaves told.cut }

-- So far: it waits, and its target wasn't delivered among the first of these; or it was told at the first delivery among the
-- others.
pub data Fares (w : Wait) (o : Owed) (now : ℕ) (ds es : List Delivery) (seen : List Sighting) (u : State) : Type 0 where
  stays : first_of w.target ds ≡ None → Still w o seen u → Fares w o now ds es seen u
  is_told : (d : Delivery) → first_of w.target es ≡ Some d → IsTold w o now d.text seen u → Fares w o now ds es seen u

pub fares_after : (w : Wait) (o : Owed) (now : ℕ) (ds es : List Delivery) (seen a : List Sighting) (s t : State) → Leaves w s t a → Fares w o now ds es seen s → Fares w o now ds es (seen ++ a) t
fares_after w o now ds es seen a s t leaves (stays none still) = stays none (still_after w o seen a s t leaves still)
fares_after w o now ds es seen a s t leaves (is_told d first told) = is_told d first (told_after w o now d.text seen a s t leaves told)

pub fares_here : (w : Wait) (o : Owed) (now : ℕ) (ds es : List Delivery) (seen shown : List Sighting) (s t : State) → t ≡ s → shown ≡ seen → Fares w o now ds es seen s → Fares w o now ds es shown t
fares_here w o now ds es seen shown s t next saw f = subst (λ (x : List Sighting). Fares w o now ds es x t) (sym saw) (subst (λ (x : State). Fares w o now ds es seen x) (sym next) f)

-- ---- a request that waits is replied to

-- what is seen and what comes of it
pub record Told (d : ℕ) (text : Option (List ℕ)) (s t : State) (a : List Sighting) : Type 0 where
  pub told : HttpReply
  pub changed : Streams
  pub wakes : Wakes d text s.moment told.bytes told.closes s.http changed
  pub next : t ≡ record s { http = changed }
  pub saw : a ≡ acts_seen (acts_of_reply d told)

pub told_of : (d : ℕ) (text : Option (List ℕ)) (s t : State) (a : List Sighting) → RepliesToWait d text s a t → Told d text s t a
told_of d text s t a (r, w) = record {
  told = r;
  changed = w.one.0;
  wakes = w.one.1;
  next = w.other.next ∙ w.one.2.next;
  saw = w.whole ∙ ap₂ (λ (x y : List Sighting). x ++ y) w.one.2.saw w.other.saw;
}

-- another one is
pub told_leaves : (w : Wait) (d : ℕ) (text : Option (List ℕ)) (s t : State) (a : List Sighting) → (d == w.connection) ≡ false → Told d text s t a → Leaves w s t a
told_leaves w d text s t a isnt r =
    leaves_then w s (record s { http = r.changed }) t [] a a refl
    (leaves_cut w d (after_reply r.told.closes s.moment r.wakes.1.0) s (record s { http = r.changed }) r.changed [] isnt r.wakes.1.6 (record { next = refl; saw = refl }))
    (leaves_same w (record s { http = r.changed }) t (record s { http = r.changed }) (acts_seen (acts_of_reply d r.told)) a refl (record { next = r.next; saw = r.saw })
    (reply_there w.connection d r.told (turned d w.connection isnt)))

-- this one is
pub told_here : (w : Wait) (o : Owed) (now : ℕ) (text : Option (List ℕ)) (seen a : List Sighting) (s t : State) → s.moment ≡ now → Still w o seen s → Told w.connection text s t a
    → IsTold w o now text (seen ++ a) t
told_here w o now text seen a s t moment still r = record {
  bytes = r.told.bytes;
  replies = ap₂ (λ (b c : Bool). reply b c (woken_by text)) (ap (λ (x : Owed). x.bodiless) same) (ap (λ (x : Owed). x.closes) same ∙ sym closes_is) ∙ r.wakes.1.5;
  cut = record {
    over = ap (λ (h : Streams). is_waiting c h.waits) http ∙ none_is_left c s.http.waits;
    awake = ap (is_idle now) (ap (connection_at c) http ∙ here_is c x (after_reply r.told.closes s.moment x) (without_wait c s.http) r.wakes.1.2)
        ∙ subst (λ (n : ℕ). is_idle now (after_reply r.told.closes n x) ≡ false) (sym moment) (replied_is_awake r.told.closes now x);
    acts_are = acts_then c seen a ∙ ap₂ (λ (l m : List Act). l ++ m) still.acts (ap (acts_on c) r.saw ∙ reply_here c c r.told (self c))
        ∙ ap (λ (b : Bool). acts_of_reply c (record { bytes = r.told.bytes; closes = b })) (closes_is ∙ ap (λ (y : Owed). y.closes) (sym same));
  };
}
  where
    c : ℕ
    c = w.connection

    x : Connection
    x = r.wakes.1.0

    owed : Owed
    owed = r.wakes.1.1

    http : t.http ≡ with_connection w.connection (after_reply r.told.closes s.moment r.wakes.1.0) (without_wait w.connection s.http)
    http = ap (λ (y : State). y.http) r.next ∙ r.wakes.1.6

    closes_is : r.told.closes ≡ r.wakes.1.1.closes
    closes_is = r.wakes.1.4

    connection : still.owes.connection ≡ r.wakes.1.0
    connection = same_Some still.owes.connection r.wakes.1.0 (sym still.owes.is ∙ r.wakes.1.2)

    same : o ≡ r.wakes.1.1
    same = same_Some o r.wakes.1.1 (sym still.owes.owed ∙ ap (λ (y : Connection). y.owed) connection ∙ r.wakes.1.3)

    self : (n : ℕ) → (n == n) ≡ true
    self n = by (n == n) refl
      where
        by : (t : Bool) → (n == n) ≡ t → t ≡ true
        by true is = refl
        by false is = absurd (apart_of n n is refl)

-- ---- a target is delivered

-- while those that wait for it are replied to
pub record Amid (from : List Wait) (now : ℕ) (w : Wait) (o : Owed) (thing : ThingState) (ds es : List Delivery) (seen : List Sighting) (u : State) : Type 0 where
  pub base : Base from now u
  pub thing_is : u.thing ≡ thing
  pub fares : Fares w o now ds es seen u

pub amid_step : (from : List Wait) (now : ℕ) (w : Wait) (o : Owed) (thing : ThingState) (target : ℕ) (ds : List Delivery) (seen a : List Sighting) (s t : State)
    → Amid from now w o thing ds (ds ++ record { target = target; text = last_of target thing.last } ∷ []) seen s → AnswersWait target s a t
    → Amid from now w o thing ds (ds ++ record { target = target; text = last_of target thing.last } ∷ []) (seen ++ a) t
amid_step from now w o thing target ds seen a s t amid (d, found, move) = record {
  base = base_wait from now target s t a amid.base (d, found, move);
  thing_is = ap (λ (x : State). x.thing) r.next ∙ amid.thing_is;
  fares = by (d == w.connection) refl;
}
  where
    text : Option (List ℕ)
    text = last_of target s.thing.last

    r : Told d (last_of target s.thing.last) s t a
    r = told_of d (last_of target s.thing.last) s t a move

    one : Delivery
    one = record { target = target; text = last_of target thing.last }

    oldest : Oldest (λ (v : Wait). v.target == target) d s.http.waits
    oldest = oldest_is (λ v. v.target == target) d s.http.waits found

    here : d ≡ w.connection → Fares w o now ds (ds ++ record { target = target; text = last_of target thing.last } ∷ []) seen s
        → Fares w o now ds (ds ++ record { target = target; text = last_of target thing.last } ∷ []) (seen ++ a) t
    here same (is_told x first told) =
        absurd (isnt_both (is_waiting w.connection s.http.waits) (subst (λ (n : ℕ). is_waiting n s.http.waits ≡ true) same r.wakes.0) told.cut.over)
    here same (stays none still) =
        let is_it : oldest.wait ≡ w = amid.base.sound.apart oldest.wait w oldest.there still.there (oldest.connection ∙ same) in
        let test : (target == w.target) ≡ true = subst (λ (v : Wait). (target == v.target) ≡ true) is_it (turn oldest.wait.target target oldest.passes) in
        let told = told_here w o now (last_of target s.thing.last) seen a s t amid.base.moment still (subst (λ (n : ℕ). Told n (last_of target s.thing.last) s t a) same r) in
        is_told (record { target = target; text = last_of target thing.last }) (first_last w.target ds (record { target = target; text = last_of target thing.last }) none test)
        (subst (λ (x : ThingState). IsTold w o now (last_of target x.last) (seen ++ a) t) amid.thing_is told)
      where
        turn : (m n : ℕ) → (m == n) ≡ true → (n == m) ≡ true
        turn m n is = by (n == m) refl
          where
            by : (t : Bool) → (n == m) ≡ t → t ≡ true
            by true test = refl
            by false test = absurd (apart_of n m test (sym (same_of m n is)))

    by : (test : Bool) → (d == w.connection) ≡ test → Fares w o now ds (ds ++ record { target = target; text = last_of target thing.last } ∷ []) (seen ++ a) t
    by true test = here (same_of d w.connection test) amid.fares
    by false test =
        fares_after w o now ds (ds ++ record { target = target; text = last_of target thing.last } ∷ []) seen a s t (told_leaves w d (last_of target s.thing.last) s t a test r) amid.fares
