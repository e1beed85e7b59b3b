-- The messages that were taken of each connection, where a move takes none.
use Rattle.std.proofs.Common.{◌≡◌, ◌<◌, ℕ, Bool, true, false, List, [], ◌∷◌, length, map, Option, Some, None, refl, sym, ap, subst, ◌∙◌, arith, inl, inr}
use Rattle.std.specs.Prelude.{◌==◌, ◌⊎◌}
use Rattle.std.proofs.lemmas.Bool.Decides.{nat_tests}
use Rattle.std.proofs.lemmas.List.{get_or-set_other, get_or-set_same, length-set}
use Rattle.std.proofs.lemmas.Option.{same_Some}
use Rattle.servient_base.specs.Moves.{Then, Each, Until, is_done, goes_on}
use Rattle.thing_ops.specs.declared.outcome.Outcome.{Outcome}
use Rattle.thing_state.specs.State.{Emission}
use Rattle.thing_core.specs.Thing.{Done}
use Rattle.coap_bind.specs.declared.server.Server.{Server}
use Rattle.coap_bind.specs.Server.{SendsNext, with_emitted}
use Rattle.http_bind.specs.Streams.{HttpReply, Connection, Streams, connection_at, with_connection, after_reply, Replies, Answers as AnswersRequest, lets_wait, sends_reply, Closes, NoneIdle, oldest_for, oldest_late}
use Rattle.servient_trace.specs.Trace.{Sighting}
use Rattle.servient_core.specs.Machine.{State, Move, OnCoap, SendsIfAny, RepliesToWait, AnswersWait, MarksObservers, Delivers, DeliversEach, AnswersMessage, SendsNotification, NothingIsDue, SendsNotifications, AnswersLateWait, ClosesIdle, EndsEvent}
use Rattle.servient_core.specs.Keeping.{AnswersWaits, ClosesAllIdle, AnswersLateWaits}

-- ---- what takes no message of any connection

-- the messages that were taken of each connection are as they were
abbrev pub TakesNothing : Streams → Streams → Type 0
TakesNothing h k = (c : ℕ) (y : Connection) → c < 64 → connection_at c k ≡ Some y → (x : Connection) × (connection_at c h ≡ Some x) × (y.taken ≡ x.taken)

nothing_self : (h : Streams) → TakesNothing h h
nothing_self h c y below is = (y, is, refl)

pub nothing_same : (h k : Streams) → k ≡ h → TakesNothing h k
nothing_same h k same = subst (λ (x : Streams). TakesNothing h x) (sym same) (nothing_self h)

pub nothing_then : (h k l : Streams) → TakesNothing h k → TakesNothing k l → TakesNothing h l
nothing_then h k l one other c z below is =
    let y = other c z below is in
    let x = one c y.0 below y.1 in
    (x.0, x.1, y.2 ∙ x.2)

test_of : (c d : ℕ) → (c == d) ≡ true → c ≡ d
test_of c d test = grind (arith, nat_tests)

apart_by : (c d : ℕ) → (c == d) ≡ false → c ≡ d → ⊥
apart_by c d test = grind (arith, nat_tests)

-- what is at a connection after the place of one changed
pub changed_at : (c d : ℕ) (x : Option Connection) (h : Streams) → c < 64 → length h.places ≡ 64 → ((c ≡ d) × (connection_at c (with_connection d x h) ≡ x)) ⊎ (((c == d) ≡ false) × (connection_at c (with_connection d x h) ≡ connection_at c h))
changed_at c d x h below places = by (c == d) refl
  where
    by : (t : Bool) → (c == d) ≡ t → ((c ≡ d) × (connection_at c (with_connection d x h) ≡ x)) ⊎ (((c == d) ≡ false) × (connection_at c (with_connection d x h) ≡ connection_at c h))
    by true test =
        let same : c ≡ d = test_of c d test in
        inl (same, subst (λ (n : ℕ). connection_at c (with_connection n x h) ≡ x) same (get_or-set_same h.places c x None (omega (arith, below, places))))
    by false test = inr (test, get_or-set_other h.places d c x None (apart_by c d test))

-- one place changes to a connection with the same messages taken, or to none
pub nothing_at : (d : ℕ) (x : Option Connection) (h k : Streams) → length h.places ≡ 64 → k.places ≡ (with_connection d x h).places
    → ((y : Connection) → x ≡ Some y → (z : Connection) × (connection_at d h ≡ Some z) × (y.taken ≡ z.taken)) → TakesNothing h k
nothing_at d x h k places after kept c y below is = by (changed_at c d x h below places)
  where
    is_there : connection_at c (with_connection d x h) ≡ Some y
    is_there = ap (λ (l : List (Option Connection)). connection_at c (record { places = l; waits = h.waits })) (sym after) ∙ is

    by : ((c ≡ d) × (connection_at c (with_connection d x h) ≡ x)) ⊎ (((c == d) ≡ false) × (connection_at c (with_connection d x h) ≡ connection_at c h))
        → (z : Connection) × (connection_at c h ≡ Some z) × (y.taken ≡ z.taken)
    by (inl (same, at)) =
        let z = kept y (sym at ∙ is_there) in
        (z.0, ap (λ (n : ℕ). connection_at n h) same ∙ z.1, z.2)
    by (inr (other, at)) = (y, sym at ∙ is_there, refl)

none_kept : (d : ℕ) (h : Streams) (y : Connection) → None ≡ Some y → (z : Connection) × (connection_at d h ≡ Some z) × (y.taken ≡ z.taken)
none_kept d h y is = absurd (let e : None ≡ Some y = is in cc)

pub closed_nothing : (d : ℕ) (h k : Streams) → length h.places ≡ 64 → Closes d h k → TakesNothing h k
closed_nothing d h k places after = nothing_at d None h k places (ap (λ (x : Streams). x.places) after) (none_kept d h)

replies_nothing : (d : ℕ) (o : Outcome) (now : ℕ) (bytes : List ℕ) (closes : Bool) (h k : Streams) → length h.places ≡ 64 → Replies d o now bytes closes h k → TakesNothing h k
replies_nothing d o now bytes closes h k places (x, owed, there, is_owed, shuts, says, after) =
    nothing_at d (after_reply closes now x) h k places (ap (λ (s : Streams). s.places) after) (by closes)
  where
    by : (closes : Bool) (y : Connection) → after_reply closes now x ≡ Some y → (z : Connection) × (connection_at d h ≡ Some z) × (y.taken ≡ z.taken)
    by true y is = none_kept d h y is
    by false y is = (x, there, sym (ap (λ (c : Connection). c.taken) (same_Some (record x { owed = None; active = now }) y is)))

answers_nothing : (d : ℕ) (o : Outcome) (r : Option HttpReply) (now : ℕ) (h k : Streams) → length h.places ≡ 64 → AnswersRequest d o now r h k → TakesNothing h k
answers_nothing d o r now h k places (lets_wait target is (x, owed, there, is_owed, after) none) = λ c y below at. (y, ap (connection_at c) (sym after) ∙ at, refl)
answers_nothing d o r now h k places (sends_reply bytes closes none replies is) = replies_nothing d o now bytes closes h k places replies

-- the number of places stays
abbrev KeepsPlaces : Streams → Streams → Type 0
KeepsPlaces h k = length h.places ≡ 64 → length k.places ≡ 64

replies_places : (d : ℕ) (o : Outcome) (now : ℕ) (bytes : List ℕ) (closes : Bool) (h k : Streams) → Replies d o now bytes closes h k → KeepsPlaces h k
replies_places d o now bytes closes h k r places = ap (λ (s : Streams). length s.places) r.6 ∙ length-set h.places d (after_reply closes now r.0) ∙ places

-- both, of a move
pub record Settled (h k : Streams) : Type 0 where
  pub nothing : TakesNothing h k
  pub places : length k.places ≡ 64

abbrev pub Settles64 : Move → Type 0
Settles64 P = (s t : State) (a : List Sighting) → length s.http.places ≡ 64 → P s a t → Settled s.http t.http

pub settled_same : (h k : Streams) → length h.places ≡ 64 → k ≡ h → Settled h k
settled_same h k places same = record { nothing = nothing_same h k same; places = ap (λ (x : Streams). length x.places) same ∙ places }

pub settled_then : (h k l : Streams) → Settled h k → Settled k l → Settled h l
settled_then h k l one other = record { nothing = nothing_then h k l one.nothing other.nothing; places = other.places }

pub then_settles : (P Q : Move) → Settles64 P → Settles64 Q → Settles64 (Then P Q)
then_settles P Q one other s t a places w =
    let first = one s w.mid w.first places w.one in
    settled_then s.http w.mid.http t.http first (other w.mid t w.second first.places w.other)

each_settles : {A : Type 0} (M : A → Move) (xs : List A) → ((x : A) → Settles64 (M x)) → Settles64 (Each M xs)
each_settles M [] each s t a places stays = settled_same s.http t.http places (ap (λ (x : State). x.http) stays.next)
each_settles M (x ∷ xs) each s t a places w = then_settles (M x) (Each M xs) (each x) (each_settles M xs each) s t a places w

until_settles : (P : Move) (IsDone : State → Type 0) → Settles64 P → Settles64 (Until P IsDone)
until_settles P IsDone each s t a places (is_done s' a' t' done stays) = settled_same s.http t.http places (ap (λ (x : State). x.http) stays.next)
until_settles P IsDone each s t a places (goes_on s' m t' a' first second one more whole) =
    let f = each s m first places one in
    settled_then s.http m.http t.http f (until_settles P IsDone each m t second f.places more)

coap_settles : (C : ℕ → Server → Server → Type 0) → Settles64 (OnCoap C)
coap_settles C s t a places (d, change, p) = settled_same s.http t.http places (ap (λ (x : State). x.http) p.next)

wakes_settle : (d : ℕ) (text : Option (List ℕ)) → Settles64 (RepliesToWait d text)
wakes_settle d text s t a places (r, w) =
    let http_is : t.http ≡ w.one.0 = ap (λ (x : State). x.http) (w.other.next ∙ w.one.2.next) in
    subst (λ (k : Streams). Settled s.http k) (sym http_is) (record {
      nothing = replies_nothing d _ s.moment r.bytes r.closes s.http w.one.0 places w.one.1.1;
      places = replies_places d _ s.moment r.bytes r.closes s.http w.one.0 w.one.1.1 places;
    })

delivers_settle : (target : ℕ) → Settles64 (Delivers target)
delivers_settle target =
    then_settles (AnswersWaits target) (MarksObservers target)
    (until_settles (AnswersWait target) (λ s. oldest_for target s.http.waits ≡ None) (λ s t a places w. wakes_settle w.0 _ s t a places w.2))
    (λ s t a places p. coap_settles (λ now before after. after ≡ with_emitted target before) s t a places p)

pub deliveries_settle : (emissions : List Emission) → Settles64 (DeliversEach emissions)
deliveries_settle emissions = each_settles Delivers (map (λ e. e.target) emissions) delivers_settle

pub ends_settle : Settles64 EndsEvent
ends_settle =
    then_settles SendsNotifications (Then AnswersLateWaits ClosesAllIdle)
    (then_settles (Until SendsNotification NothingIsDue) (OnCoap (λ now. SendsNext now None))
    (until_settles SendsNotification NothingIsDue (λ s t a places w. settled_same s.http t.http places (ap (λ (x : State). x.http) (w.1.other.next ∙ w.1.one.2.next))))
    (λ s t a places p. coap_settles (λ now. SendsNext now None) s t a places p))
    (then_settles AnswersLateWaits ClosesAllIdle
    (until_settles AnswersLateWait (λ s. oldest_late s.moment s.http.waits ≡ None) (λ s t a places w. wakes_settle w.0 None s t a places w.2))
    (until_settles ClosesIdle (λ s. NoneIdle s.moment s.http) closes))
  where
    closes : Settles64 ClosesIdle
    closes s t a places (d, w) =
        let http_is : t.http ≡ w.one.0 = ap (λ (x : State). x.http) (w.other.next ∙ w.one.2.next) in
        subst (λ (k : Streams). Settled s.http k) (sym http_is) (record {
          nothing = closed_nothing d s.http w.one.0 places w.one.1.1;
          places = ap (λ (k : Streams). length k.places) w.one.1.1 ∙ length-set s.http.places d None ∙ places;
        })

pub message_settles : (d : ℕ) (done : Done) → Settles64 (AnswersMessage d done)
message_settles d done s t a places (r, w) = by r w.one.1 w.other
  where
    by : (r : Option HttpReply) → AnswersRequest d done.outcome s.moment r s.http w.one.0 → SendsIfAny d r w.mid w.second t → Settled s.http t.http
    by r answers sends = subst (λ (k : Streams). Settled s.http k) (sym (http_is r sends)) (record { nothing = answers_nothing d done.outcome r s.moment s.http w.one.0 places answers; places = places_of r answers })
      where
        places_of : (r : Option HttpReply) → AnswersRequest d done.outcome s.moment r s.http w.one.0 → length w.one.0.places ≡ 64
        places_of r (lets_wait target is (x, owed, there, is_owed, after) none) = ap (λ (k : Streams). length k.places) after ∙ places
        places_of r (sends_reply bytes closes none replies is) = replies_places d done.outcome s.moment bytes closes s.http w.one.0 replies places

        http_is : (r : Option HttpReply) → SendsIfAny d r w.mid w.second t → t.http ≡ w.one.0
        http_is None stays = ap (λ (x : State). x.http) (stays.next ∙ w.one.2.next)
        http_is (Some reply) does = ap (λ (x : State). x.http) (does.next ∙ w.one.2.next)
