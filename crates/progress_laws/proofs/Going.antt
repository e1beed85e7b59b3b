-- A move is made again and again until nothing is left to do, where something falls each time; and what waits can be told.
use Rattle.std.proofs.Common.{◌≡◌, ◌<◌, ◌+◌, ◌⊎◌, ◌++◌, ◌==◌, ℕ, zero, suc, Bool, true, false, List, [], ◌∷◌, map, length, position, slice_index_or, slice_set, Option, Some, None, refl, subst, arith, inl, inr}
use Rattle.std.proofs.lemmas.List.Quantifiers.{position-Some}
use Rattle.servient_base.specs.Moves.{Then, Each, Until, is_done, goes_on}
use Rattle.http_bind.specs.declared.owed.Owed.{Owed}
use Rattle.http_bind.specs.declared.waits.Wait.{Wait}
use Rattle.http_bind.specs.Replying.{reply}
use Rattle.http_bind.specs.Streams.{HttpReply, Connection, Streams, connection_at, with_connection, without_wait, is_waiting, woken_by, after_reply, oldest_for, oldest_late, is_late, is_idle, NoneIdle}
use Rattle.http_bind.proofs.WaitLists.{fewer_others}
use Rattle.thing_state.specs.State.{Emission, last_of}
use Rattle.coap_bind.specs.Server.{with_emitted}
use Rattle.servient_outside.specs.declared.net.Act.TheVariants as act
use Rattle.servient_trace.specs.Trace.{Sighting}
use Rattle.servient_core.specs.Machine.{State, Move, acts_of_reply, RepliesToWait, AnswersWait, MarksObservers, Delivers, DeliversEach, AnswersLateWait, ClosesIdle}
use Rattle.progress_laws.proofs.WaitingStreams.{IsAmong, oldest_is, Owes, IsSound, cut_sound, is_waiting_of}
use Rattle.progress_laws.proofs.WaitFates.{acts_seen}

-- ---- moves

-- it is made, and what is good stays so
pub record Gets (P : Move) (Good : State → Type 0) (s : State) : Type 0 where
  pub seen : List Sighting
  pub after : State
  pub move : P s seen after
  pub good : Good after

pub gets_then : (P Q : Move) (Good Better : State → Type 0) (s : State) → Gets P Good s → ((m : State) → Good m → Gets Q Better m) → Gets (Then P Q) Better s
gets_then P Q Good Better s one other =
    let two = other one.after one.good in
    record { seen = one.seen ++ two.seen; after = two.after; move = record { mid = one.after; first = one.seen; second = two.seen; one = one.move; other = two.move; whole = refl }; good = two.good }

pub gets_each : {A : Type 0} (M : A → Move) (Good : State → Type 0) (xs : List A) → ((x : A) (s : State) → Good s → Gets (M x) Good s) → (s : State) → Good s → Gets (Each M xs) Good s
gets_each M Good [] each s good = record { seen = []; after = s; move = record { next = refl; saw = refl }; good = good }
gets_each M Good (x ∷ xs) each s good = gets_then (M x) (Each M xs) Good Good s (each x s good) (λ m better. gets_each M Good xs each m better)

-- it is made, and less is left
pub record Falls (P : Move) (Good : State → Type 0) (left : State → ℕ) (s : State) : Type 0 where
  pub gets : Gets P Good s
  pub less : left gets.after < left s

pub gets_until : (P : Move) (IsDone Good : State → Type 0) (left : State → ℕ) → ((s : State) → Good s → IsDone s ⊎ Falls P Good left s)
    → (n : ℕ) (s : State) → left s < n → Good s → Gets (Until P IsDone) (λ t. Good t × IsDone t) s
gets_until P IsDone Good left each zero s few good = absurd (omega (arith, few))
gets_until P IsDone Good left each (suc n) s few good = by (λ m less better. gets_until P IsDone Good left each n m (omega (arith, less, few)) better) (each s good)
  where
    by : ((m : State) → left m < left s → Good m → Gets (Until P IsDone) (λ t. Good t × IsDone t) m) → IsDone s ⊎ Falls P Good left s → Gets (Until P IsDone) (λ t. Good t × IsDone t) s
    by rest (inl done) = record { seen = []; after = s; move = is_done s [] s done (record { next = refl; saw = refl }); good = (good, done) }
    by rest (inr falls) =
        let one = falls.gets in
        let two = rest one.after falls.less one.good in
        record { seen = one.seen ++ two.seen; after = two.after; move = goes_on s one.after two.after (one.seen ++ two.seen) one.seen two.seen one.move two.move refl; good = two.good }

-- ---- what waits is told

-- the connections are sound
abbrev pub IsWell : State → Type 0
IsWell s = IsSound s.http

abbrev pub waits_left : State → ℕ
waits_left s = length s.http.waits

has_reply : (bodiless closes : Bool) (text : Option (List ℕ)) → (bytes : List ℕ) × (reply bodiless closes (woken_by text) ≡ Some bytes)
has_reply bodiless closes None = (_, refl)
has_reply bodiless closes (Some text) = (_, refl)

tells : (d : ℕ) (text : Option (List ℕ)) (v : Wait) (s : State) → IsWell s → IsAmong v s.http.waits → v.connection ≡ d → Falls (RepliesToWait d text) IsWell waits_left s
tells d text v s sound there same = record {
  gets = record {
    seen = acts_seen (acts_of_reply d told);
    after = record s { http = changed };
    move = (
      told,
      record {
        mid = record s { http = changed };
        first = [];
        second = acts_seen (acts_of_reply d told);
        one = (changed, (waiting, (o.1.connection, o.0, is_there, o.1.owed, refl, bytes.1, refl)), record { next = refl; saw = refl });
        other = record { next = refl; saw = refl };
        whole = refl;
      },
    );
    good = cut_sound d (after_reply o.0.closes s.moment o.1.connection) s.http changed refl sound;
  };
  less = fewer_others d s.http.waits waiting;
}
  where
    o : (o : Owed) × Owes v.connection o s.http
    o = sound.owed v there

    bytes : (bytes : List ℕ) × (reply (sound.owed v there).0.bodiless (sound.owed v there).0.closes (woken_by text) ≡ Some bytes)
    bytes = has_reply (sound.owed v there).0.bodiless (sound.owed v there).0.closes text

    told : HttpReply
    told = record { bytes = (has_reply (sound.owed v there).0.bodiless (sound.owed v there).0.closes text).0; closes = (sound.owed v there).0.closes }

    changed : Streams
    changed = with_connection d (after_reply (sound.owed v there).0.closes s.moment (sound.owed v there).1.connection) (without_wait d s.http)

    waiting : is_waiting d s.http.waits ≡ true
    waiting = subst (λ (c : ℕ). is_waiting c s.http.waits ≡ true) same (is_waiting_of v s.http.waits there)

    is_there : connection_at d s.http ≡ Some (sound.owed v there).1.connection
    is_there = subst (λ (c : ℕ). connection_at c s.http ≡ Some (sound.owed v there).1.connection) same (sound.owed v there).1.is

-- those of a target
tells_one : (target : ℕ) (s : State) → IsWell s → (oldest_for target s.http.waits ≡ None) ⊎ Falls (AnswersWait target) IsWell waits_left s
tells_one target s sound = by (oldest_for target s.http.waits) refl
  where
    by : (o : Option ℕ) → oldest_for target s.http.waits ≡ o → (oldest_for target s.http.waits ≡ None) ⊎ Falls (AnswersWait target) IsWell waits_left s
    by None none = inl none
    by (Some d) found =
        let v = oldest_is (λ w. w.target == target) d s.http.waits found in
        let told = tells d (last_of target s.thing.last) v.wait s sound v.there v.connection in
        inr (record { gets = record { seen = told.gets.seen; after = told.gets.after; move = (d, found, told.gets.move); good = told.gets.good }; less = told.less })

delivers : (target : ℕ) (s : State) → IsWell s → Gets (Delivers target) IsWell s
delivers target s sound =
    gets_then (Until (AnswersWait target) (λ state. oldest_for target state.http.waits ≡ None)) (MarksObservers target) (λ t. IsWell t × (oldest_for target t.http.waits ≡ None)) IsWell s
    (gets_until (AnswersWait target) (λ state. oldest_for target state.http.waits ≡ None) IsWell waits_left (tells_one target) (waits_left s + 1) s (omega arith) sound)
    (λ m good. record { seen = []; after = record m { coap = with_emitted target m.coap }; move = (with_emitted target m.coap, refl, record { next = refl; saw = refl }); good = good.0 })

pub delivers_all : (emissions : List Emission) (s : State) → IsWell s → Gets (DeliversEach emissions) IsWell s
delivers_all emissions s sound = gets_each Delivers IsWell (map (λ e. e.target) emissions) delivers s sound

-- those that are late
tells_late : (s : State) → IsWell s → (oldest_late s.moment s.http.waits ≡ None) ⊎ Falls AnswersLateWait IsWell waits_left s
tells_late s sound = by (oldest_late s.moment s.http.waits) refl
  where
    by : (o : Option ℕ) → oldest_late s.moment s.http.waits ≡ o → (oldest_late s.moment s.http.waits ≡ None) ⊎ Falls AnswersLateWait IsWell waits_left s
    by None none = inl none
    by (Some d) found =
        let v = oldest_is (is_late s.moment) d s.http.waits found in
        let told = tells d None v.wait s sound v.there v.connection in
        inr (record { gets = record { seen = told.gets.seen; after = told.gets.after; move = (d, found, told.gets.move); good = told.gets.good }; less = told.less })

pub tells_all_late : (s : State) → IsWell s → Gets (Until AnswersLateWait (λ state. oldest_late state.moment state.http.waits ≡ None)) (λ t. IsWell t × (oldest_late t.moment t.http.waits ≡ None)) s
tells_all_late s sound = gets_until AnswersLateWait (λ state. oldest_late state.moment state.http.waits ≡ None) IsWell waits_left tells_late (waits_left s + 1) s (omega arith) sound

-- ---- idle connections are closed

-- the number of connections that are open
abbrev open_in : List (Option Connection) → ℕ
open_in [] = 0
open_in (None ∷ ps) = open_in ps
open_in (Some x ∷ ps) = open_in ps + 1

closing_less : (c : ℕ) (ps : List (Option Connection)) (x : Connection) → slice_index_or ps c None ≡ Some x → open_in (slice_set ps c None) < open_in ps
closing_less zero [] x is = absurd (let e : None ≡ Some x = is in cc)
closing_less zero (None ∷ ps) x is = absurd (let e : None ≡ Some x = is in cc)
closing_less zero (Some y ∷ ps) x is = omega arith
closing_less (suc c) [] x is = absurd (let e : None ≡ Some x = is in cc)
closing_less (suc c) (None ∷ ps) x is = closing_less c ps x is
closing_less (suc c) (Some y ∷ ps) x is = let rest = closing_less c ps x is in omega (arith, rest)

abbrev open_left : State → ℕ
open_left s = open_in s.http.places

-- an idle connection is open
idle_is_open : (now : ℕ) (o : Option Connection) → is_idle now o ≡ true → (x : Connection) × (o ≡ Some x)
idle_is_open now None idle = absurd (let e : false ≡ true = idle in cc)
idle_is_open now (Some x) idle = (x, refl)

closes_one : (s : State) → IsWell s → NoneIdle s.moment s.http ⊎ Falls ClosesIdle IsWell open_left s
closes_one s sound = by (position (is_idle s.moment) s.http.places) refl
  where
    by : (o : Option ℕ) → position (is_idle s.moment) s.http.places ≡ o → NoneIdle s.moment s.http ⊎ Falls ClosesIdle IsWell open_left s
    by None none = inl none
    by (Some d) found =
        let x = idle_is_open s.moment (connection_at d s.http) (position-Some (is_idle s.moment) s.http.places d None found).1 in
        let changed : Streams = with_connection d None (without_wait d s.http) in
        inr (record {
          gets = record {
            seen = acts_seen (act.Closed d ∷ []);
            after = record s { http = with_connection d None (without_wait d s.http) };
            move = (
              d,
              record {
                mid = record s { http = with_connection d None (without_wait d s.http) };
                first = [];
                second = acts_seen (act.Closed d ∷ []);
                one = (with_connection d None (without_wait d s.http), (found, refl), record { next = refl; saw = refl });
                other = record { next = refl; saw = refl };
                whole = refl;
              },
            );
            good = cut_sound d None s.http (with_connection d None (without_wait d s.http)) refl sound;
          };
          less = closing_less d s.http.places x.0 x.1;
        })

pub closes_all : (s : State) → IsWell s → Gets (Until ClosesIdle (λ state. NoneIdle state.moment state.http)) (λ t. IsWell t × NoneIdle t.moment t.http) s
closes_all s sound = gets_until ClosesIdle (λ state. NoneIdle state.moment state.http) IsWell open_left closes_one (open_left s + 1) s (omega arith) sound
