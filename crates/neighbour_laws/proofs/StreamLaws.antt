-- The connections of others, once one did something, targets had new values, and the moment made due what waited too long
-- or is idle.
use Rattle.std.proofs.Common.{◌≡◌, ◌∙◌, ◌<◌, ◌-◌, ℕ, zero, suc, Bool, true, false, not, cond, List, [], ◌∷◌, ◌++◌, filter, find, length, refl, sym, ap, subst, arith}
use Rattle.std.specs.Prelude.{Option, Some, None, ◌==◌, ◌&&◌, ◌||◌, ◌≢◌, nat_le, Contains, slice_index_or, option_map}
use Rattle.std.specs.List.{list_any, position}
use Rattle.std.proofs.lemmas.Bool.Decides.{nat_tests}
use Rattle.std.proofs.lemmas.Option.{same_Some}
use Rattle.std.proofs.lemmas.List.{get_or-set_other, get_or-set_same}
use Rattle.std.proofs.lemmas.List.Quantifiers.{position-Some}
use Rattle.coap_observe.proofs.Found.{found_filter}
use Rattle.thing_ops.specs.declared.outcome.Outcome.{Outcome}
use Rattle.http_bind.specs.declared.owed.Owed.{Owed}
use Rattle.http_bind.specs.declared.waits.Wait.{Wait}
use Rattle.http_bind.specs.Streams.{Connection, Streams, connection_at, with_connection, without_wait, is_wait_of, other_waits, oldest, is_late, is_idle, after_reply, Replies}
use Rattle.neighbour_laws.specs.Neighbours.{is_other, is_answered, waits_besides, waits_of, IsLeft, as_it_was, was_replied, was_closed, AreInOrder}
use Rattle.neighbour_laws.proofs.Lists.{never, not_false, found_is, filter_apart, filter_commutes}
use Rattle.neighbour_laws.proofs.ElsewhereLaws.{beside, twice}

-- ---- lists

found_there : {X : Type 0} (test : X → Bool) (xs : List X) (x : X) → find test xs ≡ Some x → Contains xs x
found_there test [] x found = absurd (let e : None ≡ Some x = found in cc)
found_there {X} test (y ∷ xs) x found = by (test y) found (λ is. found_there test xs x is)
  where
    by : (b : Bool) → cond b (Some y) (find test xs) ≡ Some x → (find test xs ≡ Some x → Contains xs x) → Contains (y ∷ xs) x
    by true is rest = (0, omega arith, same_Some y x is)
    by false is rest = let r = rest is in (suc r.0, omega (arith, r.1), r.2)

all_stay : {X : Type 0} (xs : List X) → filter (λ x. true) xs ≡ xs
all_stay [] = refl
all_stay {X} (x ∷ xs) = ap (λ (l : List X). x ∷ l) (all_stay xs)

filter_both : {X : Type 0} (p q : X → Bool) (xs : List X) → filter q (filter p xs) ≡ filter (λ x. p x && q x) xs
filter_both p q [] = refl
filter_both {X} p q (x ∷ xs) = by (p x) (filter_both p q xs)
  where
    by : (b : Bool) → filter q (filter p xs) ≡ filter (λ y. p y && q y) xs
        → filter q (cond b (x ∷ filter p xs) (filter p xs)) ≡ cond (b && q x) (x ∷ filter (λ y. p y && q y) xs) (filter (λ y. p y && q y) xs)
    by true rest = ap (λ (l : List X). cond (q x) (x ∷ l) l) rest
    by false rest = rest

none_both : {X : Type 0} (p : X → Bool) (xs : List X) → filter p (filter (λ x. not (p x)) xs) ≡ []
none_both p [] = refl
none_both {X} p (x ∷ xs) = by (p x) refl (none_both p xs)
  where
    by : (b : Bool) → p x ≡ b → filter p (filter (λ y. not (p y)) xs) ≡ [] → filter p (cond (not b) (x ∷ filter (λ y. not (p y)) xs) (filter (λ y. not (p y)) xs)) ≡ []
    by true t rest = rest
    by false t rest = ap (λ (d : Bool). cond d (x ∷ filter p (filter (λ y. not (p y)) xs)) (filter p (filter (λ y. not (p y)) xs))) t ∙ rest

-- a place that has something is one
is_place : {X : Type 0} (xs : List (Option X)) (c : ℕ) (x : X) → slice_index_or xs c None ≡ Some x → c < length xs
is_place [] c x there = absurd (let e : None ≡ Some x = there in cc)
is_place (o ∷ xs) zero x there = omega arith
is_place (o ∷ xs) (suc c) x there = let r = is_place xs c x there in omega (arith, r)

any_first : {X : Type 0} (f : X → Bool) (a b : List X) → list_any f a ≡ true → list_any f (a ++ b) ≡ true
any_first f [] b is = absurd (never false is refl)
any_first {X} f (x ∷ a) b is = by (f x) is (λ e. any_first f a b e)
  where
    by : (c : Bool) → (c || list_any f a) ≡ true → (list_any f a ≡ true → list_any f (a ++ b) ≡ true) → (c || list_any f (a ++ b)) ≡ true
    by true e rest = refl
    by false e rest = rest e

any_second : {X : Type 0} (f : X → Bool) (a b : List X) → list_any f b ≡ true → list_any f (a ++ b) ≡ true
any_second f [] b is = is
any_second {X} f (x ∷ a) b is = by (f x) (any_second f a b is)
  where
    by : (c : Bool) → list_any f (a ++ b) ≡ true → (c || list_any f (a ++ b)) ≡ true
    by true e = refl
    by false e = e

-- ---- two connections

differ : (c d : ℕ) → (c == d) ≡ false → c ≢ d
differ c d test = grind (arith, nat_tests)

itself : (c : ℕ) → (c == c) ≡ true
itself c = grind (arith, nat_tests)

same_number : (c d : ℕ) → (c == d) ≡ true → c ≡ d
same_number c d test = grind (arith, nat_tests)

other_wait : (c d e : ℕ) → (c == d) ≡ false → (c == e) ≡ true → not (d == e) ≡ true
other_wait c d e test is = let no : (d == e) ≡ false = grind (arith, nat_tests) in ap not no

-- the wait of the one where that of the other is taken away
waits_apart : (c d : ℕ) (waits : List Wait) → (c == d) ≡ false → waits_of c (other_waits d waits) ≡ waits_of c waits
waits_apart c d waits test = filter_apart (is_wait_of c) (λ w. not (is_wait_of d w)) (λ w is. other_wait c d w.connection test is) waits

connection_apart : (c d : ℕ) (x : Option Connection) (h : Streams) → (c == d) ≡ false → connection_at c (with_connection d x h) ≡ connection_at c h
connection_apart c d x h test = get_or-set_other h.places d c x None (differ c d test)

-- ---- what is left of one

left_weaker : (c now : ℕ) (p q : Wait → Bool) (h k : Streams) → ((w : Wait) → p w ≡ true → q w ≡ true) → IsLeft c now p h k → IsLeft c now q h k
left_weaker c now p q h k weaker (as_it_was a b) = as_it_was a b
left_weaker c now p q h k weaker (was_replied w x owed there due at owes after none) = was_replied w x owed there (weaker w due) at owes after none
left_weaker c now p q h k weaker (was_closed idle after none) = was_closed idle after none

-- one that was replied to now isn't idle, nor is one that is closed
busy_now : (now : ℕ) (closes : Bool) (x : Connection) → is_idle now (after_reply closes now x) ≡ false
busy_now now true x = refl
busy_now now false x = let no : nat_le 120000 (now - now) ≡ false = grind (arith, nat_tests) in no

nobody_waits : (w : Wait) (l : List Wait) → l ≡ [] → Contains l w → ⊥
nobody_waits w l none there = let t : Contains [] w = subst (λ (x : List Wait). Contains x w) none there in absurd (omega (arith, t.1))

left_then : (c now : ℕ) (p : Wait → Bool) (h m k : Streams) → IsLeft c now p h m → IsLeft c now p m k → IsLeft c now p h k
left_then c now p h m k (as_it_was a b) (as_it_was d e) = as_it_was (d ∙ a) (e ∙ b)
left_then c now p h m k (as_it_was a b) (was_replied w x owed there due at owes after none) =
    was_replied w x owed (subst (λ (l : List Wait). Contains l w) b there) due (sym a ∙ at) owes after none
left_then c now p h m k (as_it_was a b) (was_closed idle after none) = was_closed (ap (is_idle now) (sym a) ∙ idle) after none
left_then c now p h m k (was_replied w x owed there due at owes after none) (as_it_was d e) = was_replied w x owed there due at owes (d ∙ after) (e ∙ none)
left_then c now p h m k (was_replied w x owed there due at owes after none) (was_replied v y o again due' at' owes' after' none') = absurd (nobody_waits v (waits_of c m.waits) none again)
left_then c now p h m k (was_replied w x owed there due at owes after none) (was_closed idle after' none') =
    absurd (never (is_idle now (connection_at c m)) idle (ap (is_idle now) after ∙ busy_now now owed.closes x))
left_then c now p h m k (was_closed idle after none) (as_it_was d e) = was_closed idle (d ∙ after) (e ∙ none)
left_then c now p h m k (was_closed idle after none) (was_replied v y o again due' at' owes' after' none') = absurd (nobody_waits v (waits_of c m.waits) none again)
left_then c now p h m k (was_closed idle after none) (was_closed idle' after' none') = absurd (never (is_idle now (connection_at c m)) idle' (ap (is_idle now) after))

-- ---- what is left of all others

pub record Passed (d : Option ℕ) (now : ℕ) (targets : List ℕ) (h k : Streams) : Type 0 where
  pub order : AreInOrder (waits_besides d h.waits) (waits_besides d k.waits)
  pub left : (c : ℕ) → is_other d c ≡ true → IsLeft c now (is_answered now targets) h k

order_then : (a b c : List Wait) → AreInOrder a b → AreInOrder b c → AreInOrder a c
order_then a b c one two =
    ((λ n. one.0 n && two.0 n), two.1 ∙ (ap (filter (λ w. two.0 w.connection)) one.1 ∙ filter_both (λ w. one.0 w.connection) (λ w. two.0 w.connection) a))

pub order_same : (a b : List Wait) → b ≡ a → AreInOrder a b
order_same a b is = ((λ n. true), is ∙ sym (all_stay a))

-- more targets answer what some did
answered_more : (now : ℕ) (a b : List ℕ) (w : Wait) → (list_any (λ t. w.target == t) a ≡ true → list_any (λ t. w.target == t) b ≡ true) → is_answered now a w ≡ true → is_answered now b w ≡ true
answered_more now a b w more is = by (list_any (λ t. w.target == t) a) (is_late now w) refl is
  where
    by : (c d : Bool) → list_any (λ t. w.target == t) a ≡ c → (c || d) ≡ true → (list_any (λ t. w.target == t) b || d) ≡ true
    by true d at e = ap (λ (x : Bool). x || d) (more at)
    by false true at e = or_late (list_any (λ t. w.target == t) b)
      where
        or_late : (x : Bool) → (x || true) ≡ true
        or_late true = refl
        or_late false = refl
    by false false at e = absurd (never false e refl)

first_answered : (now : ℕ) (a b : List ℕ) (w : Wait) → is_answered now a w ≡ true → is_answered now (a ++ b) w ≡ true
first_answered now a b w is = answered_more now a (a ++ b) w (any_first (λ t. w.target == t) a b) is

second_answered : (now : ℕ) (a b : List ℕ) (w : Wait) → is_answered now b w ≡ true → is_answered now (a ++ b) w ≡ true
second_answered now a b w is = answered_more now b (a ++ b) w (any_second (λ t. w.target == t) a b) is

passed_weaker : (d : Option ℕ) (now : ℕ) (a b : List ℕ) (h k : Streams) → ((w : Wait) → is_answered now a w ≡ true → is_answered now b w ≡ true) → Passed d now a h k → Passed d now b h k
passed_weaker d now a b h k weaker one = record { order = one.order; left = λ c is. left_weaker c now (is_answered now a) (is_answered now b) h k weaker (one.left c is) }

pub passed_on : (d : Option ℕ) (now : ℕ) (a : List ℕ) (h m k : Streams) → Passed d now a h m → Passed d now a m k → Passed d now a h k
passed_on d now a h m k one two = record {
  order = order_then (waits_besides d h.waits) (waits_besides d m.waits) (waits_besides d k.waits) one.order two.order;
  left = λ c is. left_then c now (is_answered now a) h m k (one.left c is) (two.left c is);
}

pub passed_then : (d : Option ℕ) (now : ℕ) (a b : List ℕ) (h m k : Streams) → Passed d now a h m → Passed d now b m k → Passed d now (a ++ b) h k
passed_then d now a b h m k one two =
    passed_on d now (a ++ b) h m k (passed_weaker d now a (a ++ b) h m (λ w due. first_answered now a b w due) one) (passed_weaker d now b (a ++ b) m k (λ w due. second_answered now a b w due) two)

pub passed_same : (d : Option ℕ) (now : ℕ) (h k : Streams) → k ≡ h → Passed d now [] h k
passed_same d now h k is = record {
  order = order_same (waits_besides d h.waits) (waits_besides d k.waits) (ap (λ (x : Streams). waits_besides d x.waits) is);
  left = λ c o. as_it_was (ap (connection_at c) is) (ap (λ (x : Streams). waits_of c x.waits) is);
}

-- ---- the one whose event it is

isnt_own : (c d : ℕ) → is_other (Some d) c ≡ true → (c == d) ≡ false
isnt_own c d is = not_false (c == d) is

pub own_passed : (d now : ℕ) (x : Option Connection) (h k : Streams) → k ≡ with_connection d x (without_wait d h) → Passed (Some d) now [] h k
own_passed d now x h k is = record {
  order = order_same (other_waits d h.waits) (other_waits d k.waits) (ap (λ (y : Streams). other_waits d y.waits) is ∙ twice (λ w. not (is_wait_of d w)) h.waits);
  left = λ c o. as_it_was (ap (connection_at c) is ∙ connection_apart c d x (without_wait d h) (isnt_own c d o)) (ap (λ (y : Streams). waits_of c y.waits) is ∙ waits_apart c d h.waits (isnt_own c d o));
}

pub own_place : (d now : ℕ) (x : Option Connection) (h k : Streams) → k ≡ with_connection d x h → Passed (Some d) now [] h k
own_place d now x h k is = record {
  order = order_same (other_waits d h.waits) (other_waits d k.waits) (ap (λ (y : Streams). other_waits d y.waits) is);
  left = λ c o. as_it_was (ap (connection_at c) is ∙ connection_apart c d x h (isnt_own c d o)) (ap (λ (y : Streams). waits_of c y.waits) is);
}

pub own_wait : (d now : ℕ) (w : Wait) (h k : Streams) → w.connection ≡ d → k ≡ record h { waits = other_waits d h.waits ++ w ∷ [] } → Passed (Some d) now [] h k
own_wait d now w h k at is =
    let own : not (is_wait_of d w) ≡ false = ap (λ (n : ℕ). not (d == n)) at ∙ ap not (itself d) in
    record {
      order = order_same (other_waits d h.waits) (other_waits d k.waits)
          (ap (λ (y : Streams). other_waits d y.waits) is ∙ (beside (λ v. not (is_wait_of d v)) (other_waits d h.waits) w own ∙ twice (λ v. not (is_wait_of d v)) h.waits));
      left = λ c o. as_it_was (ap (connection_at c) is)
          (ap (λ (y : Streams). waits_of c y.waits) is ∙ (beside (is_wait_of c) (other_waits d h.waits) w (ap (λ (n : ℕ). c == n) at ∙ isnt_own c d o) ∙ waits_apart c d h.waits (isnt_own c d o)));
    }

-- ---- one that is replied to, or closed

besides_order : (d : Option ℕ) (c : ℕ) (waits new : List Wait) → new ≡ other_waits c waits → AreInOrder (waits_besides d waits) (waits_besides d new)
besides_order None c waits new is = ((λ n. not (c == n)), is)
besides_order (Some e) c waits new is = ((λ n. not (c == n)), ap (other_waits e) is ∙ filter_commutes (λ w. not (is_wait_of e w)) (λ w. not (is_wait_of c w)) waits)

reply_left : (e c now : ℕ) (answered : Wait → Bool) (w : Wait) (x : Connection) (owed : Owed) (h k : Streams) → Contains (waits_of c h.waits) w → answered w ≡ true → connection_at c h ≡ Some x → x.owed ≡ Some owed
    → k ≡ with_connection c (after_reply owed.closes now x) (without_wait c h) → IsLeft e now answered h k
reply_left e c now answered w x owed h k there due at owes is = by (e == c) refl
  where
    by : (b : Bool) → (e == c) ≡ b → IsLeft e now answered h k
    by true test =
        subst (λ (n : ℕ). IsLeft n now answered h k) (sym (same_number e c test))
        (was_replied w x owed there due at owes (ap (connection_at c) is ∙ get_or-set_same h.places c (after_reply owed.closes now x) None (is_place h.places c x at))
        (ap (λ (y : Streams). waits_of c y.waits) is ∙ none_both (is_wait_of c) h.waits))
    by false test = as_it_was (ap (connection_at e) is ∙ connection_apart e c (after_reply owed.closes now x) (without_wait c h) test) (ap (λ (y : Streams). waits_of e y.waits) is ∙ waits_apart e c h.waits test)

pub wakes_passed : (d : Option ℕ) (now : ℕ) (targets : List ℕ) (p : Wait → Bool) (c : ℕ) (o : Outcome) (bytes : List ℕ) (closes : Bool) (h k : Streams) → ((w : Wait) → p w ≡ true → is_answered now targets w ≡ true)
    → oldest p h.waits ≡ Some c → Replies c o now bytes closes h k → Passed d now targets h k
wakes_passed d now targets p c o bytes closes h k due is r = by (find p h.waits) refl is
  where
    after : k ≡ with_connection c (after_reply r.1.closes now r.0) (without_wait c h)
    after = r.6 ∙ ap (λ (b : Bool). with_connection c (after_reply b now r.0) (without_wait c h)) r.4

    by : (f : Option Wait) → find p h.waits ≡ f → option_map (λ w. w.connection) f ≡ Some c → Passed d now targets h k
    by None found e = absurd (let f : None ≡ Some c = e in cc)
    by (Some w) found e =
        let at : w.connection ≡ c = same_Some w.connection c e in
        let mine : is_wait_of c w ≡ true = ap (λ (n : ℕ). c == n) at ∙ itself c in
        record {
          order = besides_order d c h.waits k.waits (ap (λ (y : Streams). y.waits) after);
          left = λ e other. reply_left e c now (is_answered now targets) w r.0 r.1 h k (found_there p (waits_of c h.waits) w (found_filter p (is_wait_of c) h.waits w found mine))
              (due w (found_is p h.waits w found)) r.2 r.3 after;
        }

close_left : (e c now : ℕ) (answered : Wait → Bool) (h k : Streams) → c < length h.places → is_idle now (connection_at c h) ≡ true → k ≡ with_connection c None (without_wait c h) → IsLeft e now answered h k
close_left e c now answered h k below idle is = by (e == c) refl
  where
    by : (b : Bool) → (e == c) ≡ b → IsLeft e now answered h k
    by true test =
        subst (λ (n : ℕ). IsLeft n now answered h k) (sym (same_number e c test))
        (was_closed idle (ap (connection_at c) is ∙ get_or-set_same h.places c None None below) (ap (λ (y : Streams). waits_of c y.waits) is ∙ none_both (is_wait_of c) h.waits))
    by false test = as_it_was (ap (connection_at e) is ∙ connection_apart e c None (without_wait c h) test) (ap (λ (y : Streams). waits_of e y.waits) is ∙ waits_apart e c h.waits test)

pub closes_passed : (d : Option ℕ) (now c : ℕ) (h k : Streams) → position (is_idle now) h.places ≡ Some c → k ≡ with_connection c None (without_wait c h) → Passed d now [] h k
closes_passed d now c h k idle is =
    let at = position-Some (is_idle now) h.places c None idle in
    record { order = besides_order d c h.waits k.waits (ap (λ (y : Streams). y.waits) is); left = λ e other. close_left e c now (is_answered now []) h k at.0 at.1 is }
