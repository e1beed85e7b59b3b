-- A message that is sent leaves less to be sent.
use Rattle.std.proofs.Common.{◌≡◌, ◌+◌, ◌<◌, ◌≤◌, ℕ, Bool, true, false, cond, List, [], ◌∷◌, refl, sym, ap, ◌∙◌, inl, inr, arith, subst}
use Rattle.std.specs.Prelude.{Some, find, filter, ◌&&◌}
use Rattle.std.proofs.lemmas.Option.{same_Some}
use Rattle.coap_observe.specs.declared.observer.Observer.{Observer}
use Rattle.std.proofs.lemmas.Bool.{cases_Bool}
use Rattle.coap_observe.specs.Places.{Place, Places, observers_in, IsAt, with_change, FindsFirst, sent_once_more}
use Rattle.coap_observe.specs.Watching.{is_due, is_sendable, with_first, resent, renewed, notified}
use Rattle.coap_observe.proofs.Counts.{found_passes}
use Rattle.coap_observe.proofs.ViewLaws.{changed_first, found_observer}
use Rattle.coap_observe.specs.Unsent.{unsent_to, unsent}

-- the first that passes a test is changed into one with less to be sent
pub first_less : (now : ℕ) (test : Observer → Bool) (change : Observer → Observer) (ws : List Observer) (w : Observer) → find test ws ≡ Some w
    → unsent_to now (change w) < unsent_to now w → unsent now (with_first test change ws) < unsent now ws
first_less now test change [] w is less = absurd cc
first_less now test change (x ∷ ws) w is less = by_test (test x) is (λ e. first_less now test change ws w e less)
  where
    by_test : (b : Bool) → cond b (Some x) (find test ws) ≡ Some w → (find test ws ≡ Some w → unsent now (with_first test change ws) < unsent now ws)
        → unsent now (cond b (change x ∷ ws) (x ∷ with_first test change ws)) < unsent now (x ∷ ws)
    by_test true e rest =
        let here : unsent_to now (change x) < unsent_to now x = subst (λ (y : Observer). unsent_to now (change y) < unsent_to now y) (sym (same_Some x w e)) less in
        omega (arith, here)
    by_test false e rest = omega (arith, rest e)

-- where observers are removed there is no more
pub some_less : (now : ℕ) (test : Observer → Bool) (ws : List Observer) → unsent now (filter test ws) ≤ unsent now ws
some_less now test [] = omega arith
some_less now test (x ∷ ws) = by_test (test x) (some_less now test ws)
  where
    by_test : (b : Bool) → unsent now (filter test ws) ≤ unsent now ws → unsent now (cond b (x ∷ filter test ws) (filter test ws)) ≤ unsent now (x ∷ ws)
    by_test true rest = omega (arith, rest)
    by_test false rest = omega (arith, rest)

-- ---- one that a message is sent to

-- it isn't due any more and has no new value, where it was due
no_longer_due : (now : ℕ) (w v : Observer) → is_due now w ≡ true → is_due now v ≡ false → v.is_marked ≡ false → unsent_to now v < unsent_to now w
no_longer_due now w v due waits none = subst (λ (b : Bool). unsent_to now v < cond b 1 0 + cond w.is_marked 1 0) (sym due)
    (subst (λ (b : Bool). cond b 1 0 + cond v.is_marked 1 0 < 1 + cond w.is_marked 1 0) (sym waits)
    (subst (λ (b : Bool). cond false 1 0 + cond b 1 0 < 1 + cond w.is_marked 1 0) (sym none) (omega arith)))

-- or had a new value
no_longer_marked : (now : ℕ) (w v : Observer) → w.is_marked ≡ true → is_due now v ≡ false → v.is_marked ≡ false → unsent_to now v < unsent_to now w
no_longer_marked now w v marked waits none = subst (λ (b : Bool). unsent_to now v < cond (is_due now w) 1 0 + cond b 1 0) (sym marked)
    (subst (λ (b : Bool). cond b 1 0 + cond v.is_marked 1 0 < cond (is_due now w) 1 0 + 1) (sym waits)
    (subst (λ (b : Bool). cond false 1 0 + cond b 1 0 < cond (is_due now w) 1 0 + 1) (sym none) (omega arith)))

-- a message that is sent once more has no new value
once_more_unmarked : (now id : ℕ) (w : Observer) → (sent_once_more now id w).is_marked ≡ false
once_more_unmarked now id w = elim (cases_Bool w.is_marked) [
  | inl marked_one ↦ ap (λ (b : Bool). (cond b (renewed now id w) (resent now w)).is_marked) marked_one
  | inr plain ↦ ap (λ (b : Bool). (cond b (renewed now id w) (resent now w)).is_marked) plain ∙ plain
]

has_value : (m b : Bool) → (m && b) ≡ true → m ≡ true
has_value true b e = refl
has_value false b e = e

-- ---- by the places of observers

pub again_less : (now id : ℕ) (t t2 : Places) (slot : ℕ) → FindsFirst (is_due now) t (Some slot) → t2 ≡ with_change slot (sent_once_more now id) t
    → ((p : Place) → IsAt slot p t → is_due now (sent_once_more now id p.observer) ≡ false) → unsent now (observers_in t2) < unsent now (observers_in t)
again_less now id t t2 slot found is waits =
    let there = found_observer (is_due now) t found.0 found.2 in
    subst (λ (ws : List Observer). unsent now ws < unsent now (observers_in t))
    (sym (ap observers_in is ∙ changed_first (is_due now) (sent_once_more now id) t slot found.0 found.1 found.2))
    (first_less now (is_due now) (sent_once_more now id) (observers_in t) found.0.observer there
    (no_longer_due now found.0.observer (sent_once_more now id found.0.observer) (found_passes (is_due now) (observers_in t) found.0.observer there)
    (waits found.0 found.1) (once_more_unmarked now id found.0.observer)))

pub first_sent_less : (now id : ℕ) (t t2 : Places) (slot : ℕ) → FindsFirst (is_sendable (observers_in t)) t (Some slot) → t2 ≡ with_change slot (notified now id) t
    → ((p : Place) → IsAt slot p t → is_due now (notified now id p.observer) ≡ false) → unsent now (observers_in t2) < unsent now (observers_in t)
first_sent_less now id t t2 slot found is waits =
    let free = is_sendable (observers_in t) in
    let there = found_observer free t found.0 found.2 in
    subst (λ (ws : List Observer). unsent now ws < unsent now (observers_in t))
    (sym (ap observers_in is ∙ changed_first free (notified now id) t slot found.0 found.1 found.2))
    (first_less now free (notified now id) (observers_in t) found.0.observer there
    (no_longer_marked now found.0.observer (notified now id found.0.observer) (has_value found.0.observer.is_marked _ (found_passes free (observers_in t) found.0.observer there))
    (waits found.0 found.1) refl))
