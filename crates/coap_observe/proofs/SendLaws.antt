-- Sending, by the places of observers.
use Rattle.std.proofs.Common.{◌≡◌, ◌<◌, ℕ, Bool, true, false, cond, List, [], ◌∷◌, find, Some, None, option_and_then, inl, inr, ◌∙◌, sym, refl, ap, subst, arith}
use Rattle.std.specs.List.{list_any}
use Rattle.std.proofs.lemmas.Bool.{cases_Bool}
use Rattle.coap_observe.specs.declared.observer.Observer.{Observer}
use Rattle.coap_observe.specs.declared.notice.Notice.{Notice}
use Rattle.coap_observe.specs.Places.{Place, Places, observers_in, IsAt, with_change, FindsFirst, sent_once_more, IsSentOnceMore}
use Rattle.coap_observe.specs.Watched.{AreWatched}
use Rattle.coap_observe.specs.Watching.{next_sequence, is_due, is_sendable, is_given_up, given_up_endpoint, with_first, hopeless, nobody, Sends, same, newer, first, nothing, Notifies, IsNotification, resent, renewed, notified}
use Rattle.coap_observe.proofs.Counts.{found_passes}
use Rattle.coap_observe.proofs.Due.{not_given_up, due_was_sent}
use Rattle.coap_observe.proofs.ViewLaws.{none_found, changed_first, found_observer}

-- ---- the endpoint that is given up

pub hopeless_is : (now : ℕ) (t : Places) (slot : ℕ) (d : Observer) → FindsFirst (is_due now) t (Some slot) → ((q : Place) → IsAt slot q t → d ≡ q.observer)
    → given_up_endpoint d ≡ hopeless now (observers_in t)
hopeless_is now t slot d found reads =
    ap given_up_endpoint (reads found.0 found.1) ∙ sym (ap (option_and_then given_up_endpoint) (found_observer (is_due now) t found.0 found.2))

pub hopeless_none : (now : ℕ) (ws : List Observer) → list_any (is_due now) ws ≡ false → hopeless now ws ≡ None
hopeless_none now ws none = ap (option_and_then given_up_endpoint) (none_found (is_due now) ws none)

-- one slot has one place
one_place : (t : Places) (slot : ℕ) (p q : Place) → IsAt slot p t → IsAt slot q t → p ≡ q
one_place t slot p q at there = let lists : p ∷ [] ≡ q ∷ [] = sym at ∙ there in cc

pub served : (now : ℕ) (t : Places) (slot : ℕ) → FindsFirst (is_due now) t (Some slot) → hopeless now (observers_in t) ≡ None
    → (p : Place) → IsAt slot p t → is_given_up p.observer ≡ false
served now t slot found nobody_is p at =
    let it : found.0 ≡ p = one_place t slot found.0 p found.1 at in
    subst (λ (q : Place). is_given_up q.observer ≡ false) it
    (not_given_up now (observers_in t) found.0.observer (found_observer (is_due now) t found.0 found.2) nobody_is)

-- ---- messages that are sent again

first_agrees : (test : Observer → Bool) (f g : Observer → Observer) (ws : List Observer) (w : Observer) → find test ws ≡ Some w → f w ≡ g w → with_first test f ws ≡ with_first test g ws
first_agrees test f g [] w found e = refl
first_agrees test f g (v ∷ vs) w found e = at (test v) found (first_agrees test f g vs w)
  where
    at : (b : Bool) → cond b (Some v) (find test vs) ≡ Some w → (find test vs ≡ Some w → f w ≡ g w → with_first test f vs ≡ with_first test g vs)
        → cond b (f v ∷ vs) (v ∷ with_first test f vs) ≡ cond b (g v ∷ vs) (v ∷ with_first test g vs)
    at true found rec =
        let it : v ≡ w = cc in
        let made : f v ≡ g v = ap f it ∙ (e ∙ ap g (sym it)) in
        ap (λ z. z ∷ vs) made
    at false found rec = ap (λ l. v ∷ l) (rec found e)

once_more_is : (now id : ℕ) (w : Observer) (b : Bool) → w.is_marked ≡ b → sent_once_more now id w ≡ cond b (renewed now id w) (resent now w)
once_more_is now id w b e = ap (λ t. cond t (renewed now id w) (resent now w)) e

pub sends_again : (now id : ℕ) (t t2 : Places) (slot : ℕ) (n : Notice) → FindsFirst (is_due now) t (Some slot) → t2 ≡ with_change slot (sent_once_more now id) t
    → ((p : Place) → IsAt slot p t → IsSentOnceMore id p.observer n) → Sends now id (observers_in t) (Some n) (observers_in t2)
sends_again now id t t2 slot n found is noticed =
    let w : Observer = found.0.observer in
    let there : find (is_due now) (observers_in t) ≡ Some found.0.observer = found_observer (is_due now) t found.0 found.2 in
    let list : observers_in t2 ≡ with_first (is_due now) (sent_once_more now id) (observers_in t)
    = ap observers_in is ∙ changed_first (is_due now) (sent_once_more now id) t slot found.0 found.1 found.2 in
    let notice = noticed found.0 found.1 in
    elim (cases_Bool found.0.observer.is_marked) [
      | inl marked_one ↦
          newer found.0.observer n (observers_in t2) there marked_one (notice.newer marked_one)
          (list ∙ first_agrees (is_due now) (sent_once_more now id) (renewed now id) (observers_in t) found.0.observer there (once_more_is now id found.0.observer true marked_one))
      | inr plain ↦
          let sent = due_was_sent now found.0.observer.notification (found_passes (is_due now) (observers_in t) found.0.observer there) in
          same found.0.observer sent.0 n (observers_in t2) there plain sent.1 (notice.same plain sent.0 sent.1)
          (list ∙ first_agrees (is_due now) (sent_once_more now id) (resent now) (observers_in t) found.0.observer there (once_more_is now id found.0.observer false plain))
    ]

-- ---- messages that are sent for the first time

pub sends_first : (now id : ℕ) (t t2 : Places) (slot : ℕ) (n : Notice) → list_any (is_due now) (observers_in t) ≡ false → FindsFirst (is_sendable (observers_in t)) t (Some slot)
    → t2 ≡ with_change slot (notified now id) t → ((p : Place) → IsAt slot p t → IsNotification p.observer id (next_sequence p.observer.sequence) true n)
    → Sends now id (observers_in t) (Some n) (observers_in t2)
sends_first now id t t2 slot n none found is noticed =
    first found.0.observer n (observers_in t2) (none_found (is_due now) (observers_in t) none) (found_observer (is_sendable (observers_in t)) t found.0 found.2) (noticed found.0 found.1)
    (ap observers_in is ∙ changed_first (is_sendable (observers_in t)) (notified now id) t slot found.0 found.1 found.2)

pub sends_nothing : (now id : ℕ) (ws : List Observer) → list_any (is_due now) ws ≡ false → list_any (is_sendable ws) ws ≡ false → Sends now id ws None ws
sends_nothing now id ws none_due none_free =
    nothing ws (none_found (is_due now) ws none_due) (none_found (is_sendable ws) ws none_free) refl

-- ---- the whole call

-- before the moment nothing is to be sent
pub quiet : (now id moment : ℕ) (ws : List Observer) → AreWatched ws moment → now < moment → Notifies now id ws None ws
quiet now id moment ws w before = record {
  left = ws;
  gives_up = nobody ws ws (hopeless_none now ws (w.none_due now before)) refl;
  sends = sends_nothing now id ws (w.none_due now before) (w.none_free (omega arith));
}
