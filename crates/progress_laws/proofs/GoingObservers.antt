-- The notification to be sent can be said of any observers, and after finitely many none is due: of each observer counts
-- whether it has a new value, and how often its last message may be sent again.
use Rattle.std.proofs.Common.{◌≡◌, ◌<◌, ◌≤◌, ◌+◌, ◌-◌, ◌&&◌, ℕ, zero, suc, Bool, true, false, cond, not, List, [], ◌∷◌, length, filter, find, Option, Some, None, option_map, if◌then◌else◌, refl, sym, ap, subst, arith}
use Rattle.std.proofs.lemmas.Bool.Decides.{nat_tests}
use Rattle.std.proofs.lemmas.List.{take_all}
use Rattle.std.proofs.lemmas.Option.{same_Some}
use Rattle.coap_msg.specs.declared.endpoint.Endpoint.{Endpoint}
use Rattle.coap_observe.specs.declared.observer.Observer.{Observer}
use Rattle.coap_observe.specs.declared.notice.Notice.{Notice}
use Rattle.coap_observe.specs.Sending.{Sent, sent_again, is_exhausted}
use Rattle.coap_observe.specs.Watching.{is_from, is_due, is_spent, is_sendable, resent, renewed, notified, with_first, without, IsNotification, hopeless, next_sequence, GivesUp, nobody, endpoint, Sends, same, newer, first, nothing, Notifies}
use Rattle.coap_observe.proofs.Due.{hopeless_by, not_given_up, due_was_sent}
use Rattle.coap_observe.proofs.Counts.{found_passes}

-- ---- what is left

-- the number of times for which a message may be sent again, and one more
abbrev times_left : Option Sent → ℕ
times_left None = 0
times_left (Some n) = 5 - n.retransmissions

abbrev left_to : Observer → ℕ
left_to w = (if w.is_marked then 6 else 0) + times_left w.notification

abbrev pub left_of : List Observer → ℕ
left_of [] = 0
left_of (w ∷ ws) = left_to w + left_of ws

first_less : (test : Observer → Bool) (change : Observer → Observer) (ws : List Observer) (w : Observer) → find test ws ≡ Some w → left_to (change w) < left_to w → left_of (with_first test change ws) < left_of ws
first_less test change [] w is less = absurd (let e : None ≡ Some w = is in cc)
first_less test change (x ∷ ws) w is less = by (test x) is (λ e. first_less test change ws w e less)
  where
    by : (b : Bool) → cond b (Some x) (find test ws) ≡ Some w → (find test ws ≡ Some w → left_of (with_first test change ws) < left_of ws)
        → left_of (cond b (change x ∷ ws) (x ∷ with_first test change ws)) < left_of (x ∷ ws)
    by true e rest =
        let here : left_to (change x) < left_to x = subst (λ (y : Observer). left_to (change y) < left_to y) (sym (same_Some x w e)) less in
        omega (arith, here)
    by false e rest = let more = rest e in omega (arith, more)

fewer : (test : Observer → Bool) (ws : List Observer) → (length (filter test ws) ≤ length ws) × (left_of (filter test ws) ≤ left_of ws)
fewer test [] = (omega arith, omega arith)
fewer test (x ∷ ws) = by (test x) (fewer test ws)
  where
    by : (b : Bool) → (length (filter test ws) ≤ length ws) × (left_of (filter test ws) ≤ left_of ws)
        → (length (cond b (x ∷ filter test ws) (filter test ws)) ≤ length (x ∷ ws)) × (left_of (cond b (x ∷ filter test ws) (filter test ws)) ≤ left_of (x ∷ ws))
    by true (one, other) = (omega (arith, one), omega (arith, other))
    by false (one, other) = (omega (arith, one), omega (arith, other))

-- one that is found is gone without those that pass another test which it passes
gone : (test other : Observer → Bool) (ws : List Observer) (w : Observer) → find test ws ≡ Some w → other w ≡ true → length (without other ws) < length ws
gone test other [] w is passes = absurd (let e : None ≡ Some w = is in cc)
gone test other (x ∷ ws) w is passes = by (test x) (other x) refl is (λ e. gone test other ws w e passes) (fewer (λ y. not (other y)) ws).0
  where
    by : (b t : Bool) → other x ≡ t → cond b (Some x) (find test ws) ≡ Some w → (find test ws ≡ Some w → length (without other ws) < length ws) → length (without other ws) ≤ length ws
        → length (cond (not t) (x ∷ without other ws) (without other ws)) < length (x ∷ ws)
    by b true is_other e rest few = omega (arith, few)
    by true false is_other e rest few = absurd (let there : other x ≡ true = subst (λ (y : Observer). other y ≡ true) (sym (same_Some x w e)) passes in cc)
    by false false is_other e rest few = let more = rest e in omega (arith, more)

-- ---- endpoints are given up

record GivenUp (now : ℕ) (ws : List Observer) : Type 0 where
  rest : List Observer
  gives_up : GivesUp now ws rest
  none : hopeless now rest ≡ None
  few : left_of rest ≤ left_of ws

gives_up_all : (now n : ℕ) (ws : List Observer) → length ws < n → GivenUp now ws
gives_up_all now zero ws few = absurd (omega (arith, few))
gives_up_all now (suc n) ws few = by (hopeless now ws) refl (λ us less. gives_up_all now n us (omega (arith, less, few)))
  where
    by : (o : Option Endpoint) → hopeless now ws ≡ o → ((us : List Observer) → length us < length ws → GivenUp now us) → GivenUp now ws
    by None none more = record { rest = ws; gives_up = nobody ws ws none refl; none = none; few = omega arith }
    by (Some from) found more =
        let w = hopeless_by now ws from found in
        let rest = more (without (is_from from) ws) (gone (is_due now) (is_from from) ws w.0 w.1 w.2) in
        let less = (fewer (λ y. not (is_from from y)) ws).1 in
        record { rest = rest.rest; gives_up = endpoint from ws rest.rest found rest.gives_up; none = rest.none; few = omega (arith, less, rest.few) }

-- ---- one message is sent

abbrev notice_to : Observer → ℕ → ℕ → Bool → Notice
notice_to w id sequence fresh = record { to = w.from; token = w.token; token_length = length w.token; target = w.target; id = id; sequence = sequence; fresh = fresh }

is_notice : (w : Observer) (id sequence : ℕ) (fresh : Bool) → IsNotification w id sequence fresh (notice_to w id sequence fresh)
is_notice w id sequence fresh = record { to = refl; token = take_all (length w.token) w.token (omega arith); token_length = refl; target = refl; id_is = refl; sequence_is = refl; fresh_is = refl }

-- a message is sent and less is left, or none is
pub data Next (now id : ℕ) (ws : List Observer) : Type 0 where
  sends_none : (us : List Observer) → Notifies now id ws None us → Next now id ws
  sends_one : (n : Notice) (us : List Observer) → Notifies now id ws (Some n) us → left_of us < left_of ws → Next now id ws

few_times : (n : Sent) → is_exhausted n ≡ false → n.retransmissions < 4
few_times n isnt = grind (arith, nat_tests)

again_less : (now : ℕ) (w : Observer) (n : Sent) → w.notification ≡ Some n → n.retransmissions < 4 → left_to (resent now w) < left_to w
again_less now w n is few =
    subst (λ (o : Option Sent). left_to (record w { notification = o }) < left_to w) (sym (ap (λ (o : Option Sent). option_map (λ m. sent_again now m.id m) o) is))
    (subst (λ (o : Option Sent). (if w.is_marked then 6 else 0) + (5 - (n.retransmissions + 1)) < (if w.is_marked then 6 else 0) + times_left o) (sym is) (omega (arith, few)))

renewed_less : (now id : ℕ) (w : Observer) (n : Sent) → w.is_marked ≡ true → w.notification ≡ Some n → left_to (renewed now id w) < left_to w
renewed_less now id w n marked is =
    subst (λ (b : Bool). left_to (renewed now id w) < (if b then 6 else 0) + times_left w.notification) (sym marked)
    (subst (λ (o : Option Sent). 0 + times_left (option_map (sent_again now id) o) < 6 + times_left o) (sym is) (omega arith))

notified_less : (now id : ℕ) (w : Observer) → w.is_marked ≡ true → left_to (notified now id w) < left_to w
notified_less now id w marked = subst (λ (b : Bool). 0 + 5 < (if b then 6 else 0) + times_left w.notification) (sym marked) (omega arith)

is_marked_of : (m b : Bool) → (m && b) ≡ true → m ≡ true
is_marked_of true b e = refl
is_marked_of false b e = e

pub sends_next : (now id : ℕ) (ws : List Observer) → Next now id ws
sends_next now id ws = by (find (is_due now) up.rest) refl
  where
    up : GivenUp now ws
    up = gives_up_all now (length ws + 1) ws (omega arith)

    one : (n : Notice) (us : List Observer) → Sends now id up.rest (Some n) us → left_of us < left_of up.rest → Next now id ws
    one n us sends less = sends_one n us (record { left = up.rest; gives_up = up.gives_up; sends = sends }) (omega (arith, less, up.few))

    due_one : (w : Observer) → find (is_due now) up.rest ≡ Some w → (s : Sent) → w.notification ≡ Some s → (marked : Bool) → w.is_marked ≡ marked → Next now id ws
    due_one w found s was true marked =
        one (notice_to w id (next_sequence w.sequence) true) (with_first (is_due now) (renewed now id) up.rest)
        (newer w (notice_to w id (next_sequence w.sequence) true) (with_first (is_due now) (renewed now id) up.rest) found marked (is_notice w id (next_sequence w.sequence) true) refl)
        (first_less (is_due now) (renewed now id) up.rest w found (renewed_less now id w s marked was))
    due_one w found s was false marked =
        let isnt : is_spent w.notification ≡ false = not_given_up now up.rest w found up.none in
        one (notice_to w s.id w.sequence false) (with_first (is_due now) (resent now) up.rest)
        (same w s (notice_to w s.id w.sequence false) (with_first (is_due now) (resent now) up.rest) found marked was (is_notice w s.id w.sequence false) refl)
        (first_less (is_due now) (resent now) up.rest w found (again_less now w s was (few_times s (subst (λ (o : Option Sent). is_spent o ≡ false) was isnt))))

    by_new : find (is_due now) up.rest ≡ None → (o : Option Observer) → find (is_sendable up.rest) up.rest ≡ o → Next now id ws
    by_new none None nobody_else = sends_none up.rest (record { left = up.rest; gives_up = up.gives_up; sends = nothing up.rest none nobody_else refl })
    by_new none (Some w) found =
        one (notice_to w id (next_sequence w.sequence) true) (with_first (is_sendable up.rest) (notified now id) up.rest)
        (first w (notice_to w id (next_sequence w.sequence) true) (with_first (is_sendable up.rest) (notified now id) up.rest) none found (is_notice w id (next_sequence w.sequence) true) refl)
        (first_less (is_sendable up.rest) (notified now id) up.rest w found (notified_less now id w (is_marked_of w.is_marked _ (found_passes (is_sendable up.rest) up.rest w found))))

    by : (o : Option Observer) → find (is_due now) up.rest ≡ o → Next now id ws
    by None none = by_new none (find (is_sendable up.rest) up.rest) refl
    by (Some w) found =
        let s = due_was_sent now w.notification (found_passes (is_due now) up.rest w found) in due_one w found s.0 s.1 w.is_marked refl
