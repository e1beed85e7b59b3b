-- The consequences of earlier calls for a notification.
use Rattle.std.proofs.Common.{◌≡◌, ℕ, ◌+◌, ◌^◌, ◌<◌, ◌≤◌, true, false, not, List, length, find, Option, Some, refl, sym, ap, subst, ◌∙◌, arith, inl, inr, ◌⊎◌}
use Rattle.std.specs.Prelude.{Contains}
use Rattle.std.proofs.lemmas.List.Elements.{All-nil, All-weaker}
use Rattle.coap_msg.specs.declared.endpoint.Endpoint.{Endpoint}
use Rattle.coap_msg.proofs.SameEndpoints.{both}
use Rattle.coap_observe.specs.declared.observer.Observer.{Observer}
use Rattle.coap_observe.specs.declared.notice.Notice.{Notice}
use Rattle.coap_observe.specs.Sending.{Sent}
use Rattle.coap_observe.specs.Watching.{Watching, next_sequence, is_pair, is_sent_as, is_of_target, is_due, is_sendable, marked, acknowledged as settled, resent, renewed, notified, IsNotification, Sends, same, newer, first, nothing as nothing_sent, Notifies}
use Rattle.coap_observe.specs.Laws.{registers, cancels, emits, acknowledges, rejects, sends, Comes, begins, goes_on, count, is_for}
use Rattle.coap_observe.specs.Accounts.{SentNotification, Account, no_account, last_place, with_value, Did, nothing, registered, cancelled, emitted, acknowledged, rejected, sent, token_of, one_if, registrations_of, fresh_count, GoesBefore, IsInOrder, NotificationsGoToTheRegistered, NotificationsAreInOrder}
use Rattle.coap_observe.proofs.Counts.{found_passes}
use Rattle.coap_observe.proofs.Found.{found_changed}
use Rattle.coap_observe.proofs.CallLaws.{fewer_after, one_pair}
use Rattle.coap_observe.proofs.NumberLaws.{notification_for}
use Rattle.coap_observe.proofs.KnownOfObservers.{IsBehind, IsKnown, Holds, of_map, of_filter}
use Rattle.coap_observe.proofs.KnownAfterCalls.{holds_registered, known_valued, known_settled, holds_sent, holds_left}

-- ---- all calls

comes_of : (capacity : ℕ) (a : Account) (t : Watching) → Did capacity a t → Comes capacity t
comes_of capacity a t (nothing x is) = begins t is
comes_of capacity a u (registered b t v from token target r did short reg) = goes_on t u (comes_of capacity b t did) (registers from token target r refl reg)
comes_of capacity a u (cancelled b t v from token did is) = goes_on t u (comes_of capacity b t did) (cancels from token is)
comes_of capacity a u (emitted b t v target did is) = goes_on t u (comes_of capacity b t did) (emits target is)
comes_of capacity a u (acknowledged b t v from id did is) = goes_on t u (comes_of capacity b t did) (acknowledges from id is)
comes_of capacity a u (rejected b t v from id did is) = goes_on t u (comes_of capacity b t did) (rejects from id is)
comes_of capacity a u (sent b t v now id n did small same_capacity notifies) = goes_on t u (comes_of capacity b t did) (sends now id n same_capacity notifies)

holds : (capacity : ℕ) (a : Account) (t : Watching) (from : Endpoint) (token : List ℕ) → Did capacity a t → Holds from token a t.list
holds capacity a t from token (nothing x is) =
    subst (λ (y : Watching). Holds from token no_account y.list) (sym is) (record { sent_are = All-nil (λ (s : SentNotification). is_for from token s.notice ≡ true → 0 < 0); observer = λ w e. absurd (cc) })
holds capacity a u from token (registered b t v end name target r did short reg) = holds_registered from end token name target b t u r short reg (holds capacity b t from token did)
holds capacity a u from token (cancelled b t v end name did is) =
    let h = holds capacity b t from token did in
    subst (λ (y : Watching). Holds from token b y.list) (sym is) (record {
      sent_are = h.sent_are;
      observer = of_filter from token (IsKnown from token b) (IsKnown from token b) (λ w. not (is_pair end name w)) t.list (one_pair capacity t (comes_of capacity b t did) from token) (λ w k. k) h.observer;
    })
holds capacity a u from token (emitted b t v target did is) =
    let h = holds capacity b t from token did in
    subst (λ (y : Watching). Holds from token (with_value target b) y.list) (sym is) (record {
      sent_are = h.sent_are;
      observer = of_map from token (IsKnown from token b) (IsKnown from token (with_value target b)) (is_of_target target) marked t.list (λ w. refl)
          (λ w mine k c test. known_valued from token b target w c test k) h.observer;
    })
holds capacity a u from token (acknowledged b t v end id did is) =
    let h = holds capacity b t from token did in
    subst (λ (y : Watching). Holds from token b y.list) (sym is) (record {
      sent_are = h.sent_are;
      observer = of_map from token (IsKnown from token b) (IsKnown from token b) (is_sent_as end id) settled t.list (λ w. refl) (λ w mine k c test. known_settled from token b w c k) h.observer;
    })
holds capacity a u from token (rejected b t v end id did is) =
    let h = holds capacity b t from token did in
    subst (λ (y : Watching). Holds from token b y.list) (sym is) (record {
      sent_are = h.sent_are;
      observer = of_filter from token (IsKnown from token b) (IsKnown from token b) (λ w. not (is_sent_as end id w)) t.list (one_pair capacity t (comes_of capacity b t did) from token) (λ w k. k) h.observer;
    })
holds capacity a u from token (sent b t v now id n did small same_capacity notifies) =
    let most = one_pair capacity t (comes_of capacity b t did) from token in
    let le = fewer_after (is_pair from token) now t.list notifies.left notifies.gives_up in
    holds_sent from token b now id notifies.left u.list n small notifies.sends (omega (arith, le, most))
    (holds_left from token b now t.list notifies.left notifies.gives_up most (holds capacity b t from token did))

-- ---- the laws

-- facts on the observer to which something is sent
record IsOf (a : Account) (now id : ℕ) (n : Notice) (c : Observer) : Type 0 where
  known : IsKnown n.to (token_of n) a c
  made : ((x : Sent) × (c.notification ≡ Some x) × (c.is_marked ≡ false) × IsNotification c x.id c.sequence false n) ⊎ ((c.is_marked ≡ true) × IsNotification c id (next_sequence c.sequence) true n)

of_sends : (a : Account) (now id : ℕ) (ws us : List Observer) (o : Option Notice) → Sends now id ws o us → (n : Notice) → o ≡ Some n
    → count (is_pair n.to (token_of n)) ws ≤ 1 → Holds n.to (token_of n) a ws → (c : Observer) × IsOf a now id n c
of_sends a now id ws _ _ (same c x m us found unmarked was notice is) n e most h =
    let one : m ≡ n = (cc) in
    let at : IsNotification c x.id c.sequence false n = subst (λ (y : Notice). IsNotification c x.id c.sequence false y) one notice in
    let for_it = notification_for c x.id c.sequence false n at in
    (c, record { known = h.observer c (found_changed (is_pair n.to (token_of n)) (is_due now) (resent now) ws c found for_it for_it most).0; made = inl (x, was, unmarked, at) })
of_sends a now id ws _ _ (newer c m us found marked_one notice is) n e most h =
    let one : m ≡ n = (cc) in
    let at : IsNotification c id (next_sequence c.sequence) true n = subst (λ (y : Notice). IsNotification c id (next_sequence c.sequence) true y) one notice in
    let for_it = notification_for c id (next_sequence c.sequence) true n at in
    (c, record { known = h.observer c (found_changed (is_pair n.to (token_of n)) (is_due now) (renewed now id) ws c found for_it for_it most).0; made = inr (marked_one, at) })
of_sends a now id ws _ _ (first c m us none_due found notice is) n e most h =
    let one : m ≡ n = (cc) in
    let at : IsNotification c id (next_sequence c.sequence) true n = subst (λ (y : Notice). IsNotification c id (next_sequence c.sequence) true y) one notice in
    let for_it = notification_for c id (next_sequence c.sequence) true n at in
    (c, record { known = h.observer c (found_changed (is_pair n.to (token_of n)) (is_sendable ws) (notified now id) ws c found for_it for_it most).0; made = inr ((both c.is_marked _ (found_passes (is_sendable ws) ws c found)).0, at) })
of_sends a now id ws _ _ (nothing_sent us none_due none_free is) n e most h = absurd (cc)

sender : (capacity : ℕ) (a : Account) (t : Watching) (now id : ℕ) (n : Notice) (us : List Observer) → Did capacity a t → Notifies now id t.list (Some n) us → (c : Observer) × IsOf a now id n c
sender capacity a t now id n us did notifies =
    let most = one_pair capacity t (comes_of capacity a t did) n.to (token_of n) in
    let le = fewer_after (is_pair n.to (token_of n)) now t.list notifies.left notifies.gives_up in
    of_sends a now id notifies.left us (Some n) notifies.sends n refl (omega (arith, le, most))
    (holds_left n.to (token_of n) a now t.list notifies.left notifies.gives_up most (holds capacity a t n.to (token_of n) did))

target_of : (a : Account) (now id : ℕ) (n : Notice) (c : Observer) → IsOf a now id n c → n.target ≡ c.target
target_of a now id n c is = elim is.made [ inl again ↦ again.3.target | inr new ↦ new.1.target ]

length_of : (a : Account) (now id : ℕ) (n : Notice) (c : Observer) → IsOf a now id n c → (n.token_length ≡ length c.token) × (token_of n ≡ c.token)
length_of a now id n c is = elim is.made [ inl again ↦ (again.3.token_length, again.3.token) | inr new ↦ (new.1.token_length, new.1.token) ]

number_made : (a : Account) (now id : ℕ) (n : Notice) (c : Observer) → IsOf a now id n c → n.sequence < 2 ^ 24
number_made a now id n c is = elim is.made [
  | inl again ↦ let e = again.3.sequence_is in let low = is.known.number in omega arith
  | inr new ↦ let e = new.1.sequence_is in omega arith
]

id_made : (a : Account) (now id : ℕ) (n : Notice) (c : Observer) → id < 2 ^ 16 → IsOf a now id n c → n.id < 2 ^ 16
id_made a now id n c small is = elim is.made [
  | inl again ↦ let e = again.3.id_is in let low = is.known.ids again.0 again.1 in let low_id = low.0 in omega arith
  | inr new ↦ let e = new.1.id_is in omega arith
]

valued_made : (a : Account) (now id : ℕ) (n : Notice) (c : Observer) → IsOf a now id n c → 0 < last_place c.target a.emitted
valued_made a now id n c is = elim is.made [
  | inl again ↦ (is.known.ids again.0 again.1).1
  | inr new ↦ is.known.valued new.0
]

pub notifications_go_to_the_registered : NotificationsGoToTheRegistered
notifications_go_to_the_registered capacity a t now id n us did small notifies =
    let s = sender capacity a t now id n us did notifies in
    let token = length_of a now id n s.0 s.1 in
    let short : length s.0.token ≤ 8 = subst (λ (x : List ℕ). length x ≤ 8) token.1 s.1.known.short in
    record {
      registered = subst (λ (k : ℕ). Contains a.registered (record { from = n.to; token = token_of n; target = k })) (sym (target_of a now id n s.0 s.1)) s.1.known.registered;
      valued = subst (λ (k : ℕ). 0 < last_place k a.emitted) (sym (target_of a now id n s.0 s.1)) (valued_made a now id n s.0 s.1);
      sendable = record { token = let e = token.0 in omega arith; sequence = number_made a now id n s.0 s.1 };
      id = id_made a now id n s.0 small s.1;
    }

before_again : (a : Account) (n : Notice) (c : Observer) (s : SentNotification) → n.target ≡ c.target → n.sequence ≡ c.sequence → c.is_marked ≡ false → IsBehind a c s
    → GoesBefore (last_place n.target a.emitted) n s
before_again a n c s target number unmarked b =
    let at = ap (λ (k : ℕ). last_place k a.emitted) target in
    let place = b.place in
    record {
      target = b.target ∙ sym target;
      order = elim b.number [
        | inl less ↦ inr (omega arith, omega arith)
        | inr same_number ↦ inl (same_number.0 ∙ sym number, same_number.1 unmarked ∙ sym at)
      ];
    }

before_new : (a : Account) (n : Notice) (c : Observer) (s : SentNotification) → n.target ≡ c.target → n.sequence ≡ c.sequence + 1 → IsBehind a c s
    → GoesBefore (last_place n.target a.emitted) n s
before_new a n c s target number b =
    let at = ap (λ (k : ℕ). last_place k a.emitted) target in
    let place = b.place in
    record {
      target = b.target ∙ sym target;
      order = inr (elim b.number [ inl less ↦ omega arith | inr same_number ↦ let e = same_number.0 in omega arith ], omega arith);
    }

in_order : (a : Account) (now id : ℕ) (n : Notice) (c : Observer) → registrations_of n.to (token_of n) a.registered ≤ 1 → fresh_count a.sent + 1 < 2 ^ 24
    → IsOf a now id n c → IsInOrder a n
in_order a now id n c one few is =
    let u = is.known.once one few in
    let before = u.count in
    let target = target_of a now id n c is in
    elim is.made [
      | inl again ↦
          let number = again.3.sequence_is in
          record {
            some = let more = u.noted again.0 again.1 in omega arith;
            count = omega arith;
            after = All-weaker (λ (s : SentNotification). is_for n.to (token_of n) s.notice ≡ true → IsBehind a c s)
                (λ (s : SentNotification). is_for n.to (token_of n) s.notice ≡ true → GoesBefore (last_place n.target a.emitted) n s)
                (λ s behind whom. before_again a n c s target number again.2 (behind whom)) a.sent u.each;
          }
      | inr new ↦
          let number : n.sequence ≡ next_sequence c.sequence = new.1.sequence_is in
          let next : next_sequence c.sequence ≡ c.sequence + 1 = omega arith in
          let fresh : one_if n.fresh ≡ 1 = ap one_if new.1.fresh_is in
          record {
            some = omega arith;
            count = omega arith;
            after = All-weaker (λ (s : SentNotification). is_for n.to (token_of n) s.notice ≡ true → IsBehind a c s)
                (λ (s : SentNotification). is_for n.to (token_of n) s.notice ≡ true → GoesBefore (last_place n.target a.emitted) n s)
                (λ s behind whom. before_new a n c s target (number ∙ next) (behind whom)) a.sent u.each;
          }
    ]

pub notifications_are_in_order : NotificationsAreInOrder
notifications_are_in_order capacity a t now id n us did notifies one few =
    let s = sender capacity a t now id n us did notifies in in_order a now id n s.0 one few s.1

-- an observer that is there registered
pub observer_registered : (capacity : ℕ) (a : Account) (t : Watching) (from : Endpoint) (token : List ℕ) (w : Observer) → Did capacity a t
    → find (is_pair from token) t.list ≡ Some w → 0 < registrations_of from token a.registered
observer_registered capacity a t from token w did there =
    let h : Holds from token a t.list = holds capacity a t from token did in
    (h.observer w there).some
