-- The facts of an account on observers still hold after one call.
use Rattle.std.proofs.Common.{◌≡◌, ℕ, ◌+◌, ◌^◌, ◌<◌, ◌≤◌, ◌&&◌, Bool, true, false, cond, List, [], ◌∷◌, ◌++◌, length, find, Option, Some, None, option_map, refl, sym, ap, subst, ◌∙◌, arith, inl, inr}
use Rattle.std.specs.Prelude.{◌==◌, Contains, All}
use Rattle.std.specs.Str.{bytes_eq}
use Rattle.std.proofs.lemmas.Bool.Decides.{nat_tests}
use Rattle.std.proofs.lemmas.List.Elements.{All-push, All-weaker, Contains-append_left, Contains-push}
use Rattle.coap_msg.specs.declared.endpoint.Endpoint.{Endpoint}
use Rattle.coap_msg.specs.Endpoints.{is_same_endpoint}
use Rattle.coap_msg.proofs.SameEndpoints.{both, same_endpoint, itself}
use Rattle.coap_observe.specs.declared.observer.Observer.{Observer}
use Rattle.coap_observe.specs.declared.notice.Registered.{Registered}
use Rattle.coap_observe.specs.declared.notice.Registered.TheVariants.{New, Replaced, Full}
use Rattle.coap_observe.specs.declared.notice.Notice.{Notice}
use Rattle.coap_observe.specs.Sending.{Sent, sent_again, first_sent}
use Rattle.coap_observe.specs.Watching.{Watching, next_sequence, is_pair, is_of_target, is_due, is_sendable, newcomer, replaced, marked, acknowledged as settled, resent, renewed, notified, Registers, GivesUp, IsNotification, Sends, same, newer, first, nothing as nothing_sent}
use Rattle.coap_observe.specs.Laws.{count, is_for}
use Rattle.coap_observe.specs.Accounts.{Registration, SentNotification, Account, last_place, with_registration, with_value, with_notification, one_if, registrations_of}
use Rattle.coap_observe.proofs.Counts.{found_passes}
use Rattle.coap_observe.proofs.Found.{found_changed}
use Rattle.coap_observe.proofs.NumberLaws.{kept_before}
use Rattle.coap_observe.proofs.SendingLaws.{pair_is, for_whom}
use Rattle.coap_observe.proofs.Tokens.{same_token, own_token}
use Rattle.coap_observe.proofs.KnownOfObservers.{registrations_push, fresh_push, other_place, later_place, own_place, IsBehind, IsKnown, Holds, of_map, of_push, of_first}

-- ---- one call: registrations

-- one more registration leaves the facts on other pairs
known_more : (from : Endpoint) (token : List ℕ) (a : Account) (r : Registration) (w : Observer) → IsKnown from token a w
    → IsKnown from token (record a { registered = a.registered ++ r ∷ [] }) w
known_more from token a r w k =
    let more = registrations_push from token a.registered r in
    record {
      registered = Contains-append_left a.registered (r ∷ []) (record { from = from; token = token; target = w.target }) k.registered;
      short = k.short;
      some = let some = k.some in omega arith;
      number = k.number;
      valued = k.valued;
      ids = k.ids;
      once = λ one few. let u = k.once (omega arith) few in record {
        count = u.count;
        each = All-weaker (λ (s : SentNotification). is_for from token s.notice ≡ true → IsBehind a w s) (λ (s : SentNotification). is_for from token s.notice ≡ true → IsBehind (record a { registered = a.registered ++ r ∷ [] }) w s)
            (λ s behind whom. let b = behind whom in record { target = b.target; place = b.place; number = b.number }) a.sent u.each;
        noted = u.noted;
      };
    }

-- a registration of the pair itself
own_registration : (from end : Endpoint) (token name : List ℕ) → (is_same_endpoint from end && bytes_eq token name) ≡ true → (from ≡ end) × (token ≡ name)
own_registration from end token name e =
    let h = both (is_same_endpoint from end) (bytes_eq token name) e in
    (same_endpoint from end h.0, same_token token name h.1)

has_registered : (from end : Endpoint) (token name : List ℕ) (target : ℕ) (rs : List Registration) → (is_same_endpoint from end && bytes_eq token name) ≡ true
    → Contains (rs ++ record { from = end; token = name; target = target } ∷ []) (record { from = from; token = token; target = target })
has_registered from end token name target rs e =
    let is = own_registration from end token name e in
    let x : Registration = record { from = end; token = name; target = target } in
    subst (λ (n : Endpoint). Contains (rs ++ x ∷ []) (record { from = n; token = token; target = target })) (sym is.0)
    (subst (λ (n : List ℕ). Contains (rs ++ x ∷ []) (record { from = end; token = n; target = target })) (sym is.1) (Contains-push rs x))

counted_own : (from end : Endpoint) (token name : List ℕ) (target : ℕ) (rs : List Registration) → (is_same_endpoint from end && bytes_eq token name) ≡ true
    → registrations_of from token (rs ++ record { from = end; token = name; target = target } ∷ []) ≡ registrations_of from token rs + 1
counted_own from end token name target rs e =
    registrations_push from token rs (record { from = end; token = name; target = target }) ∙ ap (λ b. registrations_of from token rs + one_if b) e

-- a pair that registered before did so twice
known_replaced : (from end : Endpoint) (token name : List ℕ) (target : ℕ) (a : Account) (w : Observer) → (is_same_endpoint from end && bytes_eq token name) ≡ true
    → IsKnown from token a w → IsKnown from token (record a { registered = a.registered ++ record { from = end; token = name; target = target } ∷ [] }) (replaced target w)
known_replaced from end token name target a w mine k =
    let count_is = counted_own from end token name target a.registered mine in
    record {
      registered = has_registered from end token name target a.registered mine;
      short = k.short;
      some = omega arith;
      number = omega arith;
      valued = λ e. absurd (cc);
      ids = λ x e. absurd (cc);
      once = λ one few. absurd (let some = k.some in omega arith);
    }

-- one that is new was sent nothing
known_new : (from end : Endpoint) (token name : List ℕ) (target : ℕ) (a : Account) → length name ≤ 8 → (is_same_endpoint from end && bytes_eq token name) ≡ true
    → All (λ s. is_for from token s.notice ≡ true → 0 < registrations_of from token a.registered) a.sent
    → IsKnown from token (record a { registered = a.registered ++ record { from = end; token = name; target = target } ∷ [] }) (newcomer end name target)
known_new from end token name target a short mine sent_are =
    let count_is = counted_own from end token name target a.registered mine in
    record {
      registered = has_registered from end token name target a.registered mine;
      short = subst (λ (n : List ℕ). length n ≤ 8) (sym (own_registration from end token name mine).1) short;
      some = omega arith;
      number = omega arith;
      valued = λ e. absurd (cc);
      ids = λ x e. absurd (cc);
      once = λ one few. record {
        count = omega arith;
        each = All-weaker (λ (s : SentNotification). is_for from token s.notice ≡ true → 0 < registrations_of from token a.registered)
            (λ (s : SentNotification). is_for from token s.notice ≡ true → IsBehind (record a { registered = a.registered ++ record { from = end; token = name; target = target } ∷ [] }) (newcomer end name target) s)
            (λ s some whom. absurd (let more = some whom in omega arith)) a.sent sent_are;
        noted = λ x e. absurd (cc);
      };
    }

sent_more : (from : Endpoint) (token : List ℕ) (a : Account) (r : Registration) → All (λ s. is_for from token s.notice ≡ true → 0 < registrations_of from token a.registered) a.sent
    → All (λ s. is_for from token s.notice ≡ true → 0 < registrations_of from token (a.registered ++ r ∷ [])) a.sent
sent_more from token a r all =
    All-weaker (λ (s : SentNotification). is_for from token s.notice ≡ true → 0 < registrations_of from token a.registered)
    (λ (s : SentNotification). is_for from token s.notice ≡ true → 0 < registrations_of from token (a.registered ++ r ∷ []))
    (λ s some whom. let before = some whom in let more = registrations_push from token a.registered r in omega arith) a.sent all

-- the pair of an observer, and another
same_pair : (from end : Endpoint) (token name : List ℕ) (w : Observer) → is_pair from token w ≡ true → is_pair end name w ≡ true → (is_same_endpoint from end && bytes_eq token name) ≡ true
same_pair from end token name w mine theirs =
    let a = pair_is from token w mine in
    let b = pair_is end name w theirs in
    subst (λ (x : Endpoint). (is_same_endpoint from x && bytes_eq token name) ≡ true) (a.0 ∙ sym b.0)
    (subst (λ (x : List ℕ). (is_same_endpoint from from && bytes_eq token x) ≡ true) (a.1 ∙ sym b.1) (ap (λ (t : Bool). t && bytes_eq token token) (itself from) ∙ own_token token))

pub holds_registered : (from end : Endpoint) (token name : List ℕ) (target : ℕ) (a : Account) (t u : Watching) (r : Registered) → length name ≤ 8 → Registers end name target t r u
    → Holds from token a t.list → Holds from token (with_registration r (record { from = end; token = name; target = target }) a) u.list
holds_registered from end token name target a t u (Replaced n) short reg h =
    let x : Registration = record { from = end; token = name; target = target } in
    let b : Account = record a { registered = a.registered ++ x ∷ [] } in
    subst (λ (y : Watching). Holds from token b y.list) (sym reg.1) (record {
      sent_are = sent_more from token a x h.sent_are;
      observer = of_map from token (IsKnown from token a) (IsKnown from token b) (is_pair end name) (replaced target) t.list (λ w. refl)
          (λ w mine k c test. at w mine k c test) h.observer;
    })
  where
    at : (w : Observer) → is_pair from token w ≡ true → IsKnown from token a w → (c : Bool) → is_pair end name w ≡ c
        → IsKnown from token (record a { registered = a.registered ++ record { from = end; token = name; target = target } ∷ [] }) (cond c (replaced target w) w)
    at w mine k true test = known_replaced from end token name target a w (same_pair from end token name w mine test) k
    at w mine k false test = known_more from token a (record { from = end; token = name; target = target }) w k
holds_registered from end token name target a t u (New n) short reg h =
    let x : Registration = record { from = end; token = name; target = target } in
    let b : Account = record a { registered = a.registered ++ x ∷ [] } in
    subst (λ (y : Watching). Holds from token b y.list) (sym reg.3) (record {
      sent_are = sent_more from token a x h.sent_are;
      observer = of_push from token (IsKnown from token a) (IsKnown from token b) t.list (newcomer end name target)
          (λ w k. known_more from token a x w k) (λ mine. known_new from end token name target a short mine h.sent_are) h.observer;
    })
holds_registered from end token name target a t u Full short reg h = subst (λ (y : Watching). Holds from token a y.list) (sym reg.2) h

-- ---- one call: values

behind_valued : (a : Account) (target : ℕ) (w : Observer) (s : SentNotification) (b : Bool) → is_of_target target w ≡ b → IsBehind a w s → IsBehind (with_value target a) (cond b (marked w) w) s
behind_valued a target w s true test h = record {
  target = h.target;
  place = let old = h.place in let later = later_place w.target target a.emitted in omega arith;
  number = elim h.number [
    | inl less ↦ inl less
    | inr same_number ↦ inr (same_number.0, λ unmarked. absurd (cc))
  ];
}
behind_valued a target w s false test h =
    let other : (target == w.target) ≡ false = turned w.target target test in
    let stays = other_place w.target target a.emitted other in
    record {
      target = h.target;
      place = let old = h.place in omega arith;
      number = elim h.number [
        | inl less ↦ inl less
        | inr same_number ↦ inr (same_number.0, λ unmarked. same_number.1 unmarked ∙ sym stays)
      ];
    }
  where
    turned : (m n : ℕ) → (m == n) ≡ false → (n == m) ≡ false
    turned m n e = grind (arith, nat_tests)

pub known_valued : (from : Endpoint) (token : List ℕ) (a : Account) (target : ℕ) (w : Observer) (b : Bool) → is_of_target target w ≡ b → IsKnown from token a w
    → IsKnown from token (with_value target a) (cond b (marked w) w)
known_valued from token a target w true test k = record {
  registered = k.registered;
  short = k.short;
  some = k.some;
  number = k.number;
  valued = λ e. own_place w.target target a.emitted test;
  ids = λ x e. ((k.ids x e).0, own_place w.target target a.emitted test);
  once = λ one few. let u = k.once one few in record {
    count = u.count;
    each = All-weaker (λ (s : SentNotification). is_for from token s.notice ≡ true → IsBehind a w s) (λ (s : SentNotification). is_for from token s.notice ≡ true → IsBehind (with_value target a) (marked w) s)
        (λ s behind whom. behind_valued a target w s true test (behind whom)) a.sent u.each;
    noted = u.noted;
  };
}
known_valued from token a target w false test k = record {
  registered = k.registered;
  short = k.short;
  some = k.some;
  number = k.number;
  valued = λ e. let old = k.valued e in let later = later_place w.target target a.emitted in omega arith;
  ids = λ x e. let old = k.ids x e in let later = later_place w.target target a.emitted in (old.0, let more = old.1 in omega arith);
  once = λ one few. let u = k.once one few in record {
    count = u.count;
    each = All-weaker (λ (s : SentNotification). is_for from token s.notice ≡ true → IsBehind a w s) (λ (s : SentNotification). is_for from token s.notice ≡ true → IsBehind (with_value target a) w s)
        (λ s behind whom. behind_valued a target w s false test (behind whom)) a.sent u.each;
    noted = u.noted;
  };
}

-- ---- one call: acknowledgements

pub known_settled : (from : Endpoint) (token : List ℕ) (a : Account) (w : Observer) (b : Bool) → IsKnown from token a w → IsKnown from token a (cond b (settled w) w)
known_settled from token a w true k = record {
  registered = k.registered;
  short = k.short;
  some = k.some;
  number = k.number;
  valued = k.valued;
  ids = λ x e. absurd (cc);
  once = λ one few. let u = k.once one few in record {
    count = u.count;
    each = All-weaker (λ (s : SentNotification). is_for from token s.notice ≡ true → IsBehind a w s) (λ (s : SentNotification). is_for from token s.notice ≡ true → IsBehind a (settled w) s)
        (λ s behind whom. let b = behind whom in record { target = b.target; place = b.place; number = b.number }) a.sent u.each;
    noted = λ x e. absurd (cc);
  };
}
known_settled from token a w false k = k

-- ---- one call: a notification

-- one that is for another
known_beside : (from : Endpoint) (token : List ℕ) (a : Account) (n : Notice) (w : Observer) → is_for from token n ≡ false → IsKnown from token a w → IsKnown from token (with_notification (Some n) a) w
known_beside from token a n w other k =
    let s : SentNotification = record { notice = n; place = last_place n.target a.emitted } in
    let more = fresh_push a.sent s in
    record {
      registered = k.registered;
      short = k.short;
      some = k.some;
      number = k.number;
      valued = k.valued;
      ids = k.ids;
      once = λ one few. let u = k.once one (omega arith) in record {
        count = let before = u.count in omega arith;
        each = All-push (λ (x : SentNotification). is_for from token x.notice ≡ true → IsBehind (with_notification (Some n) a) w x) a.sent s
            (All-weaker (λ (x : SentNotification). is_for from token x.notice ≡ true → IsBehind a w x) (λ (x : SentNotification). is_for from token x.notice ≡ true → IsBehind (with_notification (Some n) a) w x)
            (λ x behind whom. let b = behind whom in record { target = b.target; place = b.place; number = b.number }) a.sent u.each)
            (λ whom. absurd (cc));
        noted = u.noted;
      };
    }

-- the same message again
known_again : (from : Endpoint) (token : List ℕ) (a : Account) (n : Notice) (c : Observer) (now : ℕ) (x : Sent) → c.notification ≡ Some x → c.is_marked ≡ false
    → IsNotification c x.id c.sequence false n → IsKnown from token a c → IsKnown from token (with_notification (Some n) a) (resent now c)
known_again from token a n c now x was unmarked notice k =
    let s : SentNotification = record { notice = n; place = last_place n.target a.emitted } in
    let more = fresh_push a.sent s in
    record {
      registered = k.registered;
      short = k.short;
      some = k.some;
      number = k.number;
      valued = k.valued;
      ids = λ y e.
          let old = k.ids x was in
          let id : y.id ≡ x.id = sym (ap (λ (z : Sent). z.id) (same_sent (sent_again now x.id x) y (sym (ap (option_map (λ (z : Sent). sent_again now z.id z)) was) ∙ e))) in
          (let low = old.0 in omega arith, old.1);
      once = λ one few. let u = k.once one (omega arith) in record {
        count = let before = u.count in omega arith;
        each = All-push (λ (y : SentNotification). is_for from token y.notice ≡ true → IsBehind (with_notification (Some n) a) (resent now c) y) a.sent s
            (All-weaker (λ (y : SentNotification). is_for from token y.notice ≡ true → IsBehind a c y) (λ (y : SentNotification). is_for from token y.notice ≡ true → IsBehind (with_notification (Some n) a) (resent now c) y)
            (λ y behind whom. let b = behind whom in record { target = b.target; place = b.place; number = b.number }) a.sent u.each)
            (λ whom. record {
              target = notice.target;
              place = let at = ap (λ (t : ℕ). last_place t a.emitted) notice.target in omega arith;
              number = inr (notice.sequence_is, λ plain. ap (λ (t : ℕ). last_place t a.emitted) notice.target);
            });
        noted = λ y e. u.noted x was;
      };
    }
  where
    same_sent : (p q : Sent) → Some p ≡ Some q → p ≡ q
    same_sent p q e' = cc

-- a new message
known_fresh : (from : Endpoint) (token : List ℕ) (a : Account) (n : Notice) (c v : Observer) (id : ℕ) → id < 2 ^ 16 → c.is_marked ≡ true → IsNotification c id (next_sequence c.sequence) true n
    → v.target ≡ c.target → v.sequence ≡ next_sequence c.sequence → v.is_marked ≡ false → ((y : Sent) → v.notification ≡ Some y → y.id ≡ id)
    → IsKnown from token a c → IsKnown from token (with_notification (Some n) a) v
known_fresh from token a n c v id small marked_one notice target number unmarked ids k =
    let s : SentNotification = record { notice = n; place = last_place n.target a.emitted } in
    let more = fresh_push a.sent s in
    let fresh : one_if n.fresh ≡ 1 = ap one_if notice.fresh_is in
    let place_is : last_place v.target a.emitted ≡ last_place c.target a.emitted = ap (λ (t : ℕ). last_place t a.emitted) target in
    record {
      registered = subst (λ (t : ℕ). Contains a.registered (record { from = from; token = token; target = t })) (sym target) k.registered;
      short = k.short;
      some = k.some;
      number = omega arith;
      valued = λ e. absurd (cc);
      ids = λ y e. (let it = ids y e in omega arith, let more = k.valued marked_one in omega arith);
      once = λ one few.
          let u = k.once one (omega arith) in
          let before = u.count in
          let next : next_sequence c.sequence ≡ c.sequence + 1 = omega arith in
          record {
            count = omega arith;
            each = All-push (λ (y : SentNotification). is_for from token y.notice ≡ true → IsBehind (with_notification (Some n) a) v y) a.sent s
                (All-weaker (λ (y : SentNotification). is_for from token y.notice ≡ true → IsBehind a c y) (λ (y : SentNotification). is_for from token y.notice ≡ true → IsBehind (with_notification (Some n) a) v y)
                (λ y behind whom. let b = behind whom in record {
                  target = b.target ∙ sym target;
                  place = let old = b.place in omega arith;
                  number = inl (elim b.number [
                    | inl less ↦ omega arith
                    | inr same_number ↦ let at = same_number.0 in omega arith
                  ]);
                }) a.sent u.each)
                (λ whom. record {
                  target = notice.target ∙ sym target;
                  place = let at = ap (λ (t : ℕ). last_place t a.emitted) (notice.target ∙ sym target) in omega arith;
                  number = inr (notice.sequence_is ∙ sym number, λ plain. ap (λ (t : ℕ). last_place t a.emitted) (notice.target ∙ sym target));
                });
            noted = λ y e. omega arith;
          };
    }

sent_push : (from : Endpoint) (token : List ℕ) (a : Account) (n : Notice) → (is_for from token n ≡ true → 0 < registrations_of from token a.registered)
    → All (λ s. is_for from token s.notice ≡ true → 0 < registrations_of from token a.registered) a.sent
    → All (λ s. is_for from token s.notice ≡ true → 0 < registrations_of from token a.registered) (with_notification (Some n) a).sent
sent_push from token a n mine all =
    All-push (λ (s : SentNotification). is_for from token s.notice ≡ true → 0 < registrations_of from token a.registered) a.sent (record { notice = n; place = last_place n.target a.emitted }) all mine

-- of the one that something is sent to
some_of : (from : Endpoint) (token : List ℕ) (a : Account) (p : Observer → Bool) (f : Observer → Observer) (ws : List Observer) (c : Observer) (n : Notice)
    → Holds from token a ws → find p ws ≡ Some c → count (is_pair from token) ws ≤ 1 → ((w : Observer) → is_pair from token (f w) ≡ is_pair from token w)
    → is_for from token n ≡ is_pair from token c → is_for from token n ≡ true → 0 < registrations_of from token a.registered
some_of from token a p f ws c n h found most keeps whom mine =
    let it : is_pair from token c ≡ true = sym whom ∙ mine in
    (h.observer c (found_changed (is_pair from token) p f ws c found it (keeps c ∙ it) most).0).some

pub holds_sent : (from : Endpoint) (token : List ℕ) (a : Account) (now id : ℕ) (ws us : List Observer) (o : Option Notice) → id < 2 ^ 16 → Sends now id ws o us
    → count (is_pair from token) ws ≤ 1 → Holds from token a ws → Holds from token (with_notification o a) us
holds_sent from token a now id ws _ _ small (same c x n us found unmarked was notice is) most h =
    let whom = for_whom from token c x.id c.sequence false n notice in
    subst (Holds from token (with_notification (Some n) a)) (sym is) (record {
      sent_are = sent_push from token a n (λ mine. some_of from token a (is_due now) (resent now) ws c n h found most (λ w. refl) whom mine) h.sent_are;
      observer = of_first from token (IsKnown from token a) (IsKnown from token (with_notification (Some n) a)) (is_due now) (resent now) ws c found most (λ w. refl)
          (λ it k. known_again from token a n c now x was unmarked notice k) (λ other w k. known_beside from token a n w (whom ∙ other) k) h.observer;
    })
holds_sent from token a now id ws _ _ small (newer c n us found marked_one notice is) most h =
    let whom = for_whom from token c id (next_sequence c.sequence) true n notice in
    subst (Holds from token (with_notification (Some n) a)) (sym is) (record {
      sent_are = sent_push from token a n (λ mine. some_of from token a (is_due now) (renewed now id) ws c n h found most (λ w. refl) whom mine) h.sent_are;
      observer = of_first from token (IsKnown from token a) (IsKnown from token (with_notification (Some n) a)) (is_due now) (renewed now id) ws c found most (λ w. refl)
          (λ it k. known_fresh from token a n c (renewed now id c) id small marked_one notice refl refl refl (λ y e. again_id c.notification y e) k)
          (λ other w k. known_beside from token a n w (whom ∙ other) k) h.observer;
    })
  where
    again_id : (o : Option Sent) (y : Sent) → option_map (sent_again now id) o ≡ Some y → y.id ≡ id
    again_id None y e = absurd (cc)
    again_id (Some z) y e = sym (ap (λ (q : Sent). q.id) (same_sent (sent_again now id z) y e))
      where
        same_sent : (p q : Sent) → Some p ≡ Some q → p ≡ q
        same_sent p q e' = cc
holds_sent from token a now id ws _ _ small (first c n us none_due found notice is) most h =
    let whom = for_whom from token c id (next_sequence c.sequence) true n notice in
    subst (Holds from token (with_notification (Some n) a)) (sym is) (record {
      sent_are = sent_push from token a n (λ mine. some_of from token a (is_sendable ws) (notified now id) ws c n h found most (λ w. refl) whom mine) h.sent_are;
      observer = of_first from token (IsKnown from token a) (IsKnown from token (with_notification (Some n) a)) (is_sendable ws) (notified now id) ws c found most (λ w. refl)
          (λ it k. known_fresh from token a n c (notified now id c) id small (both c.is_marked _ (found_passes (is_sendable ws) ws c found)).0 notice refl refl refl (λ y e. first_id y e) k)
          (λ other w k. known_beside from token a n w (whom ∙ other) k) h.observer;
    })
  where
    first_id : (y : Sent) → Some (first_sent now id) ≡ Some y → y.id ≡ id
    first_id y e = sym (ap (λ (q : Sent). q.id) (same_sent (first_sent now id) y e))
      where
        same_sent : (p q : Sent) → Some p ≡ Some q → p ≡ q
        same_sent p q e' = cc
holds_sent from token a now id ws _ _ small (nothing_sent us none_due none_free is) most h = subst (Holds from token a) (sym is) h

-- endpoints that are given up
pub holds_left : (from : Endpoint) (token : List ℕ) (a : Account) (now : ℕ) (ws us : List Observer) → GivesUp now ws us → count (is_pair from token) ws ≤ 1
    → Holds from token a ws → Holds from token a us
holds_left from token a now ws us gives most h = record {
  sent_are = h.sent_are;
  observer = λ v found. h.observer v (kept_before (is_pair from token) now ws us v gives most found);
}
