-- The facts of an account on an observer: the notifications to it, and the registration of its pair. Lists of observers
-- keep them.
use Rattle.std.proofs.Common.{◌≡◌, ℕ, ◌+◌, ◌^◌, ◌<◌, ◌≤◌, ◌&&◌, Bool, true, false, cond, suc, List, [], ◌∷◌, ◌++◌, length, map, find, Option, Some, None, option_map, refl, sym, ap, subst, ◌∙◌, arith, inl, inr, ◌⊎◌}
use Rattle.std.specs.Prelude.{◌==◌, Contains, All}
use Rattle.std.specs.List.{filter}
use Rattle.std.specs.Option.{option_or}
use Rattle.std.specs.Str.{bytes_eq}
use Rattle.std.proofs.lemmas.Bool.{cases_Bool}
use Rattle.std.proofs.lemmas.Bool.Decides.{nat_tests}
use Rattle.std.proofs.lemmas.List.Folds.{find-append}
use Rattle.coap_msg.specs.declared.endpoint.Endpoint.{Endpoint}
use Rattle.coap_msg.specs.Endpoints.{is_same_endpoint}
use Rattle.coap_observe.specs.declared.observer.Observer.{Observer}
use Rattle.coap_observe.specs.Sending.{Sent}
use Rattle.coap_observe.specs.Watching.{is_pair, where_so, with_first}
use Rattle.coap_observe.specs.Laws.{count, is_for}
use Rattle.coap_observe.specs.Accounts.{Registration, SentNotification, Account, place_after, last_place, one_if, registrations_of, fresh_count}
use Rattle.coap_observe.proofs.Counts.{any_filter, found_passes, none_passes}
use Rattle.coap_observe.proofs.Found.{past, here, not_found, found_map, found_kept, found_beside, found_changed}
use Rattle.coap_observe.proofs.CallLaws.{where_same}
use Rattle.coap_observe.proofs.NumberLaws.{either}
use Rattle.coap_observe.proofs.SendingLaws.{same_one}

-- ---- counts

pub registrations_push : (from : Endpoint) (token : List ℕ) (rs : List Registration) (r : Registration)
    → registrations_of from token (rs ++ r ∷ []) ≡ registrations_of from token rs + one_if (is_same_endpoint from r.from && bytes_eq token r.token)
registrations_push from token [] r = refl
registrations_push from token (x ∷ rs) r =
    let rest = registrations_push from token rs r in
    let n = one_if (is_same_endpoint from r.from && bytes_eq token r.token) in
    let m = one_if (is_same_endpoint from x.from && bytes_eq token x.token) in
    swapped (registrations_of from token (rs ++ r ∷ [])) (registrations_of from token rs) m n rest
  where
    swapped : (a b m n : ℕ) → a ≡ b + n → a + m ≡ b + m + n
    swapped a b m n e = omega arith

pub fresh_push : (xs : List SentNotification) (s : SentNotification) → fresh_count (xs ++ s ∷ []) ≡ fresh_count xs + one_if s.notice.fresh
fresh_push [] s = refl
fresh_push (x ∷ xs) s =
    let rest = fresh_push xs s in
    swapped (fresh_count (xs ++ s ∷ [])) (fresh_count xs) (one_if x.notice.fresh) (one_if s.notice.fresh) rest
  where
    swapped : (a b m n : ℕ) → a ≡ b + n → a + m ≡ b + m + n
    swapped a b m n e = omega arith

-- ---- places

pub place_push : (target count place : ℕ) (ts : List ℕ) (t : ℕ)
    → place_after target count place (ts ++ t ∷ []) ≡ cond (t == target) (count + length ts + 1) (place_after target count place ts)
place_push target count place [] t = at (t == target)
  where
    at : (b : Bool) → cond b (count + 1) place ≡ cond b (count + 0 + 1) place
    at true = omega arith
    at false = refl
place_push target count place (x ∷ ts) t =
    place_push target (count + 1) (cond (x == target) (count + 1) place) ts t
    ∙ at (t == target) (place_after target (count + 1) (cond (x == target) (count + 1) place) ts)
  where
    at : (b : Bool) (n : ℕ) → cond b (count + 1 + length ts + 1) n ≡ cond b (count + suc (length ts) + 1) n
    at true n = omega arith
    at false n = refl

pub place_bound : (target count place : ℕ) (ts : List ℕ) → place ≤ count → place_after target count place ts ≤ count + length ts
place_bound target count place [] h = omega arith
place_bound target count place (x ∷ ts) h =
    let rest = place_bound target (count + 1) (cond (x == target) (count + 1) place) ts (at (x == target)) in
    omega arith
  where
    at : (b : Bool) → cond b (count + 1) place ≤ count + 1
    at true = omega arith
    at false = omega arith

-- a value of another target leaves it
pub other_place : (target t : ℕ) (ts : List ℕ) → (t == target) ≡ false → last_place target (ts ++ t ∷ []) ≡ last_place target ts
other_place target t ts e = place_push target 0 0 ts t ∙ ap (λ b. cond b (0 + length ts + 1) (last_place target ts)) e

-- and none takes it back
pub later_place : (target t : ℕ) (ts : List ℕ) → last_place target ts ≤ last_place target (ts ++ t ∷ [])
later_place target t ts =
    let bound = place_bound target 0 0 ts (omega arith) in
    let is = place_push target 0 0 ts t in
    at (t == target) (last_place target ts) (last_place target (ts ++ t ∷ [])) bound is
  where
    at : (b : Bool) (old new : ℕ) → old ≤ 0 + length ts → new ≡ cond b (0 + length ts + 1) old → old ≤ new
    at true old new h e = omega arith
    at false old new h e = omega arith

-- one of its own is the last
pub own_place : (target t : ℕ) (ts : List ℕ) → (target == t) ≡ true → 0 < last_place target (ts ++ t ∷ [])
own_place target t ts e =
    let same : (t == target) ≡ true = turned target t e in
    let is : last_place target (ts ++ t ∷ []) ≡ 0 + length ts + 1 = place_push target 0 0 ts t ∙ ap (λ b. cond b (0 + length ts + 1) (last_place target ts)) same in
    omega arith
  where
    turned : (m n : ℕ) → (m == n) ≡ true → (n == m) ≡ true
    turned m n h = grind (arith, nat_tests)

-- ---- facts on an observer

-- a notification that was sent to it
pub record IsBehind (a : Account) (w : Observer) (s : SentNotification) : Type 0 where
  pub target : s.notice.target ≡ w.target
  pub place : s.place ≤ last_place w.target a.emitted
  pub number : (s.notice.sequence < w.sequence) ⊎ ((s.notice.sequence ≡ w.sequence) × (w.is_marked ≡ false → s.place ≡ last_place w.target a.emitted))

-- where its pair registered once
pub record IsUpTo (from : Endpoint) (token : List ℕ) (a : Account) (w : Observer) : Type 0 where
  pub count : w.sequence ≤ fresh_count a.sent
  pub each : All (λ s. is_for from token s.notice ≡ true → IsBehind a w s) a.sent
  pub noted : (x : Sent) → w.notification ≡ Some x → 0 < w.sequence

pub record IsKnown (from : Endpoint) (token : List ℕ) (a : Account) (w : Observer) : Type 0 where
  pub registered : Contains a.registered (record { from = from; token = token; target = w.target })
  pub short : length token ≤ 8
  pub some : 0 < registrations_of from token a.registered
  pub number : w.sequence < 2 ^ 24
  pub valued : w.is_marked ≡ true → 0 < last_place w.target a.emitted
  pub ids : (x : Sent) → w.notification ≡ Some x → (x.id < 2 ^ 16) × (0 < last_place w.target a.emitted)
  pub once : registrations_of from token a.registered ≤ 1 → fresh_count a.sent + 1 < 2 ^ 24 → IsUpTo from token a w

-- of all of a pair
pub record Holds (from : Endpoint) (token : List ℕ) (a : Account) (ws : List Observer) : Type 0 where
  pub sent_are : All (λ s. is_for from token s.notice ≡ true → 0 < registrations_of from token a.registered) a.sent
  pub observer : (w : Observer) → find (is_pair from token) ws ≡ Some w → IsKnown from token a w

-- ---- lists that are changed

by_test : (P : Observer → Type 0) (p : Observer → Bool) (f : Observer → Observer) (w : Observer) → ((b : Bool) → p w ≡ b → P (cond b (f w) w)) → P (where_so p f w)
by_test P p f w h = h (p w) refl

pub of_map : (from : Endpoint) (token : List ℕ) (P Q : Observer → Type 0) (p : Observer → Bool) (f : Observer → Observer) (ws : List Observer)
    → ((w : Observer) → is_pair from token (f w) ≡ is_pair from token w) → ((w : Observer) → is_pair from token w ≡ true → P w → (b : Bool) → p w ≡ b → Q (cond b (f w) w))
    → ((w : Observer) → find (is_pair from token) ws ≡ Some w → P w) → (v : Observer) → find (is_pair from token) (map (where_so p f) ws) ≡ Some v → Q v
of_map from token P Q p f ws keeps leaves each v found =
    at (find (is_pair from token) ws) refl (sym (found_map (is_pair from token) (where_so p f) (λ w. where_same (is_pair from token) p f w (keeps w)) ws) ∙ found)
  where
    at : (o : Option Observer) → find (is_pair from token) ws ≡ o → option_map (where_so p f) o ≡ Some v → Q v
    at None e is = absurd (cc)
    at (Some w) e is =
        subst Q (same_one (where_so p f w) v is)
        (by_test Q p f w (λ b t. leaves w (found_passes (is_pair from token) ws w e) (each w e) b t))

pub of_filter : (from : Endpoint) (token : List ℕ) (P Q : Observer → Type 0) (p : Observer → Bool) (ws : List Observer) → count (is_pair from token) ws ≤ 1
    → ((w : Observer) → P w → Q w) → ((w : Observer) → find (is_pair from token) ws ≡ Some w → P w)
    → (v : Observer) → find (is_pair from token) (filter p ws) ≡ Some v → Q v
of_filter from token P Q p ws most leaves each v found = elim (either (find (is_pair from token) ws)) [
  | inl some ↦ subst Q (sym (found_kept (is_pair from token) p ws some.0 v most some.1 found)) (leaves some.0 (each some.0 some.1))
  | inr none ↦ absurd (not_found (is_pair from token) (filter p ws) v (any_filter (is_pair from token) p ws (none_passes (is_pair from token) ws none)) found)
]

pub of_push : (from : Endpoint) (token : List ℕ) (P Q : Observer → Type 0) (ws : List Observer) (x : Observer)
    → ((w : Observer) → P w → Q w) → (is_pair from token x ≡ true → Q x) → ((w : Observer) → find (is_pair from token) ws ≡ Some w → P w)
    → (v : Observer) → find (is_pair from token) (ws ++ x ∷ []) ≡ Some v → Q v
of_push from token P Q ws x leaves new each v found =
    at (find (is_pair from token) ws) refl (is_pair from token x) refl (sym (find-append (is_pair from token) ws (x ∷ [])) ∙ found)
  where
    at : (o : Option Observer) → find (is_pair from token) ws ≡ o → (b : Bool) → is_pair from token x ≡ b
        → option_or o (find (is_pair from token) (x ∷ [])) ≡ Some v → Q v
    at (Some w) e b t is = leaves v (each v (e ∙ is))
    at None e true t is = subst Q (same_one x v (sym (here (is_pair from token) x [] t) ∙ is)) (new t)
    at None e false t is = absurd (nobody (sym (past (is_pair from token) x [] t) ∙ is))
      where
        nobody : None ≡ Some v → ⊥
        nobody e' = cc

pub of_first : (from : Endpoint) (token : List ℕ) (P Q : Observer → Type 0) (p : Observer → Bool) (f : Observer → Observer) (ws : List Observer) (c : Observer)
    → find p ws ≡ Some c → count (is_pair from token) ws ≤ 1 → ((w : Observer) → is_pair from token (f w) ≡ is_pair from token w)
    → (is_pair from token c ≡ true → P c → Q (f c)) → (is_pair from token c ≡ false → (w : Observer) → P w → Q w)
    → ((w : Observer) → find (is_pair from token) ws ≡ Some w → P w) → (v : Observer) → find (is_pair from token) (with_first p f ws) ≡ Some v → Q v
of_first from token P Q p f ws c found most keeps mine others each v there = elim (cases_Bool (is_pair from token c)) [
  | inl it ↦
      let both_are = found_changed (is_pair from token) p f ws c found it (keeps c ∙ it) most in
      subst Q (same_one (f c) v (sym both_are.1 ∙ there)) (mine it (each c both_are.0))
  | inr other ↦
      let stays = found_beside (is_pair from token) p f ws c found other (keeps c ∙ other) in
      others other v (each v (sym stays ∙ there))
]
