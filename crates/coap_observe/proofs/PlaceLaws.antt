-- The places, from the slots of the code, and searches among them.
use Rattle.std.proofs.Common.{◌≡◌, ◌≢◌, ◌+◌, ◌≤◌, ◌<◌, ◌==◌, ◌&&◌, ◌||◌, ℕ, Bool, true, false, not, cond, List, [], ◌∷◌, ◌++◌, length, map, set, Option, Some, None, is_some, inl, inr, ◌∙◌, sym, refl, ap, subst, arith}
use Rattle.std.specs.Option.{option_map}
use Rattle.std.specs.List.{find, filter, list_any}
use Rattle.std.proofs.lemmas.Bool.{cases_Bool}
use Rattle.std.proofs.lemmas.Bool.Decides.{eqb_tells}
use Rattle.std.proofs.lemmas.List.{length-map, map-append}
use Rattle.std.proofs.lemmas.Nat.{mod_below}
use Rattle.slot_lists.specs.Lists.{Lists, list_at, is_among, without}
use Rattle.slot_lists.proofs.Among.{among_first, among_rest}
use Rattle.coap_msg.specs.declared.endpoint.Endpoint.{Endpoint}
use Rattle.coap_msg.specs.Endpoints.{is_same_endpoint}
use Rattle.coap_msg.proofs.SameEndpoints.{both, same_endpoint}
use Rattle.coap_observe.specs.declared.observer.Observer.{Observer}
use Rattle.coap_msg.specs.Buckets.{bucket}
use Rattle.coap_observe.specs.Buckets.{endpoint_bucket, target_bucket}
use Rattle.coap_observe.specs.Kept.{observer_at, place_at, endpoint_bucket_at, used_slots, AreKept, places_in, is_sendable_at}
use Rattle.slot_lists.specs.Counts.{times_in}
use Rattle.coap_observe.specs.Places.{Place, Places, observers_in, is_wanted, IsAt, IsUsed, changed_in, changed_place, with_change, with_changes, without_slot, Finds, FindsFirst}
use Rattle.coap_observe.specs.Watching.{is_busy, is_sendable, is_pair, is_named}
use Rattle.coap_observe.specs.Sending.{Sent}
use Rattle.coap_observe.specs.declared.observer.SoughtObserver.{SoughtObserver}
use Rattle.coap_observe.specs.declared.observer.SoughtObserver.TheVariants.{Any, SentAs, Unacknowledged, Marked}
use Rattle.std.specs.Str.{bytes_eq}
use Rattle.coap_observe.proofs.Counts.{none_passes, found_passes}
use Rattle.coap_observe.proofs.SlotLaws.{dealt_from}
use Rattle.slot_lists.proofs.Counts.{counted_is_among}
use Rattle.coap_observe.proofs.KeptLaws.{used_place, observer_stays, observer_is, in_its_endpoint}

-- ---- mapped lists

map_at : {B : Type 0} (f g : ℕ → B) (xs : List ℕ) → ((s : ℕ) → is_among s xs ≡ true → f s ≡ g s) → map f xs ≡ map g xs
map_at f g [] h = refl
map_at f g (x ∷ xs) h = λ i. h x (among_first x xs) i ∷ map_at f g xs (λ s m. h s (among_rest s x xs m)) i

pub map_twice : {A B C : Type 0} (f : B → C) (g : A → B) (xs : List A) → map f (map g xs) ≡ map (λ x. f (g x)) xs
map_twice f g [] = refl
map_twice f g (x ∷ xs) = ap (λ l. f (g x) ∷ l) (map_twice f g xs)

kept_in_map : {A B : Type 0} (f : A → B) (x : A) (xs : List A) (ys : List B) (b : Bool) → ys ≡ map f xs → cond b (f x ∷ ys) ys ≡ map f (cond b (x ∷ xs) xs)
kept_in_map f x xs ys true e = ap (λ l. f x ∷ l) e
kept_in_map f x xs ys false e = e

pub filter-map : {A B : Type 0} (p : B → Bool) (f : A → B) (xs : List A) → filter p (map f xs) ≡ map f (filter (λ x. p (f x)) xs)
filter-map p f [] = refl
filter-map p f (x ∷ xs) = kept_in_map f x (filter (λ y. p (f y)) xs) (filter p (map f xs)) (p (f x)) (filter-map p f xs)

found_in_map : {A B : Type 0} (f : A → B) (x : A) (o : Option A) (p : Option B) (b : Bool) → p ≡ option_map f o → cond b (Some (f x)) p ≡ option_map f (cond b (Some x) o)
found_in_map f x o p true e = refl
found_in_map f x o p false e = e

pub find-map : {A B : Type 0} (p : B → Bool) (f : A → B) (xs : List A) → find p (map f xs) ≡ option_map f (find (λ x. p (f x)) xs)
find-map p f [] = refl
find-map p f (x ∷ xs) = found_in_map f x (find (λ y. p (f y)) xs) (find p (map f xs)) (p (f x)) (find-map p f xs)

-- ---- the place with a slot

times_is_length : (slot : ℕ) (xs : List ℕ) → length (filter (λ s. slot == s) xs) ≡ times_in slot xs
times_is_length slot [] = refl
times_is_length slot (x ∷ xs) = elim (cases_Bool (slot == x)) [
  | inl e ↦ rw e (omega (arith, times_is_length slot xs))
  | inr e ↦ rw e (omega (arith, times_is_length slot xs))
]

none_kept_at : (b : Bool) (x n : ℕ) (kept : List ℕ) → (n ≡ 0 → kept ≡ []) → cond b 1 0 + n ≡ 0 → cond b (x ∷ kept) kept ≡ []
none_kept_at true x n kept rec e = absurd (omega arith)
none_kept_at false x n kept rec e = rec (omega arith)

none_kept : (slot : ℕ) (xs : List ℕ) → times_in slot xs ≡ 0 → filter (λ s. slot == s) xs ≡ []
none_kept slot [] h = refl
none_kept slot (x ∷ xs) h = none_kept_at (slot == x) x (times_in slot xs) (filter (λ s. slot == s) xs) (none_kept slot xs) h

one_kept : (slot : ℕ) (xs : List ℕ) → times_in slot xs ≡ 1 → filter (λ s. slot == s) xs ≡ slot ∷ []
one_kept slot [] h = absurd (omega arith)
one_kept slot (x ∷ xs) h = elim (eqb_tells slot x) [
  | inl w ↦
      let one : cond true 1 0 + times_in slot xs ≡ 1 = subst (λ b. cond b 1 0 + times_in slot xs ≡ 1) w.0 h in
      let rest : filter (λ s. slot == s) xs ≡ [] = none_kept slot xs (omega arith) in
      rw w.0 ((λ i. sym w.1 i ∷ rest i))
  | inr w ↦
      let rest : cond false 1 0 + times_in slot xs ≡ 1 = subst (λ b. cond b 1 0 + times_in slot xs ≡ 1) w.0 h in
      rw w.0 (one_kept slot xs (omega arith))
]

pub at_place : (n : ℕ) (ws : List Observer) (o : Lists) (slot : ℕ) → times_in slot (used_slots o) ≡ 1 → IsAt slot (place_at ws slot) (places_in n ws o)
at_place n ws o slot once =
    filter-map (λ (q : Place). slot == q.slot) (place_at ws) (used_slots o) ∙ ap (map (place_at ws)) (one_kept slot (used_slots o) once)

-- a slot with an observer is among those, and its place has the same content
pub place_used : (n : ℕ) (ws : List Observer) (o : Lists) (slot : ℕ) (p : Place) → IsAt slot p (places_in n ws o)
    → (is_among slot (used_slots o) ≡ true) × (p ≡ place_at ws slot)
place_used n ws o slot p at =
    let mapped : map (place_at ws) (filter (λ s. slot == s) (used_slots o)) ≡ p ∷ []
    = sym (filter-map (λ (q : Place). slot == q.slot) (place_at ws) (used_slots o)) ∙ at in
    let one : length (filter (λ s. slot == s) (used_slots o)) ≡ 1
    = sym (length-map (filter (λ s. slot == s) (used_slots o)) (place_at ws)) ∙ ap length mapped in
    let once : times_in slot (used_slots o) ≡ 1 = sym (times_is_length slot (used_slots o)) ∙ one in
    let here : filter (λ (q : Place). slot == q.slot) (map (place_at ws) (used_slots o)) ≡ place_at ws slot ∷ [] = at_place n ws o slot once in
    let both_are : p ∷ [] ≡ place_at ws slot ∷ [] = sym at ∙ here in
    (counted_is_among slot (used_slots o) (omega arith), cc)

pub used_in : (n : ℕ) (ws : List Observer) (o : Lists) (t : Places) (slot : ℕ) → places_in n ws o ≡ t → IsUsed slot t → is_among slot (used_slots o) ≡ true
used_in n ws o t slot view used =
    let there : IsAt slot used.0 (places_in n ws o) = subst (λ (u : Places). IsAt slot used.0 u) (sym view) used.1 in
    (place_used n ws o slot used.0 there).0

pub place_in : (n : ℕ) (ws : List Observer) (o : Lists) (t : Places) (slot : ℕ) (p : Place) → places_in n ws o ≡ t → IsAt slot p t → p.observer ≡ observer_at ws slot
place_in n ws o t slot p view at =
    let there : IsAt slot p (places_in n ws o) = subst (λ (u : Places). IsAt slot p u) (sym view) at in
    ap (λ (q : Place). q.observer) (place_used n ws o slot p there).1

-- ---- the places after a call

change_at : (ws : List Observer) (slot : ℕ) (v : Observer) (f : Observer → Observer) (s : ℕ) → slot < length ws → v ≡ f (observer_at ws slot)
    → place_at (set ws slot v) s ≡ changed_in slot f (place_at ws s)
change_at ws slot v f s below is = elim (eqb_tells slot s) [
  | inl w ↦
      let now : observer_at (set ws slot v) s ≡ f (observer_at ws s)
      = subst (λ (z : ℕ). observer_at (set ws slot v) z ≡ f (observer_at ws z)) w.1 (observer_is ws slot v below ∙ is) in
      let same : place_at (set ws slot v) s ≡ record { slot = s; observer = f (observer_at ws s) } = λ i. record { slot = s; observer = now i } in
      rw w.0 same
  | inr w ↦
      let now : observer_at (set ws slot v) s ≡ observer_at ws s = observer_stays ws slot s v (λ e. w.1 (sym e)) in
      let same : place_at (set ws slot v) s ≡ place_at ws s = λ i. record { slot = s; observer = now i } in
      rw w.0 same
]

pub seen_changed : (n : ℕ) (ws : List Observer) (o : Lists) (slot : ℕ) (v : Observer) (f : Observer → Observer) → slot < length ws → v ≡ f (observer_at ws slot)
    → places_in n (set ws slot v) o ≡ with_change slot f (places_in n ws o)
seen_changed n ws o slot v f below is =
    let each : map (place_at (set ws slot v)) (used_slots o) ≡ map (λ s. changed_in slot f (place_at ws s)) (used_slots o)
    = map_at (place_at (set ws slot v)) (λ s. changed_in slot f (place_at ws s)) (used_slots o) (λ s m. change_at ws slot v f s below is) in
    let all : map (place_at (set ws slot v)) (used_slots o) ≡ map (changed_in slot f) (map (place_at ws) (used_slots o))
    = each ∙ sym (map_twice (changed_in slot f) (place_at ws) (used_slots o)) in
    λ i. record { capacity = n; list = all i }

pub seen_all_changed : (n : ℕ) (ws ws2 : List Observer) (o : Lists) (f : Observer → Observer)
    → ((s : ℕ) → is_among s (used_slots o) ≡ true → observer_at ws2 s ≡ f (observer_at ws s)) → places_in n ws2 o ≡ with_changes f (places_in n ws o)
seen_all_changed n ws ws2 o f h =
    let each : map (place_at ws2) (used_slots o) ≡ map (λ s. changed_place f (place_at ws s)) (used_slots o)
    = map_at (place_at ws2) (λ s. changed_place f (place_at ws s)) (used_slots o) (λ s m. λ i. record { slot = s; observer = h s m i }) in
    let all : map (place_at ws2) (used_slots o) ≡ map (changed_place f) (map (place_at ws) (used_slots o))
    = each ∙ sym (map_twice (changed_place f) (place_at ws) (used_slots o)) in
    λ i. record { capacity = n; list = all i }

pub seen_without : (n : ℕ) (ws : List Observer) (o o2 : Lists) (slot : ℕ) → used_slots o2 ≡ without slot (used_slots o)
    → places_in n ws o2 ≡ without_slot slot (places_in n ws o)
seen_without n ws o o2 slot e =
    let all : map (place_at ws) (used_slots o2) ≡ filter (λ (p : Place). not (slot == p.slot)) (map (place_at ws) (used_slots o))
    = ap (map (place_at ws)) e ∙ sym (filter-map (λ (p : Place). not (slot == p.slot)) (place_at ws) (used_slots o)) in
    λ i. record { capacity = n; list = all i }

pub seen_added : (n : ℕ) (ws : List Observer) (o o2 : Lists) (slot : ℕ) (v : Observer) → slot < length ws → is_among slot (used_slots o) ≡ false
    → used_slots o2 ≡ used_slots o ++ slot ∷ []
    → places_in n (set ws slot v) o2 ≡ record (places_in n ws o) { list = (places_in n ws o).list ++ record { slot = slot; observer = v } ∷ [] }
seen_added n ws o o2 slot v below hasnt e =
    let before : map (place_at (set ws slot v)) (used_slots o) ≡ map (place_at ws) (used_slots o)
    = map_at (place_at (set ws slot v)) (place_at ws) (used_slots o) (λ s m.
    let other : s ≢ slot = λ same. let has : is_among slot (used_slots o) ≡ true = subst (λ z. is_among z (used_slots o) ≡ true) same m in cc in
    let now : observer_at (set ws slot v) s ≡ observer_at ws s = observer_stays ws slot s v other in
    λ i. record { slot = s; observer = now i }) in
    let is : observer_at (set ws slot v) slot ≡ v = observer_is ws slot v below in
    let all : map (place_at (set ws slot v)) (used_slots o2) ≡ map (place_at ws) (used_slots o) ++ record { slot = slot; observer = v } ∷ []
    = ap (map (place_at (set ws slot v))) e
    ∙ (map-append (place_at (set ws slot v)) (used_slots o) (slot ∷ [])
    ∙ (λ i. before i ++ record { slot = slot; observer = is i } ∷ [])) in
    λ i. record { capacity = n; list = all i }

-- each bucket is one of n
pub endpoint_bucket_below : (n : ℕ) (from : Endpoint) → 0 < n → endpoint_bucket n from < n
unfolding bucket
endpoint_bucket_below n from some = mod_below _ n some

pub target_bucket_below : (n target : ℕ) → 0 < n → target_bucket n target < n
target_bucket_below n target some = mod_below target n some

-- ---- searches

-- whether one passes, by the slots
pub any_mapped : (test : Observer → Bool) (n : ℕ) (ws : List Observer) (o : Lists)
    → list_any test (observers_in (places_in n ws o)) ≡ list_any (λ s. test (observer_at ws s)) (used_slots o)
any_mapped test n ws o = by (used_slots o)
  where
    by : (xs : List ℕ) → list_any test (map (λ (p : Place). p.observer) (map (place_at ws) xs)) ≡ list_any (λ s. test (observer_at ws s)) xs
    by [] = refl
    by (x ∷ xs) = ap (λ b. test (observer_at ws x) || b) (by xs)

found_among : (p : ℕ → Bool) (xs : List ℕ) (s : ℕ) → find p xs ≡ Some s → is_among s xs ≡ true
found_among p [] s h = absurd cc
found_among p (x ∷ xs) s h = elim (cases_Bool (p x)) [
  | inl e ↦
      let first : Some x ≡ Some s = subst (λ b. cond b (Some x) (find p xs) ≡ Some s) e h in
      let same : x ≡ s = cc in
      subst (λ z. is_among z (x ∷ xs) ≡ true) same (among_first x xs)
  | inr e ↦ among_rest s x xs (found_among p xs s (subst (λ b. cond b (Some x) (find p xs) ≡ Some s) e h))
]

any_among : (p : ℕ → Bool) (s : ℕ) (ys : List ℕ) → is_among s ys ≡ true → p s ≡ true → list_any p ys ≡ true
any_among p s [] m t = absurd cc
any_among p s (y ∷ ys) m t = elim (eqb_tells s y) [
  | inl w ↦ let here : p y ≡ true = subst (λ z. p z ≡ true) w.1 t in rw here refl
  | inr w ↦
      let later : is_among s ys ≡ true = subst (λ b. (b || is_among s ys) ≡ true) w.0 m in
      let rest : list_any p ys ≡ true = any_among p s ys later t in
      either_way (p y) (list_any p ys) rest
]
  where
    either_way : (a b : Bool) → b ≡ true → (a || b) ≡ true
    either_way true b e = refl
    either_way false b e = e

none_elsewhere : (p : ℕ → Bool) (xs ys : List ℕ) → ((s : ℕ) → is_among s xs ≡ true → p s ≡ true → is_among s ys ≡ true) → list_any p ys ≡ false
    → list_any p xs ≡ false
none_elsewhere p [] ys h none = refl
none_elsewhere p (x ∷ xs) ys h none = elim (cases_Bool (p x)) [
  | inl e ↦ let some : list_any p ys ≡ true = any_among p x ys (h x (among_first x xs) e) e in absurd cc
  | inr e ↦ rw e (none_elsewhere p xs ys (λ s m t. h s (among_rest s x xs m) t) none)
]

-- the observer of a slot that is used
found_at : (test : Observer → Bool) (n : ℕ) (ws : List Observer) (o t e : Lists) (slot : ℕ) → AreKept n ws o t e → is_among slot (used_slots o) ≡ true
    → test (observer_at ws slot) ≡ true → Finds test (places_in n ws o) (Some slot)
found_at test n ws o t e slot kept has passes = (place_at ws slot, at_place n ws o slot (used_place n ws o t e slot kept has).1, passes)

-- an observer that is found in the list of an endpoint's bucket is found among all, where only those of the endpoint
-- pass
pub found_in_bucket : (test : Observer → Bool) (from : Endpoint) (n : ℕ) (ws : List Observer) (o t e : Lists) (r : Option ℕ) → AreKept n ws o t e
    → ((w : Observer) → test w ≡ true → is_same_endpoint from w.from ≡ true) → endpoint_bucket n from < n
    → r ≡ find (λ s. test (observer_at ws s)) (list_at (endpoint_bucket n from) e) → Finds test (places_in n ws o) r
found_in_bucket test from n ws o t e None kept only below is =
    any_mapped test n ws o
    ∙ none_elsewhere (λ s. test (observer_at ws s)) (used_slots o) (list_at (endpoint_bucket n from) e)
    (λ s m passes.
    let same : from ≡ (observer_at ws s).from = same_endpoint from (observer_at ws s).from (only (observer_at ws s) passes) in
    let bucket : endpoint_bucket_at n ws s ≡ endpoint_bucket n from = ap (endpoint_bucket n) (sym same) in
    subst (λ z. is_among s (list_at z e) ≡ true) bucket
    (in_its_endpoint n ws o t e s kept m (subst (λ z. z < n) (sym bucket) below)))
    (none_passes (λ s. test (observer_at ws s)) (list_at (endpoint_bucket n from) e) (sym is))
found_in_bucket test from n ws o t e (Some slot) kept only below is =
    let passes : test (observer_at ws slot) ≡ true = found_passes (λ s. test (observer_at ws s)) (list_at (endpoint_bucket n from) e) slot (sym is) in
    let there : is_among slot (list_at (endpoint_bucket n from) e) ≡ true = found_among (λ s. test (observer_at ws s)) (list_at (endpoint_bucket n from) e) slot (sym is) in
    let used : 1 ≤ times_in slot (used_slots o)
    = dealt_from (endpoint_bucket_at n ws) (used_slots o) e.lists slot (endpoint_bucket n from) kept.by_endpoint (omega (arith, kept.endpoints_count)) there in
    found_at test n ws o t e slot kept (counted_is_among slot (used_slots o) used) passes

-- the first that is found in the list of all
pub found_first : (test : Observer → Bool) (n : ℕ) (ws : List Observer) (o t e : Lists) (r : Option ℕ) → AreKept n ws o t e
    → r ≡ find (λ s. test (observer_at ws s)) (used_slots o) → FindsFirst test (places_in n ws o) r
found_first test n ws o t e None kept is =
    any_mapped test n ws o ∙ none_passes (λ s. test (observer_at ws s)) (used_slots o) (sym is)
found_first test n ws o t e (Some slot) kept is =
    let has : is_among slot (used_slots o) ≡ true = found_among (λ s. test (observer_at ws s)) (used_slots o) slot (sym is) in (
      place_at ws slot,
      at_place n ws o slot (used_place n ws o t e slot kept has).1,
      find-map (λ (q : Place). test q.observer) (place_at ws) (used_slots o) ∙ ap (option_map (place_at ws)) (sym is),
    )

-- whether an endpoint has something that isn't acknowledged, by its bucket
busy_by : (from : Endpoint) (n : ℕ) (ws : List Observer) (o t e : Lists) (r : Option ℕ) → AreKept n ws o t e → endpoint_bucket n from < n
    → r ≡ find (λ s. is_busy from (observer_at ws s)) (list_at (endpoint_bucket n from) e) → is_some r ≡ list_any (is_busy from) (observers_in (places_in n ws o))
busy_by from n ws o t e None kept below is =
    sym (found_in_bucket (is_busy from) from n ws o t e None kept (λ w b. (both (is_some w.notification) (is_same_endpoint from w.from) b).1) below is)
busy_by from n ws o t e (Some slot) kept below is =
    let passes : is_busy from (observer_at ws slot) ≡ true = found_passes (λ s. is_busy from (observer_at ws s)) (list_at (endpoint_bucket n from) e) slot (sym is) in
    let there : is_among slot (list_at (endpoint_bucket n from) e) ≡ true = found_among (λ s. is_busy from (observer_at ws s)) (list_at (endpoint_bucket n from) e) slot (sym is) in
    let used : 1 ≤ times_in slot (used_slots o)
    = dealt_from (endpoint_bucket_at n ws) (used_slots o) e.lists slot (endpoint_bucket n from) kept.by_endpoint (omega (arith, kept.endpoints_count)) there in
    sym (any_mapped (is_busy from) n ws o ∙ any_among (λ s. is_busy from (observer_at ws s)) slot (used_slots o) (counted_is_among slot (used_slots o) used) passes)

pub free_by : (n : ℕ) (ws : List Observer) (o t e : Lists) → AreKept n ws o t e → ((from : Endpoint) → endpoint_bucket n from < n)
    → (w : Observer) → is_sendable_at e ws n w ≡ is_sendable (observers_in (places_in n ws o)) w
free_by n ws o t e kept below w =
    ap (λ b. w.is_marked && not b) (busy_by w.from n ws o t e (find (λ s. is_busy w.from (observer_at ws s)) (list_at (endpoint_bucket n w.from) e)) kept (below w.from) refl)

pub found_free : (n : ℕ) (ws : List Observer) (o t e : Lists) (r : Option ℕ) → AreKept n ws o t e → ((from : Endpoint) → endpoint_bucket n from < n)
    → r ≡ find (λ s. is_sendable_at e ws n (observer_at ws s)) (used_slots o) → FindsFirst (is_sendable (observers_in (places_in n ws o))) (places_in n ws o) r
found_free n ws o t e r kept below is =
    let same : find (λ s. is_sendable_at e ws n (observer_at ws s)) (used_slots o) ≡ find (λ s. is_sendable (observers_in (places_in n ws o)) (observer_at ws s)) (used_slots o)
    = λ i. find (λ s. free_by n ws o t e kept below (observer_at ws s) i) (used_slots o) in
    found_first (is_sendable (observers_in (places_in n ws o))) n ws o t e r kept (is ∙ same)

-- ---- the same, as the code's calls give it

pub searched : (test : Observer → Bool) (from : Endpoint) (n : ℕ) (ws ws2 : List Observer) (o t e : Lists) (bucket : ℕ) (r : Option ℕ) → AreKept n ws o t e
    → ((w : Observer) → test w ≡ true → is_same_endpoint from w.from ≡ true) → ws2 ≡ ws → bucket ≡ endpoint_bucket n from → bucket < n
    → r ≡ find (λ s. test (observer_at ws2 s)) (list_at bucket e) → Finds test (places_in n ws o) r
searched test from n ws ws2 o t e bucket r kept only same is below found =
    found_in_bucket test from n ws o t e r kept only (subst (λ b. b < n) is below)
    (found ∙ ((λ i. find (λ s. test (observer_at (same i) s)) (list_at (is i) e))))

pub searched_first : (test : Observer → Bool) (n : ℕ) (ws ws2 : List Observer) (o t e : Lists) (r : Option ℕ) → AreKept n ws o t e → ws2 ≡ ws
    → r ≡ find (λ s. test (observer_at ws2 s)) (used_slots o) → FindsFirst test (places_in n ws o) r
searched_first test n ws ws2 o t e r kept same found =
    found_first test n ws o t e r kept (found ∙ (λ i. find (λ s. test (observer_at (same i) s)) (used_slots o)))

pub searched_free : (n : ℕ) (ws ws2 : List Observer) (o t e : Lists) (r : Option ℕ) → AreKept n ws o t e → ws2 ≡ ws
    → r ≡ find (λ s. is_sendable_at e ws2 n (observer_at ws2 s)) (used_slots o) → FindsFirst (is_sendable (observers_in (places_in n ws o))) (places_in n ws o) r
searched_free n ws ws2 o t e r kept same found =
    found_free n ws o t e r kept (λ from. endpoint_bucket_below n from kept.some)
    (found ∙ (λ i. find (λ s. is_sendable_at e (same i) n (observer_at (same i) s)) (used_slots o)))

pub none_among : (test : Observer → Bool) (n : ℕ) (ws ws2 : List Observer) (o : Lists) → ws2 ≡ ws
    → list_any (λ s. test (observer_at ws2 s)) (used_slots o) ≡ false → list_any test (observers_in (places_in n ws o)) ≡ false
none_among test n ws ws2 o same none =
    any_mapped test n ws o ∙ ((λ i. list_any (λ s. test (observer_at (sym same i) s)) (used_slots o)) ∙ none)

-- an observer that is wanted is of the endpoint
pub wanted_is_from : (from : Endpoint) (wanted : SoughtObserver) (w : Observer) → is_wanted from wanted w ≡ true → is_same_endpoint from w.from ≡ true
wanted_is_from from Any w e = e
wanted_is_from from (SentAs id) w e = named from id w.from w.notification e
  where
    named : (from : Endpoint) (id : ℕ) (to : Endpoint) (n : Option Sent) → is_named from id to n ≡ true → is_same_endpoint from to ≡ true
    named from id to None e = absurd cc
    named from id to (Some s) e = (both (is_same_endpoint from to) (id == s.id) e).0
wanted_is_from from Unacknowledged w e = (both (is_some w.notification) (is_same_endpoint from w.from) e).1
wanted_is_from from Marked w e = (both (is_same_endpoint from w.from) w.is_marked e).0

pub pair_is_from : (from : Endpoint) (token : List ℕ) (w : Observer) → is_pair from token w ≡ true → is_same_endpoint from w.from ≡ true
pair_is_from from token w e = (both (is_same_endpoint from w.from) (bytes_eq token w.token) e).0

-- a slot with an observer is one of the list's places
pub slot_below : (n : ℕ) (ws : List Observer) (o t e : Lists) (seen : Places) (slot : ℕ) → AreKept n ws o t e → places_in n ws o ≡ seen → IsUsed slot seen → slot < length ws
slot_below n ws o t e seen slot kept view used =
    let place = used_place n ws o t e slot kept (used_in n ws o seen slot view used) in
    omega (arith, kept.observers_count, place.0)

pub slot_within : (n : ℕ) (ws : List Observer) (o t e : Lists) (seen : Places) (slot : ℕ) → AreKept n ws o t e → places_in n ws o ≡ seen → IsUsed slot seen → slot < n
slot_within n ws o t e seen slot kept view used = (used_place n ws o t e slot kept (used_in n ws o seen slot view used)).0
