-- From observers in slots to observers alone.
use Rattle.std.proofs.Common.{◌≡◌, ◌<◌, ◌≤◌, ◌==◌, ◌&&◌, ◌||◌, ℕ, Bool, true, false, not, cond, List, [], ◌∷◌, length, map, Option, Some, None, is_some, option_map, inl, inr, ◌∙◌, sym, refl, ap, subst, arith}
use Rattle.std.specs.List.{find, filter, list_any, AllByRecursion}
use Rattle.std.proofs.lemmas.Bool.{cases_Bool}
use Rattle.std.proofs.lemmas.List.{length-map}
use Rattle.coap_observe.specs.declared.observer.Observer.{Observer}
use Rattle.coap_observe.specs.Places.{Place, Places, observers_in, IsAt, changed_in, changed_place, with_change, with_changes, without_slot, Finds}
use Rattle.coap_observe.specs.Watching.{where_so, with_first}
use Rattle.coap_msg.proofs.SameEndpoints.{both}
use Rattle.coap_observe.proofs.Changed.{fewer}
use Rattle.coap_observe.proofs.Counts.{found_passes, count_weaker}
use Rattle.coap_observe.proofs.PlaceLaws.{filter-map, find-map, map_twice}

-- ---- filters

passes_first : {A : Type 0} (p : A → Bool) (xs : List A) (x : A) (rest : List A) → filter p xs ≡ x ∷ rest → p x ≡ true
passes_first p [] x rest e = absurd cc
passes_first {A} p (y ∷ ys) x rest e = elim (cases_Bool (p y)) [
  | inl t ↦
      let kept : y ∷ filter p ys ≡ x ∷ rest = subst (λ b. cond b (y ∷ filter p ys) (filter p ys) ≡ x ∷ rest) t e in
      let same : y ≡ x = cc in
      subst (λ (z : A). p z ≡ true) same t
  | inr t ↦ passes_first p ys x rest (subst (λ b. cond b (y ∷ filter p ys) (filter p ys) ≡ x ∷ rest) t e)
]

-- two tests that pass one element alone, the same
none_both : {A : Type 0} (a b : A → Bool) (xs : List A) → filter a xs ≡ [] → filter b xs ≡ [] → AllByRecursion (λ q. a q ≡ b q) xs
none_both a b [] e f = tt
none_both a b (y ∷ ys) e f = at (a y) (b y) refl refl e f (none_both a b ys)
  where
    at : (s t : Bool) → a y ≡ s → b y ≡ t → cond s (y ∷ filter a ys) (filter a ys) ≡ [] → cond t (y ∷ filter b ys) (filter b ys) ≡ []
        → (filter a ys ≡ [] → filter b ys ≡ [] → AllByRecursion (λ q. a q ≡ b q) ys) → AllByRecursion (λ q. a q ≡ b q) (y ∷ ys)
    at true t g h e f rec = absurd cc
    at false true g h e f rec = absurd cc
    at false false g h e f rec = (g ∙ sym h, rec e f)

one_both : {A : Type 0} (a b : A → Bool) (xs : List A) (x : A) → filter a xs ≡ x ∷ [] → filter b xs ≡ x ∷ [] → AllByRecursion (λ q. a q ≡ b q) xs
one_both a b [] x e f = tt
one_both {A} a b (y ∷ ys) x e f = at (a y) (b y) refl refl e f (one_both a b ys x)
  where
    at : (s t : Bool) → a y ≡ s → b y ≡ t → cond s (y ∷ filter a ys) (filter a ys) ≡ x ∷ [] → cond t (y ∷ filter b ys) (filter b ys) ≡ x ∷ []
        → (filter a ys ≡ x ∷ [] → filter b ys ≡ x ∷ [] → AllByRecursion (λ q. a q ≡ b q) ys) → AllByRecursion (λ q. a q ≡ b q) (y ∷ ys)
    at true true g h e f rec =
        let rest : filter a ys ≡ [] = cc in
        let rest2 : filter b ys ≡ [] = cc in
        (g ∙ sym h, none_both a b ys rest rest2)
    at true false g h e f rec =
        let same : y ≡ x = cc in
        let passes : b x ≡ true = passes_first b ys x [] f in
        let fails : b x ≡ false = subst (λ (z : A). b z ≡ false) same h in
        absurd cc
    at false true g h e f rec =
        let same : y ≡ x = cc in
        let passes : a x ≡ true = passes_first a ys x [] e in
        let fails : a x ≡ false = subst (λ (z : A). a z ≡ false) same g in
        absurd cc
    at false false g h e f rec = (g ∙ sym h, rec e f)

-- an element that is there and passes a test which few pass is the only one to pass it
no_elements : {A : Type 0} (xs : List A) → length xs ≤ 0 → xs ≡ []
no_elements [] e = refl
no_elements (x ∷ xs) e = absurd (omega arith)

only_one : {A : Type 0} (a p : A → Bool) (xs : List A) (x : A) → filter a xs ≡ x ∷ [] → p x ≡ true → length (filter p xs) ≤ 1 → filter p xs ≡ x ∷ []
only_one a p [] x e t few = absurd cc
only_one {A} a p (y ∷ ys) x e t few = at (a y) (p y) refl refl e few (only_one a p ys x)
  where
    at : (s r : Bool) → a y ≡ s → p y ≡ r → cond s (y ∷ filter a ys) (filter a ys) ≡ x ∷ [] → length (cond r (y ∷ filter p ys) (filter p ys)) ≤ 1
        → (filter a ys ≡ x ∷ [] → p x ≡ true → length (filter p ys) ≤ 1 → filter p ys ≡ x ∷ []) → cond r (y ∷ filter p ys) (filter p ys) ≡ x ∷ []
    at true true g h e few rec =
        let same : y ≡ x = cc in
        let none : filter p ys ≡ [] = no_elements (filter p ys) (omega arith) in
        λ i. same i ∷ none i
    at true false g h e few rec =
        let same : y ≡ x = cc in
        let fails : p x ≡ false = subst (λ (z : A). p z ≡ false) same h in
        absurd cc
    at false true g h e few rec =
        let one : filter p ys ≡ x ∷ [] = rec e t (omega arith) in
        let count : length (filter p ys) ≡ 1 = ap length one in
        absurd (omega arith)
    at false false g h e few rec = rec e t few

found_in_filter : {A : Type 0} (p : A → Bool) (xs : List A) (x : A) (rest : List A) → filter p xs ≡ x ∷ rest → find p xs ≡ Some x
found_in_filter p [] x rest e = absurd cc
found_in_filter p (y ∷ ys) x rest e = at (p y) e (found_in_filter p ys x rest)
  where
    at : (b : Bool) → cond b (y ∷ filter p ys) (filter p ys) ≡ x ∷ rest → (filter p ys ≡ x ∷ rest → find p ys ≡ Some x) → cond b (Some y) (find p ys) ≡ Some x
    at true e rec = let same : y ≡ x = cc in ap (λ z. Some z) same
    at false e rec = rec e

pub found_any : {A : Type 0} (p : A → Bool) (xs : List A) (x : A) → find p xs ≡ Some x → list_any p xs ≡ true
found_any p [] x e = absurd cc
found_any p (y ∷ ys) x e = at (p y) e (found_any p ys x)
  where
    at : (b : Bool) → cond b (Some y) (find p ys) ≡ Some x → (find p ys ≡ Some x → list_any p ys ≡ true) → (b || list_any p ys) ≡ true
    at true e rec = refl
    at false e rec = rec e

pub none_found : {A : Type 0} (p : A → Bool) (xs : List A) → list_any p xs ≡ false → find p xs ≡ None
none_found p [] e = refl
none_found p (y ∷ ys) e = at (p y) e (none_found p ys)
  where
    at : (b : Bool) → (b || list_any p ys) ≡ false → (list_any p ys ≡ false → find p ys ≡ None) → cond b (Some y) (find p ys) ≡ None
    at true e rec = absurd cc
    at false e rec = rec e

-- ---- the observer that passes a test which few pass, by its slot

agree : (test : Observer → Bool) (t : Places) (slot : ℕ) (p : Place) → IsAt slot p t → test p.observer ≡ true → length (filter test (observers_in t)) ≤ 1
    → AllByRecursion (λ q. (slot == q.slot) ≡ test q.observer) t.list
agree test t slot p at passes few =
    let count : length (filter test (observers_in t)) ≡ length (filter (λ q. test q.observer) t.list)
    = ap length (filter-map test (λ (q : Place). q.observer) t.list) ∙ length-map (filter (λ q. test q.observer) t.list) (λ (q : Place). q.observer) in
    let one : filter (λ q. test q.observer) t.list ≡ p ∷ [] = only_one (λ q. slot == q.slot) (λ q. test q.observer) t.list p at passes (omega arith) in
    one_both (λ q. slot == q.slot) (λ q. test q.observer) t.list p at one

changed_one : (test : Observer → Bool) (f : Observer → Observer) (slot : ℕ) (ps : List Place) → AllByRecursion (λ q. (slot == q.slot) ≡ test q.observer) ps
    → map (λ (q : Place). q.observer) (map (changed_in slot f) ps) ≡ map (where_so test f) (map (λ (q : Place). q.observer) ps)
changed_one test f slot [] h = refl
changed_one test f slot (q ∷ qs) h =
    let here : (changed_in slot f q).observer ≡ where_so test f q.observer = at (slot == q.slot) (test q.observer) h.0 in
    λ i. here i ∷ changed_one test f slot qs h.1 i
  where
    at : (b c : Bool) → b ≡ c → (cond b (record q { observer = f q.observer }) q).observer ≡ cond c (f q.observer) q.observer
    at true true e = refl
    at true false e = absurd cc
    at false true e = absurd cc
    at false false e = refl

removed_one : (test : Observer → Bool) (slot : ℕ) (ps : List Place) → AllByRecursion (λ q. (slot == q.slot) ≡ test q.observer) ps
    → map (λ (q : Place). q.observer) (filter (λ q. not (slot == q.slot)) ps) ≡ filter (λ w. not (test w)) (map (λ (q : Place). q.observer) ps)
removed_one test slot [] h = refl
removed_one test slot (q ∷ qs) h = at (slot == q.slot) (test q.observer) h.0 (removed_one test slot qs h.1)
  where
    at : (b c : Bool) → b ≡ c → map (λ (r : Place). r.observer) (filter (λ r. not (slot == r.slot)) qs) ≡ filter (λ w. not (test w)) (map (λ (r : Place). r.observer) qs)
        → map (λ (r : Place). r.observer) (cond (not b) (q ∷ filter (λ r. not (slot == r.slot)) qs) (filter (λ r. not (slot == r.slot)) qs))
        ≡ cond (not c) (q.observer ∷ filter (λ w. not (test w)) (map (λ (r : Place). r.observer) qs)) (filter (λ w. not (test w)) (map (λ (r : Place). r.observer) qs))
    at true true e rest = rest
    at true false e rest = absurd cc
    at false true e rest = absurd cc
    at false false e rest = ap (λ l. q.observer ∷ l) rest

pub changed_unique : (test : Observer → Bool) (f : Observer → Observer) (t : Places) (slot : ℕ) (p : Place) → IsAt slot p t → test p.observer ≡ true
    → length (filter test (observers_in t)) ≤ 1 → observers_in (with_change slot f t) ≡ map (where_so test f) (observers_in t)
changed_unique test f t slot p at passes few = changed_one test f slot t.list (agree test t slot p at passes few)

pub removed_unique : (test : Observer → Bool) (t : Places) (slot : ℕ) (p : Place) → IsAt slot p t → test p.observer ≡ true
    → length (filter test (observers_in t)) ≤ 1 → observers_in (without_slot slot t) ≡ filter (λ w. not (test w)) (observers_in t)
removed_unique test t slot p at passes few = removed_one test slot t.list (agree test t slot p at passes few)

pub found_unique : (test : Observer → Bool) (t : Places) (slot : ℕ) (p : Place) → IsAt slot p t → test p.observer ≡ true
    → length (filter test (observers_in t)) ≤ 1 → find test (observers_in t) ≡ Some p.observer
found_unique test t slot p at passes few =
    let count : length (filter test (observers_in t)) ≡ length (filter (λ q. test q.observer) t.list)
    = ap length (filter-map test (λ (q : Place). q.observer) t.list) ∙ length-map (filter (λ q. test q.observer) t.list) (λ (q : Place). q.observer) in
    let one : filter (λ q. test q.observer) t.list ≡ p ∷ [] = only_one (λ q. slot == q.slot) (λ q. test q.observer) t.list p at passes (omega arith) in
    find-map test (λ (q : Place). q.observer) t.list ∙ ap (option_map (λ (q : Place). q.observer)) (found_in_filter (λ q. test q.observer) t.list p [] one)

-- ---- the first observer that passes a test, by its slot

untouched : (f : Observer → Observer) (slot : ℕ) (ps : List Place) → filter (λ q. slot == q.slot) ps ≡ []
    → map (λ (q : Place). q.observer) (map (changed_in slot f) ps) ≡ map (λ (q : Place). q.observer) ps
untouched f slot [] h = refl
untouched f slot (q ∷ qs) h = at (slot == q.slot) h (untouched f slot qs)
  where
    at : (b : Bool) → cond b (q ∷ filter (λ r. slot == r.slot) qs) (filter (λ r. slot == r.slot) qs) ≡ []
        → (filter (λ r. slot == r.slot) qs ≡ [] → map (λ (r : Place). r.observer) (map (changed_in slot f) qs) ≡ map (λ (r : Place). r.observer) qs)
        → (cond b (record q { observer = f q.observer }) q).observer ∷ map (λ (r : Place). r.observer) (map (changed_in slot f) qs) ≡ q.observer ∷ map (λ (r : Place). r.observer) qs
    at true h rec = absurd cc
    at false h rec = ap (λ l. q.observer ∷ l) (rec h)

first_changed : (test : Observer → Bool) (f : Observer → Observer) (slot : ℕ) (ps : List Place) (p : Place) → filter (λ q. slot == q.slot) ps ≡ p ∷ []
    → find (λ q. test q.observer) ps ≡ Some p
    → map (λ (q : Place). q.observer) (map (changed_in slot f) ps) ≡ with_first test f (map (λ (q : Place). q.observer) ps)
first_changed test f slot [] p at found = absurd cc
first_changed test f slot (q ∷ qs) p at found = go (slot == q.slot) (test q.observer) refl refl at found (first_changed test f slot qs p) (untouched f slot qs)
  where
    go : (b c : Bool) → (slot == q.slot) ≡ b → test q.observer ≡ c
        → cond b (q ∷ filter (λ r. slot == r.slot) qs) (filter (λ r. slot == r.slot) qs) ≡ p ∷ [] → cond c (Some q) (find (λ r. test r.observer) qs) ≡ Some p
        → (filter (λ r. slot == r.slot) qs ≡ p ∷ [] → find (λ r. test r.observer) qs ≡ Some p
        → map (λ (r : Place). r.observer) (map (changed_in slot f) qs) ≡ with_first test f (map (λ (r : Place). r.observer) qs))
        → (filter (λ r. slot == r.slot) qs ≡ [] → map (λ (r : Place). r.observer) (map (changed_in slot f) qs) ≡ map (λ (r : Place). r.observer) qs)
        → (cond b (record q { observer = f q.observer }) q).observer ∷ map (λ (r : Place). r.observer) (map (changed_in slot f) qs)
        ≡ cond c (f q.observer ∷ map (λ (r : Place). r.observer) qs) (q.observer ∷ with_first test f (map (λ (r : Place). r.observer) qs))
    go true true g h at found rec rest =
        let none : filter (λ r. slot == r.slot) qs ≡ [] = cc in
        ap (λ l. f q.observer ∷ l) (rest none)
    go true false g h at found rec rest =
        let same : q ≡ p = cc in
        let passes : test p.observer ≡ true = found_passes (λ (r : Place). test r.observer) qs p found in
        let fails : test p.observer ≡ false = subst (λ (z : Place). test z.observer ≡ false) same h in
        absurd cc
    go false true g h at found rec rest =
        let same : q ≡ p = cc in
        let passes : (slot == p.slot) ≡ true = passes_first (λ (r : Place). slot == r.slot) qs p [] at in
        let fails : (slot == p.slot) ≡ false = subst (λ (z : Place). (slot == z.slot) ≡ false) same g in
        absurd cc
    go false false g h at found rec rest = ap (λ l. q.observer ∷ l) (rec at found)

pub changed_first : (test : Observer → Bool) (f : Observer → Observer) (t : Places) (slot : ℕ) (p : Place) → IsAt slot p t → find (λ q. test q.observer) t.list ≡ Some p
    → observers_in (with_change slot f t) ≡ with_first test f (observers_in t)
changed_first test f t slot p at found = first_changed test f slot t.list p at found

pub found_observer : (test : Observer → Bool) (t : Places) (p : Place) → find (λ q. test q.observer) t.list ≡ Some p → find test (observers_in t) ≡ Some p.observer
found_observer test t p found = find-map test (λ (q : Place). q.observer) t.list ∙ ap (option_map (λ (q : Place). q.observer)) found

-- ---- all observers are changed

pub changed_all : (f : Observer → Observer) (t : Places) → observers_in (with_changes f t) ≡ map f (observers_in t)
changed_all f t =
    map_twice (λ (q : Place). q.observer) (changed_place f) t.list ∙ sym (map_twice f (λ (q : Place). q.observer) t.list)

-- ---- an observer of those that pass a test is taken away, and all of them later

gone_anyway : (test : Observer → Bool) (slot : ℕ) (ps : List Place) → AllByRecursion (λ q. (slot == q.slot) ≡ true → test q.observer ≡ true) ps
    → filter (λ w. not (test w)) (map (λ (q : Place). q.observer) (filter (λ q. not (slot == q.slot)) ps)) ≡ filter (λ w. not (test w)) (map (λ (q : Place). q.observer) ps)
gone_anyway test slot [] h = refl
gone_anyway test slot (q ∷ qs) h = at (slot == q.slot) (test q.observer) refl refl h.0 (gone_anyway test slot qs h.1)
  where
    at : (b c : Bool) → (slot == q.slot) ≡ b → test q.observer ≡ c → ((slot == q.slot) ≡ true → test q.observer ≡ true)
        → filter (λ w. not (test w)) (map (λ (r : Place). r.observer) (filter (λ r. not (slot == r.slot)) qs)) ≡ filter (λ w. not (test w)) (map (λ (r : Place). r.observer) qs)
        → filter (λ w. not (test w)) (map (λ (r : Place). r.observer) (cond (not b) (q ∷ filter (λ r. not (slot == r.slot)) qs) (filter (λ r. not (slot == r.slot)) qs)))
        ≡ cond (not c) (q.observer ∷ filter (λ w. not (test w)) (map (λ (r : Place). r.observer) qs)) (filter (λ w. not (test w)) (map (λ (r : Place). r.observer) qs))
    at true true g e h rec = rec
    at true false g e h rec = let passes : test q.observer ≡ true = h g in absurd cc
    at false c g e h rec =
        ap (λ t. cond (not t) (q.observer ∷ filter (λ w. not (test w)) (map (λ (r : Place). r.observer) (filter (λ r. not (slot == r.slot)) qs)))
        (filter (λ w. not (test w)) (map (λ (r : Place). r.observer) (filter (λ r. not (slot == r.slot)) qs)))) e
        ∙ ap (λ l. cond (not c) (q.observer ∷ l) l) rec

each_with : (slot : ℕ) (test : Observer → Bool) (ps : List Place) (p : Place) → filter (λ q. slot == q.slot) ps ≡ p ∷ [] → test p.observer ≡ true
    → AllByRecursion (λ q. (slot == q.slot) ≡ true → test q.observer ≡ true) ps
each_with slot test ps p at passes =
    weaker ps (one_both (λ q. slot == q.slot) (λ q. (slot == q.slot) && test q.observer) ps p at
    (only_one (λ q. slot == q.slot) (λ q. (slot == q.slot) && test q.observer) ps p at both_pass (few ps (omega (arith, ap length at)))))
  where
    both_pass : ((slot == p.slot) && test p.observer) ≡ true
    both_pass = ap (λ b. b && test p.observer) (passes_first (λ (q : Place). slot == q.slot) ps p [] at) ∙ passes

    few : (qs : List Place) → length (filter (λ q. slot == q.slot) qs) ≤ 1 → length (filter (λ q. (slot == q.slot) && test q.observer) qs) ≤ 1
    few qs le = omega (arith, count_weaker (λ q. (slot == q.slot) && test q.observer) (λ q. slot == q.slot) (λ q e. (both (slot == q.slot) (test q.observer) e).0) qs)

    weaker : (qs : List Place) → AllByRecursion (λ q. (slot == q.slot) ≡ ((slot == q.slot) && test q.observer)) qs
        → AllByRecursion (λ q. (slot == q.slot) ≡ true → test q.observer ≡ true) qs
    weaker [] h = tt
    weaker (q ∷ qs) h = ((λ e. (both (slot == q.slot) (test q.observer) (sym h.0 ∙ e)).1), weaker qs h.1)

pub removed_of_many : (test : Observer → Bool) (t : Places) (slot : ℕ) (p : Place) → IsAt slot p t → test p.observer ≡ true
    → filter (λ w. not (test w)) (observers_in (without_slot slot t)) ≡ filter (λ w. not (test w)) (observers_in t)
removed_of_many test t slot p at passes = gone_anyway test slot t.list (each_with slot test t.list p at passes)

-- and fewer are left
pub fewer_left : (t : Places) (slot : ℕ) (p : Place) → IsAt slot p t → length (without_slot slot t).list < length t.list
fewer_left t slot p at =
    fewer (λ (q : Place). slot == q.slot) (λ q. not (slot == q.slot)) t.list p (found_in_filter (λ (q : Place). slot == q.slot) t.list p [] at)
    (ap not (passes_first (λ (q : Place). slot == q.slot) t.list p [] at))

-- an element that passes no test is kept
pub all_stay : (test : Observer → Bool) (ws : List Observer) → list_any test ws ≡ false → filter (λ w. not (test w)) ws ≡ ws
all_stay test [] e = refl
all_stay test (w ∷ ws) e = at (test w) e (all_stay test ws)
  where
    at : (b : Bool) → (b || list_any test ws) ≡ false → (list_any test ws ≡ false → filter (λ v. not (test v)) ws ≡ ws)
        → cond (not b) (w ∷ filter (λ v. not (test v)) ws) (filter (λ v. not (test v)) ws) ≡ w ∷ ws
    at true e rec = absurd cc
    at false e rec = ap (λ l. w ∷ l) (rec e)

-- whether one was found
any_member : (p : Place → Bool) (slot : ℕ) (ps : List Place) (q : Place) → filter (λ r. slot == r.slot) ps ≡ q ∷ [] → p q ≡ true → list_any p ps ≡ true
any_member p slot [] q at passes = absurd cc
any_member p slot (r ∷ rs) q at passes = go (slot == r.slot) at (any_member p slot rs q)
  where
    first : (a b : Bool) → a ≡ true → (a || b) ≡ true
    first true b e = refl
    first false b e = absurd cc

    later : (a b : Bool) → b ≡ true → (a || b) ≡ true
    later true b e = refl
    later false b e = e

    go : (b : Bool) → cond b (r ∷ filter (λ z. slot == z.slot) rs) (filter (λ z. slot == z.slot) rs) ≡ q ∷ []
        → (filter (λ z. slot == z.slot) rs ≡ q ∷ [] → p q ≡ true → list_any p rs ≡ true) → (p r || list_any p rs) ≡ true
    go true at rec =
        let it : r ≡ q = cc in
        first (p r) (list_any p rs) (ap p it ∙ passes)
    go false at rec = later (p r) (list_any p rs) (rec at passes)

any_observer : (test : Observer → Bool) (ps : List Place) → list_any test (map (λ (q : Place). q.observer) ps) ≡ list_any (λ (q : Place). test q.observer) ps
any_observer test [] = refl
any_observer test (q ∷ qs) = ap (λ b. test q.observer || b) (any_observer test qs)

pub was_found : (test : Observer → Bool) (t : Places) (r : Option ℕ) → Finds test t r → is_some r ≡ list_any test (observers_in t)
was_found test t None none = sym none
was_found test t (Some slot) found =
    sym (any_observer test t.list ∙ any_member (λ (q : Place). test q.observer) slot t.list found.0 found.1 found.2)
