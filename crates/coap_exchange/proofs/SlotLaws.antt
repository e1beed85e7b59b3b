-- Lists of slots: their members, and the way in which they are dealt to lists by a number.
use Rattle.std.proofs.Common.{◌≡◌, ◌≢◌, ◌⊎◌, ◌+◌, ◌≤◌, ◌<◌, ◌==◌, ℕ, zero, suc, Bool, true, false, cond, not, List, [], ◌∷◌, ◌++◌, length, get_or, set, Some, inl, inr, ◌∙◌, sym, refl, ap, subst, arith}
use Rattle.std.specs.Prelude.{All}
use Rattle.std.specs.List.{filter, find}
use Rattle.std.proofs.lemmas.Bool.Decides.{nat_tests, eqb_tells}
use Rattle.std.proofs.lemmas.List.{get_or-set_same, get_or-set_other, get_or_past, length-set, append-nil}
use Rattle.std.proofs.lemmas.Bool.{cases_lt}
use Rattle.std.proofs.lemmas.List.Elements.{filter-append}
use Rattle.slot_lists.specs.Lists.{is_among, without}
use Rattle.slot_lists.proofs.Counts.{times_without_same, uncounted_is_absent}
use Rattle.slot_lists.proofs.Among.{either, is_same, among_first, among_rest, without_absent}
use Rattle.coap_exchange.specs.Slots.{AreDealt}

pub turned_test : (a b : ℕ) → (a == b) ≡ (b == a)
turned_test a b = grind (arith, nat_tests)

-- ---- members

pub among_at : (xs : List ℕ) (k d : ℕ) → k < length xs → is_among (get_or xs k d) xs ≡ true
among_at [] k d h = absurd (omega arith)
among_at (x ∷ xs) zero d h = among_first x xs
among_at (x ∷ xs) (suc k) d h = among_rest (get_or xs k d) x xs (among_at xs k d (omega arith))

-- a member that isn't this slot
pub not_at : (slot : ℕ) (xs : List ℕ) → is_among slot xs ≡ false → (k d : ℕ) → k < length xs → get_or xs k d ≢ slot
not_at slot xs hasnt k d h e =
    let has : is_among slot xs ≡ true = subst (λ n. is_among n xs ≡ true) e (among_at xs k d h) in
    cc

pub not_this : (slot : ℕ) (xs : List ℕ) → is_among slot xs ≡ false → (s : ℕ) → is_among s xs ≡ true → s ≢ slot
not_this slot xs hasnt s m e = let has : is_among slot xs ≡ true = subst (λ n. is_among n xs ≡ true) e m in cc

-- a fact of each member, by its place and by itself
pub at_member : (P : ℕ → Type 0) (xs : List ℕ) → All P xs → (s : ℕ) → is_among s xs ≡ true → P s
at_member P [] h s m = absurd cc
at_member P (x ∷ xs) h s m = elim (either (s == x) (is_among s xs) m) [
  | inl e ↦ subst P (sym (is_same s x e)) (h 0 x (omega arith))
  | inr later ↦ at_member P xs (λ k d below. h (suc k) d (omega arith)) s later
]

-- ---- filters

filter_both_at : (p q : ℕ → Bool) (x : ℕ) (xs : List ℕ) (b c : Bool) → p x ≡ b → q x ≡ c → filter p (filter q xs) ≡ filter q (filter p xs)
    → filter p (cond c (x ∷ filter q xs) (filter q xs)) ≡ filter q (cond b (x ∷ filter p xs) (filter p xs))
filter_both_at p q x xs true true e f h = rw (e, f) (ap (λ l. x ∷ l) h)
filter_both_at p q x xs true false e f h = rw f h
filter_both_at p q x xs false true e f h = rw e h
filter_both_at p q x xs false false e f h = h

pub filters_commute : (p q : ℕ → Bool) (xs : List ℕ) → filter p (filter q xs) ≡ filter q (filter p xs)
filters_commute p q [] = refl
filters_commute p q (x ∷ xs) = filter_both_at p q x xs (p x) (q x) refl refl (filters_commute p q xs)

kept_same : (x : ℕ) (xs ys : List ℕ) (b c : Bool) → b ≡ c → xs ≡ ys → cond b (x ∷ xs) xs ≡ cond c (x ∷ ys) ys
kept_same x xs ys b c e h = cc

pub filter_same_at : (p q : ℕ → Bool) (xs : List ℕ) → ((s : ℕ) → is_among s xs ≡ true → p s ≡ q s) → filter p xs ≡ filter q xs
filter_same_at p q [] h = refl
filter_same_at p q (x ∷ xs) h =
    kept_same x (filter p xs) (filter q xs) (p x) (q x) (h x (among_first x xs)) (filter_same_at p q xs (λ s m. h s (among_rest s x xs m)))

among_filter_at : (p : ℕ → Bool) (s x : ℕ) (kept xs : List ℕ) (b : Bool) → p x ≡ b → (is_among s kept ≡ true → (p s ≡ true) × (is_among s xs ≡ true))
    → is_among s (cond b (x ∷ kept) kept) ≡ true → (p s ≡ true) × (is_among s (x ∷ xs) ≡ true)
among_filter_at p s x kept xs true t rec h = elim (either (s == x) (is_among s kept) h) [
  | inl e ↦ let same : s ≡ x = is_same s x e in (ap p same ∙ t, subst (λ n. is_among n (x ∷ xs) ≡ true) (sym same) (among_first x xs))
  | inr m ↦ ((rec m).0, among_rest s x xs (rec m).1)
]
among_filter_at p s x kept xs false t rec h = ((rec h).0, among_rest s x xs (rec h).1)

pub among_filter : (p : ℕ → Bool) (s : ℕ) (xs : List ℕ) → is_among s (filter p xs) ≡ true → (p s ≡ true) × (is_among s xs ≡ true)
among_filter p s [] h = absurd cc
among_filter p s (x ∷ xs) h = among_filter_at p s x (filter p xs) xs (p x) refl (among_filter p s xs) h

filter_has_at : (p : ℕ → Bool) (s x : ℕ) (kept : List ℕ) (b : Bool) → p x ≡ b → p s ≡ true → (s ≡ x) ⊎ (is_among s kept ≡ true) → is_among s (cond b (x ∷ kept) kept) ≡ true
filter_has_at p s x kept true t e (inl same) = subst (λ n. is_among n (x ∷ kept) ≡ true) (sym same) (among_first x kept)
filter_has_at p s x kept true t e (inr m) = among_rest s x kept m
filter_has_at p s x kept false t e (inl same) = let passes : p x ≡ true = subst (λ n. p n ≡ true) same e in absurd cc
filter_has_at p s x kept false t e (inr m) = m

pub filter_has : (p : ℕ → Bool) (s : ℕ) (xs : List ℕ) → is_among s xs ≡ true → p s ≡ true → is_among s (filter p xs) ≡ true
filter_has p s [] m e = absurd cc
filter_has p s (x ∷ xs) m e = elim (either (s == x) (is_among s xs) m) [
  | inl same ↦ filter_has_at p s x (filter p xs) (p x) refl e (inl (is_same s x same))
  | inr later ↦ filter_has_at p s x (filter p xs) (p x) refl e (inr (filter_has p s xs later e))
]

-- a search among some finds what a search among all finds, where only those can pass
find_at : (p : ℕ → Bool) (x : ℕ) (kept xs : List ℕ) (b c : Bool) → p x ≡ b → (b ≡ true → c ≡ true) → find p kept ≡ find p xs
    → find p (cond c (x ∷ kept) kept) ≡ cond b (Some x) (find p xs)
find_at p x kept xs true true t w e = rw t refl
find_at p x kept xs true false t w e = let wrong : false ≡ true = w refl in cc
find_at p x kept xs false true t w e = rw t e
find_at p x kept xs false false t w e = e

pub find_in_filter : (p q : ℕ → Bool) → ((s : ℕ) → p s ≡ true → q s ≡ true) → (xs : List ℕ) → find p (filter q xs) ≡ find p xs
find_in_filter p q w [] = refl
find_in_filter p q w (x ∷ xs) = find_at p x (filter q xs) xs (p x) (q x) refl (w x) (find_in_filter p q w xs)

-- ---- lists to which slots are dealt

pub dealt_without : (number : ℕ → ℕ) (first slot : ℕ) (slots : List ℕ) (lists : List (List ℕ))
    → AreDealt number first slots lists → AreDealt number first (without slot slots) (set lists (number slot) (without slot (get_or lists (number slot) [])))
dealt_without number first slot slots lists h i least below =
    let within : i < length lists = subst (λ n. i < n) (length-set lists (number slot) _) below in
    let had : get_or lists i [] ≡ filter (λ s. number s == i) slots = h i least within in
    let swapped : filter (λ s. number s == i) (without slot slots) ≡ without slot (filter (λ s. number s == i) slots)
    = filters_commute (λ s. number s == i) (λ other. not (slot == other)) slots in
    elim (eqb_tells i (number slot)) [
      | inl w ↦
          let here : number slot < length lists = subst (λ n. n < length lists) w.1 within in
          let read : get_or (set lists (number slot) (without slot (get_or lists (number slot) []))) i [] ≡ without slot (get_or lists i [])
          = ap (λ n. get_or (set lists (number slot) (without slot (get_or lists (number slot) []))) n []) w.1
          ∙ (get_or-set_same lists (number slot) _ [] here ∙ ap (λ n. without slot (get_or lists n [])) (sym w.1)) in
          read ∙ (ap (without slot) had ∙ sym swapped)
      | inr w ↦
          let other : (number slot == i) ≡ false = turned_test (number slot) i ∙ w.0 in
          let absent : is_among slot (filter (λ s. number s == i) slots) ≡ false = elim (either_way (is_among slot (filter (λ s. number s == i) slots))) [
            | inl yes_it_is ↦ let passes : (number slot == i) ≡ true = (among_filter (λ s. number s == i) slot slots yes_it_is).0 in absurd cc
            | inr isnt ↦ isnt
          ] in
          get_or-set_other lists (number slot) i _ [] w.1 ∙ (had ∙ (sym (without_absent slot (filter (λ s. number s == i) slots) absent) ∙ sym swapped))
    ]
  where
    either_way : (b : Bool) → (b ≡ true) ⊎ (b ≡ false)
    either_way true = inl refl
    either_way false = inr refl

pub dealt_push : (number number2 : ℕ → ℕ) (first slot : ℕ) (slots : List ℕ) (lists : List (List ℕ))
    → ((s : ℕ) → is_among s slots ≡ true → number2 s ≡ number s)
    → AreDealt number first slots lists → AreDealt number2 first (slots ++ slot ∷ []) (set lists (number2 slot) (get_or lists (number2 slot) [] ++ slot ∷ []))
dealt_push number number2 first slot slots lists same h i least below =
    let within : i < length lists = subst (λ n. i < n) (length-set lists (number2 slot) _) below in
    let had : get_or lists i [] ≡ filter (λ s. number2 s == i) slots
    = h i least within ∙ sym (filter_same_at (λ s. number2 s == i) (λ s. number s == i) slots (λ s m. ap (λ n. n == i) (same s m))) in
    let cut : filter (λ s. number2 s == i) (slots ++ slot ∷ []) ≡ filter (λ s. number2 s == i) slots ++ filter (λ s. number2 s == i) (slot ∷ [])
    = filter-append (λ s. number2 s == i) slots (slot ∷ []) in
    elim (eqb_tells i (number2 slot)) [
      | inl w ↦
          let here : number2 slot < length lists = subst (λ n. n < length lists) w.1 within in
          let passes : (number2 slot == i) ≡ true = turned_test (number2 slot) i ∙ w.0 in
          let one : filter (λ s. number2 s == i) (slot ∷ []) ≡ slot ∷ [] = rw passes refl in
          let read : get_or (set lists (number2 slot) (get_or lists (number2 slot) [] ++ slot ∷ [])) i [] ≡ get_or lists i [] ++ slot ∷ []
          = ap (λ n. get_or (set lists (number2 slot) (get_or lists (number2 slot) [] ++ slot ∷ [])) n []) w.1
          ∙ (get_or-set_same lists (number2 slot) _ [] here ∙ ap (λ n. get_or lists n [] ++ slot ∷ []) (sym w.1)) in
          read ∙ (ap (λ l. l ++ slot ∷ []) had ∙ sym (cut ∙ ap (λ l. filter (λ s. number2 s == i) slots ++ l) one))
      | inr w ↦
          let fails : (number2 slot == i) ≡ false = turned_test (number2 slot) i ∙ w.0 in
          let none : filter (λ s. number2 s == i) (slot ∷ []) ≡ [] = rw fails refl in
          get_or-set_other lists (number2 slot) i _ [] w.1
          ∙ (had ∙ sym (cut ∙ (ap (λ l. filter (λ s. number2 s == i) slots ++ l) none ∙ append-nil (filter (λ s. number2 s == i) slots))))
    ]

-- a list before the first of these is no matter
pub dealt_beside : (number : ℕ → ℕ) (first list : ℕ) (new slots : List ℕ) (lists : List (List ℕ)) → list < first
    → AreDealt number first slots lists → AreDealt number first slots (set lists list new)
dealt_beside number first list new slots lists before h i least below =
    let other : i ≢ list = omega arith in
    get_or-set_other lists list i new [] other ∙ h i least (subst (λ n. i < n) (length-set lists list new) below)

-- a slot that isn't dealt, or is dealt elsewhere, isn't in these lists
absent_at_list : (s : ℕ) (xs : List ℕ) (b : Bool) → is_among s xs ≡ b → (is_among s xs ≡ true → ⊥) → is_among s xs ≡ false
absent_at_list s xs true e h = absurd (h e)
absent_at_list s xs false e h = e

pub absent_when : (s : ℕ) (xs : List ℕ) → (is_among s xs ≡ true → ⊥) → is_among s xs ≡ false
absent_when s xs h = absent_at_list s xs (is_among s xs) refl h

pub absent_without : (slot : ℕ) (xs : List ℕ) → is_among slot (without slot xs) ≡ false
absent_without slot xs = uncounted_is_absent slot (without slot xs) (times_without_same slot xs)

pub dealt_elsewhere : (number : ℕ → ℕ) (first slot i : ℕ) (slots : List ℕ) (lists : List (List ℕ))
    → AreDealt number first slots lists → first ≤ i → (number slot ≡ i → is_among slot slots ≡ true → ⊥) → is_among slot (get_or lists i []) ≡ false
dealt_elsewhere number first slot i slots lists h least other = elim (cases_lt i (length lists)) [
  | inl within ↦ absent_when slot (get_or lists i []) (λ m.
      let both = among_filter (λ s. number s == i) slot slots (subst (λ l. is_among slot l ≡ true) (h i least within) m) in
      other (is_same (number slot) i both.0) both.1)
  | inr past ↦ ap (is_among slot) (get_or_past lists i [] past)
]
