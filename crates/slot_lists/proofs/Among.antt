-- The slots of a list, and how a slot more or fewer changes them.
use Rattle.std.proofs.Common.{if◌then◌else◌, ◌≡◌, ◌==◌, ◌||◌, ◌⊎◌, ℕ, Bool, true, false, not, List, [], ◌∷◌, ◌++◌, length, get_or, set, inl, inr, refl, ap, subst, ◌∙◌, ◌<◌, ◌≤◌, arith, eqb}
use Rattle.std.specs.List.{AllByRecursion, IsDistinct}
use Rattle.std.proofs.lemmas.Bool.Decides.{nat_tests, eqb_tells}
use Rattle.std.proofs.lemmas.List.{get_or-set_same, get_or-set_other, set_past}
use Rattle.std.proofs.lemmas.Map.Steps.{length-le_from_distinct_below}
use Rattle.std.proofs.lemmas.Bool.{cases_lt}
use Rattle.slot_lists.specs.Lists.{is_among, without}
use Rattle.slot_lists.specs.Links.{AreDistinct}

-- ---- one of two tests

pub neither : (a b : Bool) → (a || b) ≡ false → (a ≡ false) × (b ≡ false)
neither true b e = absurd cc
neither false b e = (refl, e)

pub either : (a b : Bool) → (a || b) ≡ true → (a ≡ true) ⊎ (b ≡ true)
either true b e = inl refl
either false b e = inr e

or_left : (a b : Bool) → a ≡ true → (a || b) ≡ true
or_left true b e = refl
or_left false b e = absurd cc

or_right : (a b : Bool) → b ≡ true → (a || b) ≡ true
or_right true b e = refl
or_right false b e = e

-- ---- equal slots

pub same_slot : (slot : ℕ) → (slot == slot) ≡ true
same_slot slot = grind (arith, nat_tests)

pub is_same : (a b : ℕ) → (a == b) ≡ true → a ≡ b
is_same a b e = grind (arith, nat_tests)

pub differ : (a b : ℕ) → (a ≡ b → ⊥) → (a == b) ≡ false
differ a b h = elim (eqb_tells a b) [ inl w ↦ absurd (h w.1) | inr w ↦ w.0 ]

pub turned : (a b : ℕ) → (a == b) ≡ false → (b == a) ≡ false
turned a b e = grind (arith, nat_tests)

-- ---- members

pub among_first : (slot : ℕ) (slots : List ℕ) → is_among slot (slot ∷ slots) ≡ true
among_first slot slots = or_left (slot == slot) (is_among slot slots) (same_slot slot)

pub among_rest : (slot other : ℕ) (slots : List ℕ) → is_among slot slots ≡ true → is_among slot (other ∷ slots) ≡ true
among_rest slot other slots h = or_right (slot == other) (is_among slot slots) h

-- one that is in a list, and one that isn't, are two
pub not_the_same : (a b : ℕ) (slots : List ℕ) → is_among a slots ≡ true → is_among b slots ≡ false → (a == b) ≡ false
not_the_same a b slots has hasnt = differ a b (λ e. let h : is_among b slots ≡ true = subst (λ x. is_among x slots ≡ true) e has in absurd cc)

-- ---- one slot more

pub among_push : (slot other : ℕ) (slots : List ℕ) → is_among slot (slots ++ other ∷ []) ≡ true → (is_among slot slots ≡ true) ⊎ (slot ≡ other)
among_push slot other [] h = elim (either (slot == other) false h) [ inl e ↦ inr (is_same slot other e) | inr e ↦ inl e ]
among_push slot other (x ∷ xs) h = elim (either (slot == x) (is_among slot (xs ++ other ∷ [])) h) [
  | inl e ↦ inl (or_left (slot == x) (is_among slot xs) e)
  | inr e ↦ elim (among_push slot other xs e) [ inl m ↦ inl (or_right (slot == x) (is_among slot xs) m) | inr m ↦ inr m ]
]

none_push : (slot other : ℕ) (slots : List ℕ) → is_among slot slots ≡ false → (slot == other) ≡ false → is_among slot (slots ++ other ∷ []) ≡ false
none_push slot other [] h e = rw e refl
none_push slot other (x ∷ xs) h e =
    let split : ((slot == x) ≡ false) × (is_among slot xs ≡ false) = neither (slot == x) (is_among slot xs) h in
    rw split.0 (none_push slot other xs split.1 e)

pub distinct_push : (slot : ℕ) (slots : List ℕ) → AreDistinct slots → is_among slot slots ≡ false → AreDistinct (slots ++ slot ∷ [])
distinct_push slot [] d h = (refl, tt)
distinct_push slot (x ∷ xs) d h =
    let split : ((slot == x) ≡ false) × (is_among slot xs ≡ false) = neither (slot == x) (is_among slot xs) h in
    (none_push x slot xs d.0 (turned slot x split.0), distinct_push slot xs d.1 split.1)

-- ---- one slot fewer

pub without_absent : (slot : ℕ) (slots : List ℕ) → is_among slot slots ≡ false → without slot slots ≡ slots
without_absent slot [] h = refl
without_absent slot (x ∷ xs) h =
    let split : ((slot == x) ≡ false) × (is_among slot xs ≡ false) = neither (slot == x) (is_among slot xs) h in
    rw split.0 (ap (λ l. x ∷ l) (without_absent slot xs split.1))

among_kept : (slot other x : ℕ) (b : Bool) (kept xs : List ℕ) → (is_among slot kept ≡ true → is_among slot xs ≡ true)
    → is_among slot (if b then x ∷ kept else kept) ≡ true → is_among slot (x ∷ xs) ≡ true
among_kept slot other x true kept xs rec h = elim (either (slot == x) (is_among slot kept) h) [
  | inl e ↦ or_left (slot == x) (is_among slot xs) e
  | inr e ↦ or_right (slot == x) (is_among slot xs) (rec e)
]
among_kept slot other x false kept xs rec h = or_right (slot == x) (is_among slot xs) (rec h)

pub among_without : (slot other : ℕ) (slots : List ℕ) → is_among slot (without other slots) ≡ true → is_among slot slots ≡ true
among_without slot other [] h = h
among_without slot other (x ∷ xs) h = among_kept slot other x (not (other == x)) (without other xs) xs (among_without slot other xs) h

none_kept : (slot x : ℕ) (b : Bool) (kept : List ℕ) → (slot == x) ≡ false → is_among slot kept ≡ false → is_among slot (if b then x ∷ kept else kept) ≡ false
none_kept slot x true kept e h = rw e h
none_kept slot x false kept e h = h

none_without : (slot other : ℕ) (slots : List ℕ) → is_among slot slots ≡ false → is_among slot (without other slots) ≡ false
none_without slot other [] h = refl
none_without slot other (x ∷ xs) h =
    let split : ((slot == x) ≡ false) × (is_among slot xs ≡ false) = neither (slot == x) (is_among slot xs) h in
    none_kept slot x (not (other == x)) (without other xs) split.0 (none_without slot other xs split.1)

distinct_kept : (x : ℕ) (b : Bool) (kept : List ℕ) → is_among x kept ≡ false → AreDistinct kept → AreDistinct (if b then x ∷ kept else kept)
distinct_kept x true kept h d = (h, d)
distinct_kept x false kept h d = d

pub distinct_without : (slot : ℕ) (slots : List ℕ) → AreDistinct slots → AreDistinct (without slot slots)
distinct_without slot [] d = tt
distinct_without slot (x ∷ xs) d = distinct_kept x (not (slot == x)) (without slot xs) (none_without x slot xs d.0) (distinct_without slot xs d.1)

-- ---- how many there are

all_differ : (x : ℕ) (xs : List ℕ) → is_among x xs ≡ false → AllByRecursion (λ y. eqb x y ≡ false) xs
all_differ x [] h = tt
all_differ x (y ∷ ys) h =
    let split : ((x == y) ≡ false) × (is_among x ys ≡ false) = neither (x == y) (is_among x ys) h in
    (split.0, all_differ x ys split.1)

are_distinct : (xs : List ℕ) → AreDistinct xs → IsDistinct eqb xs
unfolding IsDistinct
are_distinct [] d = tt
are_distinct (x ∷ xs) d = (all_differ x xs d.0, are_distinct xs d.1)

pub at_most_capacity : (capacity : ℕ) (slots : List ℕ) → AreDistinct slots → ((slot : ℕ) → is_among slot slots ≡ true → slot < capacity) → length slots ≤ capacity
at_most_capacity capacity slots d below = length-le_from_distinct_below slots capacity (are_distinct slots d) below

-- ---- a list of lists of which one is another

pub among_set : (slot i list : ℕ) (new : List ℕ) (lists : List (List ℕ)) → is_among slot (get_or (set lists list new) i []) ≡ true
    → (is_among slot (get_or lists i []) ≡ true) ⊎ ((i ≡ list) × (is_among slot new ≡ true))
among_set slot i list new lists h = elim (eqb_tells i list) [
  | inl w ↦ elim (cases_lt list (length lists)) [
    | inl within ↦ inr (w.1, subst (λ l. is_among slot l ≡ true) (ap (λ n. get_or (set lists list new) n []) w.1 ∙ get_or-set_same lists list new [] within) h)
    | inr past ↦ inl (subst (λ l. is_among slot (get_or l i []) ≡ true) (set_past lists list new past) h)
  ]
  | inr w ↦ inl (subst (λ l. is_among slot l ≡ true) (get_or-set_other lists list i new [] w.1) h)
]
