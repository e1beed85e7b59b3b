-- Invocations whose ids rise: what a binary search finds, and what keeps the order.
use Rattle.std.proofs.Common.{◌≡◌, ℕ, zero, suc, ◌+◌, ◌<◌, ◌≤◌, List, [], ◌∷◌, ◌++◌, length, get_or, Bool, true, false, cond, not, refl, sym, ap, subst, inl, inr, ◌∙◌, arith}
use Rattle.std.specs.Prelude.{Option, Some, None, ◌==◌, ◌&&◌, nat_lt}
use Rattle.std.specs.List.{AllByRecursion, HoldsAt, position, position_or_len}
use Rattle.std.specs.List.Sorted.{IsNonDecreasingBy, IsPartitionPoint}
use Rattle.std.specs.Ordering.{nat_cmp, ordering_index, is_eq, is_lt}
use Rattle.std.specs.Cmp.{unsigned_ties}
use Rattle.std.specs.declared.cmp.Ordering.{Ordering}
use Rattle.std.specs.declared.cmp.Ordering.TheVariants.{Less, Equal, Greater}
use Rattle.std.proofs.lemmas.Bool.{cases_lt}
use Rattle.std.proofs.lemmas.Bool.Decides.{nat_tests}
use Rattle.std.proofs.lemmas.Cmp.{nat_cmp_total}
use Rattle.std.proofs.lemmas.List.Sorted.{searchable_from_sorted}
use Rattle.std.proofs.lemmas.List.Quantifiers.{position-Some}
use Rattle.thing_state.specs.State.{Invocation, completed, is_running, invocation_named, with_completed, without_invocation, without_oldest_completed}
use Rattle.thing_state.specs.Ids.{IdsRise, AreCounted}
use Rattle.thing_state.proofs.InvocationLists.{none_found}

-- ---- the order at any two places

-- one after others that are all above an id
later_id : (n : ℕ) (xs : List Invocation) (i : ℕ) (d : Invocation) → AllByRecursion (λ j. n < j.id) xs → i < length xs → n < (get_or xs i d).id
later_id n [] i d all within = absurd (omega arith)
later_id n (x ∷ xs) zero d all within = all.0
later_id n (x ∷ xs) (suc i) d all within = later_id n xs i d all.1 (omega arith)

-- each is below each later one
earlier_id : (xs : List Invocation) → IdsRise xs → (i j : ℕ) (d : Invocation) → i < j → j < length xs → (get_or xs i d).id < (get_or xs j d).id
earlier_id [] rise i j d below within = absurd (omega arith)
earlier_id (x ∷ xs) rise i zero d below within = absurd (omega arith)
earlier_id (x ∷ xs) rise zero (suc j) d below within = later_id x.id xs j d rise.0 (omega arith)
earlier_id (x ∷ xs) rise (suc i) (suc j) d below within = earlier_id xs rise.1 i j d (omega arith) (omega arith)

-- ---- a binary search

-- the order of an invocation and the id that is looked for
abbrev pub id_order : ℕ → Invocation → Ordering
id_order id i = nat_cmp i.id id

not_lower : (x y : ℕ) → x < y → is_lt (nat_cmp y x) ≡ false
not_lower x y below = grind (arith, nat_tests)

comparisons_rise : (xs : List Invocation) (id : ℕ) → IdsRise xs → IsNonDecreasingBy (λ i. ordering_index (id_order id i)) xs
comparisons_rise xs id rise = searchable_from_sorted nat_cmp_total (λ (i : Invocation). i.id) xs id
    (λ i d low within. not_lower (get_or xs i d).id (get_or xs (i + 1) d).id (earlier_id xs rise i (i + 1) d (omega arith) within))

-- it has that id
test_of : (x id : ℕ) (o : Ordering) → nat_cmp x id ≡ o → (x == id) ≡ is_eq o
test_of x id o is = unsigned_ties x id ∙ ap is_eq is

differs : (x y id : ℕ) → x < y → nat_cmp y id ≡ Equal → (x == id) ≡ false
differs x y id below same = grind (arith, nat_tests)

-- the first place at which a test passes
place_is : (p : Invocation → Bool) (xs : List Invocation) (i : ℕ) (d : Invocation) → i < length xs → p (get_or xs i d) ≡ true → ((k : ℕ) → k < i → p (get_or xs k d) ≡ false) → position_or_len p xs ≡ i
place_is p [] i d within here before = absurd (omega arith)
place_is p (x ∷ xs) zero d within here before = rw here refl
place_is p (x ∷ xs) (suc i) d within here before =
    let further = place_is p xs i d (omega arith) here (λ k h. before (suc k) (omega arith)) in
    rw (before 0 (omega arith)) (omega (arith, further))

some_place : (p : Invocation → Bool) (xs : List Invocation) (i : ℕ) → i < length xs → position_or_len p xs ≡ i → Some i ≡ position p xs
some_place p xs i within is =
    let low : nat_lt i (length xs) ≡ true = grind (arith, nat_tests) in
    rw (is, low) refl

no_place : (p : Invocation → Bool) (xs : List Invocation) (d : Invocation) → ((k : ℕ) → k < length xs → p (get_or xs k d) ≡ false) → position_or_len p xs ≡ length xs
no_place p [] d none = refl
no_place p (x ∷ xs) d none =
    let further = no_place p xs d (λ k h. none (suc k) (omega arith)) in
    rw (none 0 (omega arith)) (omega (arith, further))

no_position : (p : Invocation → Bool) (xs : List Invocation) → position_or_len p xs ≡ length xs → None ≡ position p xs
no_position p xs is =
    let high : nat_lt (length xs) (length xs) ≡ false = grind (arith, nat_tests) in
    rw (is, high) refl

-- a search that ends at one
pub place_by_halving : (xs : List Invocation) (id i : ℕ) (d : Invocation) → IdsRise xs → i < length xs → HoldsAt (λ x. id_order id x ≡ Equal) xs i → Some i ≡ position (λ x. x.id == id) xs
place_by_halving xs id i d rise within equal =
    some_place (λ (x : Invocation). x.id == id) xs i within
    (place_is (λ (x : Invocation). x.id == id) xs i d within (test_of (get_or xs i d).id id Equal (equal d))
    (λ k below. differs (get_or xs k d).id (get_or xs i d).id id (earlier_id xs rise k i d below within) (equal d)))

-- a search that ends between two
pub no_place_by_halving : (xs : List Invocation) (id i : ℕ) (d : Invocation) → IdsRise xs
    → (IsNonDecreasingBy (λ x. ordering_index (id_order id x)) xs → IsPartitionPoint (λ x. id_order id x ≡ Less) (λ x. id_order id x ≡ Greater) xs i)
    → None ≡ position (λ x. x.id == id) xs
no_place_by_halving xs id i d rise parted =
    let parts = parted (comparisons_rise xs id rise) in
    no_position (λ (x : Invocation). x.id == id) xs
    (no_place (λ (x : Invocation). x.id == id) xs d (λ k within. elim (cases_lt k i) [
      | inl below ↦ test_of (get_or xs k d).id id Less (parts.0 k d (omega arith) below)
      | inr above ↦ test_of (get_or xs k d).id id Greater (parts.1 k d above within)
    ]))

-- ---- the invocation of an id

-- one of another id is passed over
passed_over : (slot id : ℕ) (x : Invocation) (xs : List Invocation) → (x.id == id) ≡ false → invocation_named slot id (x ∷ xs) ≡ invocation_named slot id xs
passed_over slot id x xs other = rw other (by_test (x.slot == slot))
  where
    by_test : (b : Bool) → cond (b && false) (Some x) (invocation_named slot id xs) ≡ invocation_named slot id xs
    by_test true = refl
    by_test false = refl

-- of those after one of this id none has it
none_later : (slot id n : ℕ) (xs : List Invocation) → (n == id) ≡ true → AllByRecursion (λ j. n < j.id) xs → invocation_named slot id xs ≡ None
none_later slot id n [] same all = refl
none_later slot id n (x ∷ xs) same all =
    let other : (x.id == id) ≡ false = grind (arith, nat_tests, same, all.0) in
    passed_over slot id x xs other ∙ none_later slot id n xs same all.1

-- the one at this place has this id
named_from : (slot id : ℕ) (xs : List Invocation) (i : ℕ) (d : Invocation) → IdsRise xs → i < length xs → ((get_or xs i d).id == id) ≡ true
    → invocation_named slot id xs ≡ cond ((get_or xs i d).slot == slot) (Some (get_or xs i d)) None
named_from slot id [] i d rise within here = absurd (omega arith)
named_from slot id (x ∷ xs) zero d rise within here = rw here (by_test (x.slot == slot))
  where
    by_test : (b : Bool) → cond (b && true) (Some x) (invocation_named slot id xs) ≡ cond b (Some x) None
    by_test true = refl
    by_test false = none_later slot id x.id xs here rise.0
named_from slot id (x ∷ xs) (suc i) d rise within here =
    let below : x.id < (get_or xs i d).id = later_id x.id xs i d rise.0 (omega arith) in
    let other : (x.id == id) ≡ false = grind (arith, nat_tests, below, here) in
    passed_over slot id x xs other ∙ named_from slot id xs i d rise.1 (omega arith) here

pub named_at : (slot id : ℕ) (xs : List Invocation) (i : ℕ) (x : Invocation) → IdsRise xs → Some i ≡ position (λ y. y.id == id) xs → x ≡ get_or xs i x
    → cond (x.slot == slot) (Some x) None ≡ invocation_named slot id xs
named_at slot id xs i x rise found at =
    let there = position-Some (λ (y : Invocation). y.id == id) xs i x (sym found) in
    ap (λ (y : Invocation). cond (y.slot == slot) (Some y) None) at ∙ sym (named_from slot id xs i x rise there.0 there.1)

-- where there is no place for an id, nothing is named so
pub none_named : (slot id : ℕ) (xs : List Invocation) → None ≡ position (λ y. y.id == id) xs → None ≡ invocation_named slot id xs
none_named slot id xs none = sym (past slot id xs (none_found (λ (y : Invocation). y.id == id) xs (sym none)))
  where
    past : (slot id : ℕ) (xs : List Invocation) → length xs ≤ position_or_len (λ y. y.id == id) xs → invocation_named slot id xs ≡ None
    past slot id [] end = refl
    past slot id (x ∷ xs) end = by_test (past slot id xs) (x.id == id) refl end
      where
        by_test : (length xs ≤ position_or_len (λ y. y.id == id) xs → invocation_named slot id xs ≡ None)
            → (b : Bool) → (x.id == id) ≡ b → suc (length xs) ≤ cond (not b) (1 + position_or_len (λ y. y.id == id) xs) 0 → invocation_named slot id (x ∷ xs) ≡ None
        by_test rest true e p = absurd (omega (arith, p))
        by_test rest false e p = passed_over slot id x xs e ∙ rest (omega (arith, p))

-- ---- what keeps the order

all_without : (P : Invocation → Type 0) (id : ℕ) (xs : List Invocation) → AllByRecursion P xs → AllByRecursion P (without_invocation id xs)
all_without P id [] all = tt
all_without P id (x ∷ xs) all = by_test (all_without P id xs all.1) (x.id == id)
  where
    by_test : AllByRecursion P (without_invocation id xs) → (b : Bool) → AllByRecursion P (cond b xs (x ∷ without_invocation id xs))
    by_test rest true = all.1
    by_test rest false = (all.0, rest)

rise_without : (id : ℕ) (xs : List Invocation) → IdsRise xs → IdsRise (without_invocation id xs)
rise_without id [] rise = tt
rise_without id (x ∷ xs) rise = by_test (rise_without id xs rise.1) (x.id == id)
  where
    by_test : IdsRise (without_invocation id xs) → (b : Bool) → IdsRise (cond b xs (x ∷ without_invocation id xs))
    by_test rest true = rise.1
    by_test rest false = (all_without (λ (j : Invocation). x.id < j.id) id xs rise.0, rest)

pub counted_without : (next id : ℕ) (xs : List Invocation) → AreCounted next xs → AreCounted next (without_invocation id xs)
counted_without next id xs counted = (rise_without id xs counted.0, all_without (λ (i : Invocation). i.id < next) id xs counted.1)

all_without_oldest : (P : Invocation → Type 0) (xs : List Invocation) → AllByRecursion P xs → AllByRecursion P (without_oldest_completed xs)
all_without_oldest P [] all = tt
all_without_oldest P (x ∷ xs) all = by_test (all_without_oldest P xs all.1) (is_running x)
  where
    by_test : AllByRecursion P (without_oldest_completed xs) → (b : Bool) → AllByRecursion P (cond b (x ∷ without_oldest_completed xs) xs)
    by_test rest true = (all.0, rest)
    by_test rest false = all.1

rise_without_oldest : (xs : List Invocation) → IdsRise xs → IdsRise (without_oldest_completed xs)
rise_without_oldest [] rise = tt
rise_without_oldest (x ∷ xs) rise = by_test (rise_without_oldest xs rise.1) (is_running x)
  where
    by_test : IdsRise (without_oldest_completed xs) → (b : Bool) → IdsRise (cond b (x ∷ without_oldest_completed xs) xs)
    by_test rest true = (all_without_oldest (λ (j : Invocation). x.id < j.id) xs rise.0, rest)
    by_test rest false = rise.1

pub counted_without_oldest : (next : ℕ) (xs : List Invocation) → AreCounted next xs → AreCounted next (without_oldest_completed xs)
counted_without_oldest next xs counted = (rise_without_oldest xs counted.0, all_without_oldest (λ (i : Invocation). i.id < next) xs counted.1)

all_completed : (P : ℕ → Type 0) (id : ℕ) (output : Option (List ℕ)) (xs : List Invocation) → AllByRecursion (λ i. P i.id) xs → AllByRecursion (λ i. P i.id) (with_completed id output xs)
all_completed P id output [] all = tt
all_completed P id output (x ∷ xs) all = by_test (all_completed P id output xs all.1) (x.id == id)
  where
    by_test : AllByRecursion (λ i. P i.id) (with_completed id output xs)
        → (b : Bool) → AllByRecursion (λ i. P i.id) (cond b (record x { status = completed output } ∷ xs) (x ∷ with_completed id output xs))
    by_test rest true = all
    by_test rest false = (all.0, rest)

rise_completed : (id : ℕ) (output : Option (List ℕ)) (xs : List Invocation) → IdsRise xs → IdsRise (with_completed id output xs)
rise_completed id output [] rise = tt
rise_completed id output (x ∷ xs) rise = by_test (rise_completed id output xs rise.1) (x.id == id)
  where
    by_test : IdsRise (with_completed id output xs) → (b : Bool) → IdsRise (cond b (record x { status = completed output } ∷ xs) (x ∷ with_completed id output xs))
    by_test rest true = rise
    by_test rest false = (all_completed (λ (n : ℕ). x.id < n) id output xs rise.0, rest)

pub counted_completed : (next id : ℕ) (output : Option (List ℕ)) (xs : List Invocation) → AreCounted next xs → AreCounted next (with_completed id output xs)
counted_completed next id output xs counted = (rise_completed id output xs counted.0, all_completed (λ (n : ℕ). n < next) id output xs counted.1)

-- a further one with the next id
all_and_last : (P : Invocation → Type 0) (x : Invocation) (xs : List Invocation) → AllByRecursion P xs → P x → AllByRecursion P (xs ++ x ∷ [])
all_and_last P x [] all last = (last, tt)
all_and_last P x (y ∷ xs) all last = (all.0, all_and_last P x xs all.1 last)

rise_and_last : (x : Invocation) (xs : List Invocation) → IdsRise xs → AllByRecursion (λ i. i.id < x.id) xs → IdsRise (xs ++ x ∷ [])
rise_and_last x [] rise below = (tt, tt)
rise_and_last x (y ∷ xs) rise below = (all_and_last (λ (j : Invocation). y.id < j.id) x xs rise.0 below.0, rise_and_last x xs rise.1 below.1)

all_below_more : (next : ℕ) (xs : List Invocation) → AllByRecursion (λ i. i.id < next) xs → AllByRecursion (λ i. i.id < next + 1) xs
all_below_more next [] all = tt
all_below_more next (x ∷ xs) all = (omega (arith, all.0), all_below_more next xs all.1)

-- the next id was used
pub counted_on : (next : ℕ) (xs : List Invocation) → AreCounted next xs → AreCounted (next + 1) xs
counted_on next xs counted = (counted.0, all_below_more next xs counted.1)

pub counted_and_last : (next : ℕ) (x : Invocation) (xs : List Invocation) → x.id ≡ next → AreCounted next xs → AreCounted (next + 1) (xs ++ x ∷ [])
counted_and_last next x xs same counted = (
  rise_and_last x xs counted.0 (subst (λ (n : ℕ). AllByRecursion (λ i. i.id < n) xs) (sym same) counted.1),
  all_and_last (λ (i : Invocation). i.id < next + 1) x xs (all_below_more next xs counted.1) (omega (arith, same)),
)
