-- Binary search among values whose names ascend, and the value that it finds.
use Rattle.std.proofs.Common.{◌≡◌, ℕ, zero, suc, ◌+◌, ◌<◌, List, [], ◌∷◌, length, get_or, map, refl, sym, ap, inl, inr, ◌∙◌, arith, cond}
use Rattle.std.specs.Prelude.{Option, Some, None, false}
use Rattle.std.specs.Str.{bytes_eq}
use Rattle.std.specs.Ordering.{nat_cmp, ordering_index, ordering_reverse, is_eq, is_lt}
use Rattle.std.specs.declared.cmp.Ordering.{Ordering}
use Rattle.std.specs.declared.cmp.Ordering.TheVariants.{Less, Equal, Greater}
use Rattle.std.specs.Cmp.Lexicographic.{slice_cmp, nat_list_cmp_total}
use Rattle.std.specs.List.{HoldsAt, AllByRecursion}
use Rattle.std.specs.List.Sorted.{IsStrictlySortedBy, IsNonDecreasingBy, IsPartitionPoint}
use Rattle.std.proofs.lemmas.Bool.{cases_lt}
use Rattle.std.proofs.lemmas.Cmp.{alike_right}
use Rattle.std.proofs.lemmas.List.Sorted.{searchable_from_sorted}
use Rattle.std.proofs.lemmas.Map.Keys.{sorted_head, sorted_tail}
use Rattle.std.proofs.lemmas.Map.Text.{is_eq-slice_cmp}
use Rattle.std.proofs.lemmas.Slice.Eq.{bytes_eq-Decides}

-- the first value under a name, where there is one
abbrev pub first_under : {V : Type 0} → List ℕ → List (List ℕ × V) → Option V
first_under name [] = None
first_under name (e ∷ es) = cond (bytes_eq name e.0) (Some e.1) (first_under name es)

-- the names ascend
abbrev pub Ascend : {X : Type 0} → (X → List ℕ) → List X → Type 0
Ascend name_of xs = IsStrictlySortedBy (slice_cmp nat_cmp) (map name_of xs)

-- each later name is after one that is before all of them
later_after : {X : Type 0} (name_of : X → List ℕ) (name : List ℕ) (xs : List X) → AllByRecursion (λ n. slice_cmp nat_cmp name n ≡ Less) (map name_of xs) → (k : ℕ) (d : X) → k < length xs → slice_cmp nat_cmp name (name_of (get_or xs k d)) ≡ Less
later_after name_of name [] before k d within = absurd (omega arith)
later_after name_of name (x ∷ xs) before zero d within = before.0
later_after name_of name (x ∷ xs) before (suc k) d within = later_after name_of name xs before.1 k d (omega arith)

-- the first name is before each later one
first_before : {X : Type 0} (name_of : X → List ℕ) (x : X) (xs : List X) → Ascend name_of (x ∷ xs) → (k : ℕ) (d : X) → k < length xs → slice_cmp nat_cmp (name_of x) (name_of (get_or xs k d)) ≡ Less
first_before name_of x xs ascend = later_after name_of (name_of x) xs (sorted_head (slice_cmp nat_cmp) (name_of x) (map name_of xs) ascend)

-- the names after the first ascend
rest_ascend : {X : Type 0} (name_of : X → List ℕ) (x : X) (xs : List X) → Ascend name_of (x ∷ xs) → Ascend name_of xs
rest_ascend name_of x xs ascend = sorted_tail (slice_cmp nat_cmp) (name_of x) (map name_of xs) ascend

-- each name is before later ones
earlier_before : {X : Type 0} (name_of : X → List ℕ) (xs : List X) → Ascend name_of xs → (i j : ℕ) (d : X) → i < j → j < length xs → slice_cmp nat_cmp (name_of (get_or xs i d)) (name_of (get_or xs j d)) ≡ Less
earlier_before name_of [] ascend i j d below within = absurd (omega arith)
earlier_before name_of (x ∷ xs) ascend i zero d below within = absurd (omega arith)
earlier_before name_of (x ∷ xs) ascend zero (suc j) d below within = first_before name_of x xs ascend j d (omega arith)
earlier_before name_of (x ∷ xs) ascend (suc i) (suc j) d below within = earlier_before name_of xs (rest_ascend name_of x xs ascend) i j d (omega arith) (omega arith)

-- the order of a name to the one that is looked for
abbrev pub order_of : {X : Type 0} → (X → List ℕ) → List ℕ → X → Ordering
order_of name_of name x = slice_cmp nat_cmp (name_of x) name

-- the comparisons rise, as a binary search asks
comparisons_rise : {X : Type 0} (name_of : X → List ℕ) (xs : List X) (name : List ℕ) → Ascend name_of xs → IsNonDecreasingBy (λ x. ordering_index (order_of name_of name x)) xs
comparisons_rise name_of xs name ascend = searchable_from_sorted nat_list_cmp_total name_of xs name
    (λ k d low within. ap is_lt (nat_list_cmp_total.antisymm (name_of (get_or xs (k + 1) d)) (name_of (get_or xs k d)) ∙ ap ordering_reverse (earlier_before name_of xs ascend k (k + 1) d (omega arith) within)))

-- the test of the name against one that it compares to
eq_from_cmp : (other name : List ℕ) (o : Ordering) → slice_cmp nat_cmp other name ≡ o → bytes_eq name other ≡ is_eq (ordering_reverse o)
eq_from_cmp other name o is = sym (is_eq-slice_cmp name other) ∙ ap is_eq (nat_list_cmp_total.antisymm name other ∙ ap ordering_reverse is)

-- the value at a place with this name is found
found_at : {X V : Type 0} (name_of : X → List ℕ) (value_of : X → V) (xs : List X) (name : List ℕ) (k : ℕ) (d : X) → Ascend name_of xs → k < length xs → order_of name_of name (get_or xs k d) ≡ Equal
    → Some (value_of (get_or xs k d)) ≡ first_under name (map (λ x. (name_of x, value_of x)) xs)
found_at name_of value_of [] name k d ascend within same = absurd (omega arith)
found_at name_of value_of (x ∷ xs) name zero d ascend within same = rw (eq_from_cmp (name_of x) name Equal same)
found_at name_of value_of (x ∷ xs) name (suc k) d ascend within same =
    let less : slice_cmp nat_cmp (name_of x) name ≡ Less = sym (alike_right nat_list_cmp_total (name_of (get_or xs k d)) name (name_of x) same) ∙ first_before name_of x xs ascend k d (omega arith) in
    rw (eq_from_cmp (name_of x) name Less less) (found_at name_of value_of xs name k d (rest_ascend name_of x xs ascend) (omega arith) same)

-- a name that compares to none as equal is not found
none_found : {X V : Type 0} (name_of : X → List ℕ) (value_of : X → V) (xs : List X) (name : List ℕ) (d : X)
    → ((k : ℕ) → k < length xs → (o : Ordering) × (order_of name_of name (get_or xs k d) ≡ o) × (is_eq (ordering_reverse o) ≡ false))
    → None ≡ first_under name (map (λ x. (name_of x, value_of x)) xs)
none_found name_of value_of [] name d others = refl
none_found name_of value_of (x ∷ xs) name d others =
    let first = others 0 (omega arith) in
    rw (eq_from_cmp (name_of x) name first.0 first.1 ∙ first.2) (none_found name_of value_of xs name d (λ k within. others (suc k) (omega arith)))

-- a search that ends at an entry found the value of this name
pub found_by_halving : {X V : Type 0} (name_of : X → List ℕ) (value_of : X → V) (xs slice : List X) (name : List ℕ) (k : ℕ) (x : X) → slice ≡ xs → Ascend name_of xs
    → k < length slice → HoldsAt (λ y. order_of name_of name y ≡ Equal) slice k → x ≡ get_or xs k x → Some (value_of x) ≡ first_under name (map (λ y. (name_of y, value_of y)) xs)
found_by_halving name_of value_of xs slice name k x slice_is ascend within equal x_is =
    let same : order_of name_of name (get_or xs k x) ≡ Equal = rw slice_is at (equal x) in
    ap (λ y. Some (value_of y)) x_is ∙ found_at name_of value_of xs name k x ascend (rw slice_is at within) same

-- and that entry has this very name
pub name_by_halving : {X : Type 0} (name_of : X → List ℕ) (xs slice : List X) (name : List ℕ) (k : ℕ) (x : X) → slice ≡ xs
    → HoldsAt (λ y. order_of name_of name y ≡ Equal) slice k → x ≡ get_or xs k x → name_of x ≡ name
name_by_halving name_of xs slice name k x slice_is equal x_is =
    let same : order_of name_of name (get_or xs k x) ≡ Equal = rw slice_is at (equal x) in
    ap name_of x_is ∙ sym ((bytes_eq-Decides name (name_of (get_or xs k x))).0 (eq_from_cmp (name_of (get_or xs k x)) name Equal same))

-- one that ends between two entries found that none has this name
pub missing_by_halving : {X V : Type 0} (name_of : X → List ℕ) (value_of : X → V) (xs slice : List X) (name : List ℕ) (i : ℕ) → slice ≡ xs → Ascend name_of xs
    → (IsNonDecreasingBy (λ y. ordering_index (order_of name_of name y)) slice → IsPartitionPoint (λ y. order_of name_of name y ≡ Less) (λ y. order_of name_of name y ≡ Greater) slice i)
    → None ≡ first_under name (map (λ y. (name_of y, value_of y)) xs)
missing_by_halving name_of value_of [] slice name i slice_is ascend parted = refl
missing_by_halving {X} name_of value_of (d ∷ rest) slice name i slice_is ascend parted =
    let xs : List X = d ∷ rest in
    let parts = parted (rw slice_is (comparisons_rise name_of xs name ascend)) in
    none_found name_of value_of xs name d (λ k within. elim (cases_lt k i) [
      | inl below ↦ (Less, rw slice_is at (parts.0 k d (omega arith) below), refl)
      | inr above ↦ (Greater, rw slice_is at (parts.1 k d above (rw slice_is within)), refl)
    ])
