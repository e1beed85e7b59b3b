-- The affordance that a binary search finds among affordances that rise.
use Rattle.std.proofs.Common.{◌≡◌, ℕ, zero, suc, ◌+◌, ◌<◌, ◌≤◌, List, [], ◌∷◌, length, get_or, true, false, refl, sym, ap, inl, inr, ◌∙◌, arith}
use Rattle.std.specs.Prelude.{Some, None, slice_get, min, ◌&&◌}
use Rattle.std.specs.Str.{bytes_eq}
use Rattle.std.specs.Ordering.{nat_cmp, ordering_index, ordering_reverse, ordering_then, is_eq, is_lt}
use Rattle.std.specs.declared.cmp.Ordering.{Ordering}
use Rattle.std.specs.declared.cmp.Ordering.TheVariants.{Less, Equal, Greater}
use Rattle.std.specs.Cmp.Lexicographic.{slice_cmp, nat_list_cmp_total}
use Rattle.std.specs.List.{HoldsAt}
use Rattle.std.specs.List.Sorted.{IsNonDecreasingBy, IsPartitionPoint}
use Rattle.std.proofs.lemmas.Bool.{cases_lt}
use Rattle.std.proofs.lemmas.List.Sorted.{searchable_from_sorted}
use Rattle.std.proofs.lemmas.Cmp.{alike_right}
use Rattle.std.proofs.lemmas.Map.Text.{is_eq-slice_cmp}
use Rattle.wot_terms.specs.declared.kind.Kind.{Kind}
use Rattle.wot_terms.specs.declared.kind.Kind.TheVariants as kind
use Rattle.wot_terms.specs.declared.affordance.Affordance.{Affordance}
use Rattle.thing_site.specs.Site.{Placed, is_kind, affordance_named}
use Rattle.thing_site.specs.Exposing.{placed_all}
use Rattle.thing_site.specs.Order.{key, key_of, are_rising}
use Rattle.thing_site.proofs.RisingLaws.{AreRising, from_test}

abbrev placed_by : Affordance → ℕ → Placed
placed_by a slot = record { affordance = a; slot = slot }

-- the first is before each later one
first_before : (a : Affordance) (list : List Affordance) → AreRising (a ∷ list) → (i : ℕ) (d : Affordance) → i < length list → slice_cmp nat_cmp (key_of a) (key_of (get_or list i d)) ≡ Less
first_before a [] rising i d within = absurd (omega arith)
first_before a (b ∷ list) rising zero d within = rising.0
first_before a (b ∷ list) rising (suc i) d within =
    nat_list_cmp_total.trans (key_of a) (key_of b) (key_of (get_or list i d)) rising.0 (first_before b list rising.1 i d (omega arith))

rest_rising : (a : Affordance) (list : List Affordance) → AreRising (a ∷ list) → AreRising list
rest_rising a [] rising = tt
rest_rising a (b ∷ list) rising = rising.1

-- each is before each later one
earlier_before : (list : List Affordance) → AreRising list → (i j : ℕ) (d : Affordance) → i < j → j < length list → slice_cmp nat_cmp (key_of (get_or list i d)) (key_of (get_or list j d)) ≡ Less
earlier_before [] rising i j d below within = absurd (omega arith)
earlier_before (a ∷ list) rising i zero d below within = absurd (omega arith)
earlier_before (a ∷ list) rising zero (suc j) d below within = first_before a list rising j d (omega arith)
earlier_before (a ∷ list) rising (suc i) (suc j) d below within = earlier_before list (rest_rising a list rising) i j d (omega arith) (omega arith)

-- keys compare by their ranks first
pub then_by_name : (x y : ℕ) (m n : List ℕ) → Equal ≡ nat_cmp x y → slice_cmp nat_cmp m n ≡ slice_cmp nat_cmp (x ∷ m) (y ∷ n)
then_by_name x y m n same = ap (λ (o : Ordering). ordering_then o (slice_cmp nat_cmp m n)) same

pub by_rank : (x y : ℕ) (m n : List ℕ) (o : Ordering) → ¬ (o ≡ Equal) → o ≡ nat_cmp x y → o ≡ slice_cmp nat_cmp (x ∷ m) (y ∷ n)
by_rank x y m n Less other is = ap (λ (o : Ordering). ordering_then o (slice_cmp nat_cmp m n)) is
by_rank x y m n Greater other is = ap (λ (o : Ordering). ordering_then o (slice_cmp nat_cmp m n)) is
by_rank x y m n Equal other is = absurd (other refl)

-- the order of one and the one that is looked for
abbrev pub order_of : Kind → List ℕ → Affordance → Ordering
order_of k name a = slice_cmp nat_cmp (key_of a) (key k name)

comparisons_rise : (list : List Affordance) (k : Kind) (name : List ℕ) → AreRising list → IsNonDecreasingBy (λ a. ordering_index (order_of k name a)) list
comparisons_rise list k name rising = searchable_from_sorted nat_list_cmp_total key_of list (key k name)
    (λ i d low within. ap is_lt (nat_list_cmp_total.antisymm (key_of (get_or list (i + 1) d)) (key_of (get_or list i d)) ∙ ap ordering_reverse (earlier_before list rising i (i + 1) d (omega arith) within)))

-- the test of one against the one that is looked for
test_of_names : (m name : List ℕ) (o : Ordering) → slice_cmp nat_cmp m name ≡ o → bytes_eq name m ≡ is_eq (ordering_reverse o)
test_of_names m name o is = sym (is_eq-slice_cmp name m) ∙ ap is_eq (nat_list_cmp_total.antisymm name m ∙ ap ordering_reverse is)

test_of_keys : (k l : Kind) (name m : List ℕ) (o : Ordering) → slice_cmp nat_cmp (key l m) (key k name) ≡ o → (is_kind k l && bytes_eq name m) ≡ is_eq (ordering_reverse o)
test_of_keys kind.Property kind.Property name m o is = test_of_names m name o is
test_of_keys kind.Action kind.Action name m o is = test_of_names m name o is
test_of_keys kind.Event kind.Event name m o is = test_of_names m name o is
test_of_keys k l name m o is = ap (λ (x : Ordering). is_eq (ordering_reverse x)) is

test_of : (k : Kind) (name : List ℕ) (a : Affordance) (o : Ordering) → order_of k name a ≡ o → (is_kind k a.kind && bytes_eq name a.name) ≡ is_eq (ordering_reverse o)
test_of k name a o is = test_of_keys k a.kind name a.name o is

-- the one at a place that compares as equal is found, with its slot
found_at : (list : List Affordance) (slots : List ℕ) (k : Kind) (name : List ℕ) (i : ℕ) (d : Affordance) → AreRising list → i < length list → order_of k name (get_or list i d) ≡ Equal
    → slice_get (placed_all list slots) i ≡ affordance_named k name (placed_all list slots)
found_at [] slots k name i d rising within same = absurd (omega arith)
found_at (a ∷ list) [] k name i d rising within same = refl
found_at (a ∷ list) (s ∷ slots) k name zero d rising within same = rw (test_of k name a Equal same) refl
found_at (a ∷ list) (s ∷ slots) k name (suc i) d rising within same =
    let less : order_of k name a ≡ Less = sym (alike_right nat_list_cmp_total (key_of (get_or list i d)) (key k name) (key_of a) same) ∙ first_before a list rising i d (omega arith) in
    rw (test_of k name a Less less) (found_at list slots k name i d (rest_rising a list rising) (omega arith) same)

-- where none compares as equal, none is found
none_found : (list : List Affordance) (slots : List ℕ) (k : Kind) (name : List ℕ) (d : Affordance) → ((i : ℕ) → i < length list → (o : Ordering) × (order_of k name (get_or list i d) ≡ o) × (is_eq (ordering_reverse o) ≡ false))
    → None ≡ affordance_named k name (placed_all list slots)
none_found [] slots k name d others = refl
none_found (a ∷ list) [] k name d others = refl
none_found (a ∷ list) (s ∷ slots) k name d others =
    let first = others 0 (omega arith) in
    rw (test_of k name a first.0 first.1 ∙ first.2) (none_found list slots k name d (λ i within. others (suc i) (omega arith)))

-- a search that ends at one
pub found_by_halving : (list : List Affordance) (slots : List ℕ) (k : Kind) (name : List ℕ) (i : ℕ) (d : Affordance) → are_rising list ≡ true → i < length list → HoldsAt (λ b. order_of k name b ≡ Equal) list i
    → slice_get (placed_all list slots) i ≡ affordance_named k name (placed_all list slots)
found_by_halving list slots k name i d rising within equal = found_at list slots k name i d (from_test list rising) within (equal d)

-- a search that ends between two
pub missing_by_halving : (list : List Affordance) (slots : List ℕ) (k : Kind) (name : List ℕ) (i : ℕ) (d : Affordance) → are_rising list ≡ true
    → (IsNonDecreasingBy (λ b. ordering_index (order_of k name b)) list → IsPartitionPoint (λ b. order_of k name b ≡ Less) (λ b. order_of k name b ≡ Greater) list i)
    → None ≡ affordance_named k name (placed_all list slots)
missing_by_halving list slots k name i d rising parted =
    let parts = parted (comparisons_rise list k name (from_test list rising)) in
    none_found list slots k name d (λ j within. elim (cases_lt j i) [
      | inl below ↦ (Less, parts.0 j d (omega arith) below, refl)
      | inr above ↦ (Greater, parts.1 j d above within, refl)
    ])

-- ---- affordances with their slots, by number

pub spot_here : (list : List Affordance) (slots : List ℕ) (i : ℕ) (a : Affordance) → i < length list → i < length slots → a ≡ get_or list i a → Some (placed_by a (get_or slots i 0)) ≡ slice_get (placed_all list slots) i
spot_here [] slots i a within among is = absurd (omega arith)
spot_here (b ∷ list) [] i a within among is = absurd (omega arith)
spot_here (b ∷ list) (s ∷ slots) zero a within among is = ap (λ (x : Affordance). Some (placed_by x s)) is
spot_here (b ∷ list) (s ∷ slots) (suc i) a within among is = spot_here list slots i a (omega arith) (omega arith) is

pub no_spot : (list : List Affordance) (slots : List ℕ) (i : ℕ) → min (length list) (length slots) ≤ i → None ≡ slice_get (placed_all list slots) i
no_spot [] slots i past = refl
no_spot (a ∷ list) [] i past = refl
no_spot (a ∷ list) (s ∷ slots) zero past = absurd (omega arith)
no_spot (a ∷ list) (s ∷ slots) (suc i) past = no_spot list slots i (omega arith)

pub as_many_slots : (list : List Affordance) (slots : List ℕ) → length slots ≤ length list → length slots ≡ length (placed_all list slots)
as_many_slots [] [] fewer = refl
as_many_slots [] (s ∷ slots) fewer = absurd (omega arith)
as_many_slots (a ∷ list) [] fewer = refl
as_many_slots (a ∷ list) (s ∷ slots) fewer = ap suc (as_many_slots list slots (omega arith))

pub as_many_affordances : (list : List Affordance) (slots : List ℕ) → length list ≤ length slots → length list ≡ length (placed_all list slots)
as_many_affordances [] slots fewer = refl
as_many_affordances (a ∷ list) [] fewer = absurd (omega arith)
as_many_affordances (a ∷ list) (s ∷ slots) fewer = ap suc (as_many_affordances list slots (omega arith))
