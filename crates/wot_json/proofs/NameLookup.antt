-- Binary search among names in order, and the member that it finds.
use Rattle.std.proofs.Common.{◌≡◌, ℕ, zero, suc, ◌+◌, ◌<◌, List, [], ◌∷◌, length, get_or, Some, None, false, refl, sym, ap, inl, inr, ◌∙◌, arith}
use Rattle.std.specs.Str.{bytes_eq}
use Rattle.std.specs.Ordering.{nat_cmp, ordering_index, ordering_reverse, is_eq, is_lt}
use Rattle.std.specs.declared.cmp.Ordering.{Ordering}
use Rattle.std.specs.declared.cmp.Ordering.TheVariants.{Less, Equal, Greater}
use Rattle.std.specs.Cmp.Lexicographic.{slice_cmp, nat_list_cmp_total}
use Rattle.std.specs.List.{HoldsAt}
use Rattle.std.specs.List.Sorted.{IsNonDecreasingBy, IsPartitionPoint}
use Rattle.std.proofs.lemmas.Bool.{cases_lt}
use Rattle.std.proofs.lemmas.List.Sorted.{searchable_from_sorted}
use Rattle.std.proofs.lemmas.Cmp.{alike_right}
use Rattle.std.proofs.lemmas.Map.Text.{is_eq-slice_cmp}
use Rattle.wot_json.specs.Tree.{Json, AreOrdered}
use Rattle.wot_json.specs.Meaning.{json_of, json_members}
use Rattle.wot_json.specs.Cutting.{IsBefore}
use Rattle.wot_json.specs.Lookup.{member_named}
use Rattle.wot_json.specs.declared.tree.Tree.{Tree}
use Rattle.wot_json.specs.declared.tree.Tree.TheVariants as tree

abbrev Named : Type 0
Named = List ℕ × Tree

-- the first name is before that of each later member
pub first_before : (m : Named) (ms : List Named) → AreOrdered (json_members (m ∷ ms)) → (k : ℕ) (d : Named) → k < length ms → IsBefore m.0 (get_or ms k d).0
first_before m [] ordered k d within = absurd (omega arith)
first_before m (n ∷ ms) ordered zero d within = ordered.0
first_before m (n ∷ ms) ordered (suc k) d within =
    nat_list_cmp_total.trans m.0 n.0 (get_or ms k d).0 ordered.0 (first_before n ms ordered.1 k d (omega arith))

-- the members after the first are in order
pub rest_ordered : (m : Named) (ms : List Named) → AreOrdered (json_members (m ∷ ms)) → AreOrdered (json_members ms)
rest_ordered m [] ordered = tt
rest_ordered m (n ∷ ms) ordered = ordered.1

-- each name is before those of later members
pub earlier_before : (ms : List Named) → AreOrdered (json_members ms) → (i j : ℕ) (d : Named) → i < j → j < length ms → IsBefore (get_or ms i d).0 (get_or ms j d).0
earlier_before [] ordered i j d below within = absurd (omega arith)
earlier_before (m ∷ ms) ordered i zero d below within = absurd (omega arith)
earlier_before (m ∷ ms) ordered zero (suc j) d below within = first_before m ms ordered j d (omega arith)
earlier_before (m ∷ ms) ordered (suc i) (suc j) d below within = earlier_before ms (rest_ordered m ms ordered) i j d (omega arith) (omega arith)

-- the comparisons of the names with a name rise along the members, as a search by binary search asks
pub comparisons_rise : (ms : List Named) (name : List ℕ) → AreOrdered (json_members ms) → IsNonDecreasingBy (λ m. ordering_index (slice_cmp nat_cmp m.0 name)) ms
comparisons_rise ms name ordered = searchable_from_sorted nat_list_cmp_total (λ (m : Named). m.0) ms name
    (λ k d low within. ap is_lt (nat_list_cmp_total.antisymm (get_or ms (k + 1) d).0 (get_or ms k d).0 ∙ ap ordering_reverse (earlier_before ms ordered k (k + 1) d (omega arith) within)))

-- the test of a name against a member's that it compares to
eq_from_cmp : (m name : List ℕ) (o : Ordering) → slice_cmp nat_cmp m name ≡ o → bytes_eq name m ≡ is_eq (ordering_reverse o)
eq_from_cmp m name o is = sym (is_eq-slice_cmp name m) ∙ ap is_eq (nat_list_cmp_total.antisymm name m ∙ ap ordering_reverse is)

-- the member at a place with this name is found
pub found_at : (ms : List Named) (name : List ℕ) (k : ℕ) (d : Named) → AreOrdered (json_members ms) → k < length ms → slice_cmp nat_cmp (get_or ms k d).0 name ≡ Equal → Some (json_of (get_or ms k d).1) ≡ member_named name (json_members ms)
found_at [] name k d ordered within same = absurd (omega arith)
found_at (m ∷ ms) name zero d ordered within same = rw (eq_from_cmp m.0 name Equal same)
found_at (m ∷ ms) name (suc k) d ordered within same =
    let less : slice_cmp nat_cmp m.0 name ≡ Less = sym (alike_right nat_list_cmp_total (get_or ms k d).0 name m.0 same) ∙ first_before m ms ordered k d (omega arith) in
    rw (eq_from_cmp m.0 name Less less) (found_at ms name k d (rest_ordered m ms ordered) (omega arith) same)

-- a name that compares to no member's as equal is not found
pub none_found : (ms : List Named) (name : List ℕ) (d : Named) → ((k : ℕ) → k < length ms → (o : Ordering) × (slice_cmp nat_cmp (get_or ms k d).0 name ≡ o) × (is_eq (ordering_reverse o) ≡ false)) → None ≡ member_named name (json_members ms)
none_found [] name d others = refl
none_found (m ∷ ms) name d others =
    let first = others 0 (omega arith) in
    rw (eq_from_cmp m.0 name first.0 first.1 ∙ first.2) (none_found ms name d (λ k within. others (suc k) (omega arith)))

-- the order of a name of the list to the one that is looked for
abbrev pub order_of : List ℕ → Named → Ordering
order_of name m = slice_cmp nat_cmp m.0 name

-- a search by binary search that ends at a member, found the member of this name
pub found_by_halving : (ms slice : List Named) (vs : List (List ℕ × Json)) (name : List ℕ) (k : ℕ) (m : Named) → slice ≡ ms → json_members ms ≡ vs → AreOrdered (json_members ms)
    → k < length slice → HoldsAt (λ n. order_of name n ≡ Equal) slice k → m ≡ get_or ms k m → Some (json_of m.1) ≡ member_named name vs
found_by_halving ms slice vs name k m slice_is vs_is ordered within equal m_is =
    let same : order_of name (get_or ms k m) ≡ Equal = rw slice_is at (equal m) in
    ap (λ (n : Named). Some (json_of n.1)) m_is ∙ found_at ms name k m ordered (rw slice_is at within) same ∙ ap (member_named name) vs_is

-- one that ends between two members, found that no member has this name
pub missing_by_halving : (ms slice : List Named) (vs : List (List ℕ × Json)) (name : List ℕ) (i : ℕ) → slice ≡ ms → json_members ms ≡ vs → AreOrdered (json_members ms)
    → (IsNonDecreasingBy (λ n. ordering_index (order_of name n)) slice → IsPartitionPoint (λ n. order_of name n ≡ Less) (λ n. order_of name n ≡ Greater) slice i) → None ≡ member_named name vs
missing_by_halving ms slice vs name i slice_is vs_is ordered parted =
    let d : Named = (name, tree.Null) in
    let parts = parted (rw slice_is (comparisons_rise ms name ordered)) in
    none_found ms name d (λ k within. elim (cases_lt k i) [
      | inl below ↦ (Less, rw slice_is at (parts.0 k d (omega arith) below), refl)
      | inr above ↦ (Greater, rw slice_is at (parts.1 k d above (rw slice_is within)), refl)
    ])
    ∙ ap (member_named name) vs_is
