-- Entries that are due, and that all stand where none is.
use Rattle.std.proofs.Common.{arith, ◌≡◌, ◌≤◌, ◌<◌, ℕ, List, [], ◌∷◌, length, refl, sym, ap, subst, ◌∙◌, Bool, true, false, cond}
use Rattle.std.specs.Prelude.{Option, Some, None, String, string_bytes, not, nat_le, slice_get}
use Rattle.std.specs.declared.alloc.Global.{Global}
use Rattle.std.specs.declared.cmp.Ordering.{Ordering}
use Rattle.std.specs.declared.cmp.Ordering.TheVariants.{Less, Equal, Greater}
use Rattle.std.specs.List.{list_any}
use Rattle.std.specs.Ordering.{nat_cmp, is_eq, is_gt, ordering_then, ordering_reverse}
use Rattle.std.specs.Cmp.{nat_cmp_total}
use Rattle.std.specs.Cmp.Lexicographic.{slice_cmp}
use Rattle.std.specs.BTreeMap as tree
use Rattle.std.specs.BTreeSet as sorted
use Rattle.std.specs.BTreeMap.{BTreeMap, is_at}
use Rattle.std.specs.BTreeSet.{BTreeSet}
use Rattle.std.specs.String.{string_cmp, string_cmp_total}
use Rattle.std.proofs.lemmas.Bool.Decides.{nat_tests}
use Rattle.std.proofs.lemmas.Map.Entries.{btree_map_get_place, place_from_lookup}
use Rattle.std.proofs.lemmas.Map.Keys.{le_from_not_gt}
use Rattle.std.proofs.lemmas.Map.Lookups.{exact_unsigned}
use Rattle.wot_registry.specs.Times.{Times, expiry, is_reached, stands, stands_by, is_standing, times_of}
use Rattle.wot_registry.specs.Kept.{Placed, placed_cmp, kept_times, is_moment, expires_at, without_placed, AreKept, IsFirstDue}
use Rattle.wot_registry.proofs.KeptTimes.{found_in, times_found}
use Rattle.wot_registry.proofs.Expiring.{is_equal, kept_after_removal}

abbrev Map : Type 0
Map = BTreeMap (String Global) Times

-- ---- the first in the order

reached_by : (now m : ℕ) → true ≡ nat_le m now → m ≤ now
reached_by now m is = grind (arith, nat_tests, is)

later_by : (now m : ℕ) → false ≡ nat_le m now → now < m
later_by now m is = grind (arith, nat_tests, is)

first_not_gt : (a b : Ordering) → is_gt (ordering_then a b) ≡ false → is_gt a ≡ false
first_not_gt Less b h = refl
first_not_gt Equal b h = refl
first_not_gt Greater b h = h

-- it is due or not, by its moment, and then so is all behind it
pub due_by : (now : ℕ) (order : BTreeSet Placed) (first : Placed) (due : Bool) → due ≡ nat_le first.0 now → slice_get order.keys 0 ≡ Some first → sorted.IsLowerBound placed_cmp order first
    → IsFirstDue now order due
due_by now order first true is there least = (first, there, reached_by now first.0 is)
due_by now order first false is there least = λ q contained.
    let before : first.0 ≤ q.0 = le_from_not_gt first.0 q.0 (first_not_gt (nat_cmp first.0 q.0) (string_cmp first.1 q.1) (least q contained)) in
    let later : now < first.0 = later_by now first.0 is in
    omega arith

none_there : {A : Type 0} (test : A → Bool) (ks : List A) → (0 < length ks → ⊥) → list_any test ks ≡ true → ⊥
none_there test [] none found = cc (found)
none_there test (k ∷ ks) none found = none (omega arith)

-- nothing is due where nothing is in the order
pub none_to_come : (now : ℕ) (order : BTreeSet Placed) → (0 < length order.keys → ⊥) → IsFirstDue now order false
none_to_come now order none = λ q contained. absurd (none_there (is_at (placed_cmp q)) order.keys none contained)

some_length : {A : Type 0} (ks : List A) (k : A) → slice_get ks 0 ≡ Some k → 0 < length ks
some_length [] k is = absurd (cc (is))
some_length (x ∷ ks) k is = omega arith

-- an entry that is due is there
pub due_there : (now : ℕ) (order : BTreeSet Placed) (due : Bool) → IsFirstDue now order due → due ≡ true → 0 < length order.keys
due_there now order true is holds = some_length order.keys is.0 is.1
due_there now order false is holds = absurd (cc (holds))

same_head : (ks rest : List Placed) (p q : Placed) → slice_get ks 0 ≡ Some p → ks ≡ q ∷ rest → p ≡ q
same_head ks rest p q first is = some_same p q (sym first ∙ ap (λ (xs : List Placed). slice_get xs 0) is)
  where
    of : Placed → Option Placed → Placed
    of d None = d
    of d (Some x) = x

    some_same : (a b : Placed) → Some a ≡ Some b → a ≡ b
    some_same a b e = ap (of a) e

-- and its moment is reached
pub popped_due : (now : ℕ) (order : BTreeSet Placed) (rest : List Placed) (popped : Placed) (due : Bool) → IsFirstDue now order due → due ≡ true → order.keys ≡ popped ∷ rest → popped.0 ≤ now
popped_due now order rest popped true is holds keys =
    subst (λ (q : Placed). q.0 ≤ now) (same_head order.keys rest is.0 popped is.1 keys) is.2
popped_due now order rest popped false is holds keys = absurd (cc (holds))

-- ---- what is popped is the expiry of its entry

moment_of : (m : ℕ) (e : Option ℕ) → is_moment m e ≡ true → e ≡ Some m
moment_of m None h = absurd (cc (h))
moment_of m (Some n) h = ap (λ (k : ℕ). Some k) (exact_unsigned n m (is_equal (nat_cmp n m) h))

-- an entry that expires at this moment
record ExpiresAt (moment : ℕ) (found : Option Times) : Type 0 where
  times : Times
  is : found ≡ Some times
  at : expiry times ≡ Some moment

expires_then : (moment : ℕ) (found : Option Times) → expires_at moment found ≡ true → ExpiresAt moment found
expires_then moment None h = absurd (cc (h))
expires_then moment (Some t) h = record { times = t; is = refl; at = moment_of moment (expiry t) h }

popped_expires : (by_id : Map) (order : BTreeSet Placed) (popped : Placed) → AreKept by_id order → sorted.contains placed_cmp order popped ≡ true
    → ExpiresAt popped.0 (tree.get string_cmp by_id popped.1)
popped_expires by_id order popped kept contained = expires_then popped.0 (tree.get string_cmp by_id popped.1) (sym (kept.placed popped) ∙ contained)

pub kept_after_expiry : (by_id after_id : Map) (order after_order : BTreeSet Placed) (popped : Placed) → AreKept by_id order
    → sorted.contains placed_cmp order popped ≡ true
    → ((q : Placed) → sorted.contains placed_cmp after_order q ≡ cond (is_at (placed_cmp popped) q) false (sorted.contains placed_cmp order q))
    → ((k : String Global) → tree.get string_cmp after_id k ≡ cond (is_eq (string_cmp popped.1 k)) None (tree.get string_cmp by_id k))
    → tree.IsOrdered string_cmp after_id → AreKept after_id after_order
kept_after_expiry by_id after_id order after_order popped kept contained taken updated ordered =
    let own = popped_expires by_id order popped kept contained in
    kept_after_removal by_id after_id order after_order (string_bytes popped.1) popped.1 own.times kept refl own.is
    (λ q. taken q ∙ ap (λ (e : Option ℕ). without_placed e popped.1 q (sorted.contains placed_cmp order q)) (sym own.at)) updated ordered

reached : (now m : ℕ) → m ≤ now → not (nat_le m now) ≡ false
reached now m sooner = grind (arith, nat_tests, sooner)

-- it is over
pub popped_over : (now : ℕ) (by_id : Map) (order : BTreeSet Placed) (popped : Placed) → AreKept by_id order → sorted.contains placed_cmp order popped ≡ true → popped.0 ≤ now
    → is_standing now (kept_times by_id.entries) (string_bytes popped.1) ≡ false
popped_over now by_id order popped kept contained due =
    let own = popped_expires by_id order popped kept contained in
    ap (stands_by now) (sym (times_found (string_bytes popped.1) by_id.entries) ∙ own.is)
    ∙ ap (λ (e : Option ℕ). not (is_reached now e)) own.at ∙ reached now popped.0 due

-- and its times were there
pub popped_found : (by_id : Map) (order : BTreeSet Placed) (popped : Placed) → AreKept by_id order → sorted.contains placed_cmp order popped ≡ true
    → (u : Times) × (found_in (string_bytes popped.1) by_id.entries ≡ Some u)
popped_found by_id order popped kept contained =
    let own = popped_expires by_id order popped kept contained in
    (own.times, own.is)

-- ---- nothing is due

not_reached : (now m : ℕ) → now < m → not (nat_le m now) ≡ true
not_reached now m later = grind (arith, nat_tests, later)

stands_until : (now : ℕ) (t : Times) (e : Option ℕ) → expiry t ≡ e → ((m : ℕ) → e ≡ Some m → now < m) → stands now t ≡ true
stands_until now t None is later = ap (λ (o : Option ℕ). not (is_reached now o)) is
stands_until now t (Some m) is later = ap (λ (o : Option ℕ). not (is_reached now o)) is ∙ not_reached now m (later m refl)

own_reverse : (o : Ordering) → o ≡ ordering_reverse o → is_eq o ≡ true
own_reverse Less h = absurd (cc (h))
own_reverse Equal h = refl
own_reverse Greater h = absurd (cc (h))

same_moment : (m : ℕ) → is_eq (nat_cmp m m) ≡ true
same_moment m = own_reverse (nat_cmp m m) (nat_cmp_total.antisymm m m)

-- where nothing is due, all entries stand
pub none_due : (now : ℕ) (by_id : Map) (order : BTreeSet Placed) (due : Bool) → AreKept by_id order → IsFirstDue now order due → due ≡ false
    → (id : List ℕ) → is_standing now (kept_times by_id.entries) id ≡ true
none_due now by_id order true kept first is id = absurd (cc (is))
none_due now by_id order false kept first is id = by (times_of id (kept_times by_id.entries)) refl
  where
    by : (o : Option Times) → times_of id (kept_times by_id.entries) ≡ o → stands_by now o ≡ true
    by None found = refl
    by (Some t) found =
        let place = place_from_lookup (is_at (λ (k : String Global). slice_cmp nat_cmp id (string_bytes k))) by_id.entries t (times_found id by_id.entries ∙ found) in
        let own : tree.get string_cmp by_id place.1 ≡ Some t = btree_map_get_place string_cmp_total by_id place.0 place.1 t kept.ordered place.2 in
        stands_until now t (expiry t) refl (λ m at.
        first (m, place.1) (kept.placed (m, place.1) ∙ ap (λ (o : Option Times). expires_at m o) own ∙ ap (λ (o : Option ℕ). is_moment m o) at ∙ same_moment m))
