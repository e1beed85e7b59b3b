-- The answers of the map of times, in terms of the list of times.
use Rattle.std.proofs.Common.{◌≡◌, ◌<◌, ◌+◌, ℕ, List, [], ◌∷◌, length, refl, sym, ap, subst, arith, ◌∙◌, Bool, false, cond, Bor}
use Rattle.std.specs.Prelude.{Option, Some, None, option_map, option_copied, is_some, String, string_bytes}
use Rattle.std.specs.declared.alloc.Global.{Global}
use Rattle.std.specs.declared.cmp.Ordering.{Ordering}
use Rattle.std.specs.declared.cmp.Ordering.TheVariants.{Less, Equal, Greater}
use Rattle.std.specs.List.{AllByRecursion}
use Rattle.std.specs.List.Sorted.{IsStrictlySortedBy}
use Rattle.std.specs.Ordering.{nat_cmp, match_ordering}
use Rattle.std.specs.Cmp.Lexicographic.{slice_cmp}
use Rattle.std.specs.Str.{bytes_eq}
use Rattle.std.specs.Map.{lookup, remove_entry, keys_of}
use Rattle.std.specs.BTreeMap.{is_at, insert_entry}
use Rattle.std.specs.String.{string_cmp}
use Rattle.std.proofs.lemmas.List.{length-map}
use Rattle.std.proofs.lemmas.Map.Text.{is_eq-slice_cmp}
use Rattle.std.proofs.lemmas.Map.Keys.{sorted_head, sorted_tail}
use Rattle.wot_json.proofs.MemberOrder.{less, equal, greater, compares, before_other}
use Rattle.wot_registry.specs.Times.{Times, times_of, with_times, without_times}
use Rattle.wot_registry.specs.Kept.{kept_times}

abbrev Kept : Type 0
Kept = List (String Global × Times)

-- the times that the map holds under a text
abbrev pub found_in : List ℕ → Kept → Option Times
found_in id es = lookup (is_at (λ k. slice_cmp nat_cmp id (string_bytes k))) es

-- the times that a look-up lends, by value
lent_times : (r : Option (Bor Times)) → option_map (λ t. t.now) r ≡ option_copied r
lent_times None = refl
lent_times (Some t) = refl

-- a look-up in the map is one in the list
pub times_found : (id : List ℕ) (es : Kept) → found_in id es ≡ times_of id (kept_times es)
times_found id [] = refl
times_found id (e ∷ es) =
    ap (λ (b : Bool). cond b (Some e.1) (found_in id es)) (is_eq-slice_cmp id (string_bytes e.0))
    ∙ ap (λ (r : Option Times). cond (bytes_eq id (string_bytes e.0)) (Some e.1) r) (times_found id es)

pub lent_found : (id : List ℕ) (es : Kept) (r : Option (Bor Times)) → option_copied r ≡ found_in id es → option_map (λ t. t.now) r ≡ times_of id (kept_times es)
lent_found id es r is = lent_times r ∙ is ∙ times_found id es

placed : (o : Ordering) (before here after : Kept) → kept_times (match_ordering o before here after) ≡ match_ordering o (kept_times before) (kept_times here) (kept_times after)
placed Less before here after = refl
placed Equal before here after = refl
placed Greater before here after = refl

-- an insertion into the map is one into the list
pub times_inserted : (es : Kept) (k : String Global) (t : Times) → kept_times (insert_entry string_cmp es k t) ≡ with_times (string_bytes k) t (kept_times es)
times_inserted [] k t = refl
times_inserted (e ∷ es) k t =
    placed (slice_cmp nat_cmp (string_bytes k) (string_bytes e.0)) ((k, t) ∷ e ∷ es) ((e.0, t) ∷ es) (e ∷ insert_entry string_cmp es k t)
    ∙ ap (λ (ts : List (List ℕ × Times)). match_ordering (slice_cmp nat_cmp (string_bytes k) (string_bytes e.0)) (kept_times ((k, t) ∷ e ∷ es)) (kept_times ((e.0, t) ∷ es)) ((string_bytes e.0, e.1) ∷ ts)) (times_inserted es k t)

-- no key after the first has its bytes
later_differ : (id : List ℕ) (k : String Global) (es : Kept) → id ≡ string_bytes k → AllByRecursion (λ y. string_cmp k y ≡ Less) (keys_of es)
    → without_times id (kept_times es) ≡ kept_times es
later_differ id k [] same before = refl
later_differ id k (e ∷ es) same before =
    let apart : bytes_eq id (string_bytes e.0) ≡ false = before_other id (string_bytes e.0) (subst (λ (x : List ℕ). slice_cmp nat_cmp x (string_bytes e.0) ≡ Less) (sym same) before.0) in
    rw apart (ap (λ (ts : List (List ℕ × Times)). (string_bytes e.0, e.1) ∷ ts) (later_differ id k es same before.1))

-- a removal from the map, whose keys are in order, is one from the list
pub times_removed : (id : List ℕ) (es : Kept) → IsStrictlySortedBy string_cmp (keys_of es)
    → kept_times (remove_entry (is_at (λ k. slice_cmp nat_cmp id (string_bytes k))) es) ≡ without_times id (kept_times es)
times_removed id [] sorted = refl
times_removed id (e ∷ es) sorted =
    let later = times_removed id es (sorted_tail string_cmp e.0 (keys_of es) sorted) in
    elim (compares id (string_bytes e.0)) [
      | less is test ↦ rw (is, test) (ap (λ (ts : List (List ℕ × Times)). (string_bytes e.0, e.1) ∷ ts) later)
      | equal is same test ↦ rw (is, test) (sym (later_differ id e.0 es same (sorted_head string_cmp e.0 (keys_of es) sorted)))
      | greater is behind test ↦ rw (is, test) (ap (λ (ts : List (List ℕ × Times)). (string_bytes e.0, e.1) ∷ ts) later)
    ]

-- and makes it shorter, where something was there
pub fewer_kept : (es now : Kept) (taken : Option Times) (u : Times) → taken ≡ Some u → length now + cond (is_some taken) 1 0 ≡ length es
    → length (kept_times now) < length (kept_times es)
fewer_kept es now taken u is count =
    let one : length now + 1 ≡ length es = subst (λ (r : Option Times). length now + cond (is_some r) 1 0 ≡ length es) is count in
    let before : length (kept_times es) ≡ length es = length-map es (λ entry. (string_bytes entry.0, entry.1)) in
    let after : length (kept_times now) ≡ length now = length-map now (λ entry. (string_bytes entry.0, entry.1)) in
    omega arith
