-- Members in order, cut at a name.
use Rattle.std.proofs.Common.{◌≡◌, ℕ, zero, suc, ◌+◌, ◌<◌, ◌≤◌, List, [], ◌∷◌, ◌++◌, length, get_or, take, drop, Some, None, refl, sym, ap, subst, ◌∙◌, arith, length-drop}
use Rattle.std.specs.Ordering.{nat_cmp, ordering_reverse, is_eq}
use Rattle.std.specs.declared.cmp.Ordering.{Ordering}
use Rattle.std.specs.declared.cmp.Ordering.TheVariants.{Less, Equal, Greater}
use Rattle.std.specs.Cmp.Lexicographic.{slice_cmp, nat_list_cmp_total}
use Rattle.std.proofs.lemmas.List.{map-append, take-append-drop, get_or-drop}
use Rattle.std.proofs.lemmas.Map.Text.{is_eq-slice_cmp}
use Rattle.std.proofs.lemmas.Slice.Eq.{bytes_eq-Decides}
use Rattle.wot_json.specs.Tree.{AreOrdered}
use Rattle.wot_json.specs.Meaning.{json_of, json_members, json_member}
use Rattle.wot_json.specs.Cutting.{IsCutAt, IsBefore, IsBeforeAll, IsAfterAll}
use Rattle.wot_json.specs.declared.tree.Tree.{Tree}
use Rattle.wot_json.specs.declared.tree.Tree.TheVariants as tree
use Rattle.wot_json.proofs.NameLookup.{rest_ordered}

abbrev Named : Type 0
Named = List ℕ × Tree

-- members after a place are in order
pub ordered_drop : (ms : List Named) (n : ℕ) → AreOrdered (json_members ms) → AreOrdered (json_members (drop n ms))
ordered_drop ms zero ordered = ordered
ordered_drop [] (suc n) ordered = tt
ordered_drop (m ∷ ms) (suc n) ordered = ordered_drop ms n (rest_ordered m ms ordered)

-- a name before the first of some members in order is before all of them
before_all : (name : List ℕ) (m : Named) (ms : List Named) → AreOrdered (json_members (m ∷ ms)) → IsBefore name m.0 → IsBeforeAll name (json_members (m ∷ ms))
before_all name m [] ordered first = (first, tt)
before_all name m (n ∷ ms) ordered first =
    (first, before_all name n ms ordered.1 (nat_list_cmp_total.trans name m.0 n.0 first ordered.0))

-- the name of the first is before all others
before_others : (m : Named) (ms : List Named) → AreOrdered (json_members (m ∷ ms)) → IsBeforeAll m.0 (json_members ms)
before_others m [] ordered = tt
before_others m (n ∷ ms) ordered = before_all m.0 n ms ordered.1 ordered.0

-- a name after each member before a place
behind_all : (name : List ℕ) (ms : List Named) (n : ℕ) (d : Named) → n ≤ length ms → ((k : ℕ) → k < n → IsBefore (get_or ms k d).0 name) → IsAfterAll name (json_members (take n ms))
behind_all name ms zero d bound before = tt
behind_all name [] (suc n) d bound before = tt
behind_all name (m ∷ ms) (suc n) d bound before = (before 0 (omega arith), behind_all name ms n d (omega arith) (λ k below. before (suc k) (omega arith)))

-- a name that is neither before nor equal to another is after it
stands_behind : (m name : List ℕ) (o : Ordering) → slice_cmp nat_cmp m name ≡ o → (IsBefore m name → ⊥) → (m ≡ name → ⊥) → IsBefore name m
stands_behind m name Less is no_less other = absurd (no_less is)
stands_behind m name Equal is no_less other = absurd (other ((bytes_eq-Decides m name).0 (sym (is_eq-slice_cmp m name) ∙ ap is_eq is)))
stands_behind m name Greater is no_less other = nat_list_cmp_total.antisymm name m ∙ ap ordering_reverse is

none_behind : (name : List ℕ) (ms : List Named) → length ms ≡ 0 → IsBeforeAll name (json_members ms)
none_behind name [] none = tt
none_behind name (m ∷ ms) none = absurd (omega arith)

parts_of : (members : List Named) (n : ℕ) → json_members members ≡ json_members (take n members) ++ json_members (drop n members)
parts_of members n = ap json_members (sym (take-append-drop n members)) ∙ map-append json_member (take n members) (drop n members)

module _ (name : List ℕ) (members before from : List Named) (n : ℕ) (ordered : AreOrdered (json_members members)) (bound : n ≤ length members)
    (smaller : (k : ℕ) → (d : Named) → k < n → IsBefore (get_or members k d).0 name) (before_is : before ≡ take n members) (from_is : from ≡ drop n members) where
  whole : json_members members ≡ json_members before ++ json_members from
  whole = parts_of members n ∙ (λ k. json_members (sym before_is k) ++ json_members (sym from_is k))

  all_smaller : (d : Named) → IsAfterAll name (json_members before)
  all_smaller d = subst (λ (xs : List Named). IsAfterAll name (json_members xs)) (sym before_is) (behind_all name members n d bound (λ k. smaller k d))

  from_ordered : (m : Named) (behind : List Named) → from ≡ m ∷ behind → AreOrdered (json_members (m ∷ behind))
  from_ordered m behind split = subst (λ (xs : List Named). AreOrdered (json_members xs)) (sym from_is ∙ split) (ordered_drop members n ordered)

  -- the members after the place are in order
  pub rest_in_order : AreOrdered (json_members from)
  rest_in_order = subst (λ (xs : List Named). AreOrdered (json_members xs)) (sym from_is) (ordered_drop members n ordered)

  -- so are those after the first of them
  pub behind_in_order : (m : Named) (behind : List Named) → from ≡ m ∷ behind → AreOrdered (json_members behind)
  behind_in_order m behind split = rest_ordered m behind (from_ordered m behind split)

  -- the member at the place has the name
  pub cut_found : (m : Named) (behind : List Named) → from ≡ m ∷ behind → m.0 ≡ name → IsCutAt name (json_members members) (json_members before) (Some (json_of m.1)) (json_members behind)
  cut_found m behind split same = record {
    parts = whole ∙ (λ k. json_members before ++ json_members (split k)) ∙ (λ k. json_members before ++ (same k, json_of m.1) ∷ json_members behind);
    smaller = all_smaller m;
    greater = subst (λ (x : List ℕ). IsBeforeAll x (json_members behind)) same (before_others m behind (from_ordered m behind split));
  }

  -- the member at the place is after the name
  pub cut_between : (m : Named) (behind : List Named) → from ≡ m ∷ behind → (m.0 ≡ name → ⊥) → ((d : Named) → n < length members → IsBefore (get_or members n d).0 name → ⊥) → IsCutAt name (json_members members) (json_members before) None (json_members from)
  cut_between m behind split other next =
      let within : n < length members = omega (arith, length-drop n members, ap length from_is, ap length split) in
      let plus : n ≡ n + 0 = omega arith in
      let here : get_or members n m ≡ m = ap (λ (i : ℕ). get_or members i m) plus ∙ sym (get_or-drop n members 0 m) ∙ ap (λ (xs : List Named). get_or xs 0 m) (sym from_is ∙ split) in
      let no_less : IsBefore m.0 name → ⊥ = λ less. next m within (subst (λ (x : Named). IsBefore x.0 name) (sym here) less) in
      record {
        parts = whole;
        smaller = all_smaller m;
        greater = subst (λ (xs : List Named). IsBeforeAll name (json_members xs)) (sym split) (before_all name m behind (from_ordered m behind split) (stands_behind m.0 name (slice_cmp nat_cmp m.0 name) refl no_less other));
      }

  -- no member is at the place
  pub cut_end : length from ≡ 0 → IsCutAt name (json_members members) (json_members before) None (json_members from)
  cut_end none = record { parts = whole; smaller = all_smaller (name, tree.Null); greater = none_behind name from none }
