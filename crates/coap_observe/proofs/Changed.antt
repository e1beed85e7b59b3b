-- Lists of which elements are taken away.
use Rattle.std.proofs.Common.{◌≡◌, suc, ◌<◌, Bool, true, false, not, cond, List, [], ◌∷◌, length, find, Some, refl, sym, ap, subst, ◌∙◌, arith, inl, inr, ◌≤◌}
use Rattle.std.specs.List.{filter}
use Rattle.std.proofs.lemmas.List.Filters.{length-filter_both}
use Rattle.std.proofs.lemmas.Bool.{cases_Bool}

-- The rest of a list is no longer than it.
pub no_longer : {X : Type 0} (q : X → Bool) (xs : List X) → length (filter q xs) ≤ length xs
no_longer q xs = omega (arith, length-filter_both q (λ x. not (q x)) (λ x. refl) xs)

fewer_by : {X : Type 0} (t : Bool) (z : X) (kept all : List X) → length kept < length all → length (cond t (z ∷ kept) kept) < suc (length all)
fewer_by true z kept all less = omega arith
fewer_by false z kept all less = omega arith

-- A filter that takes an element away leaves fewer.
pub fewer : {X : Type 0} (p q : X → Bool) (xs : List X) (x : X) → find p xs ≡ Some x → q x ≡ false → length (filter q xs) < length xs
fewer p q [] x found fails = absurd (cc)
fewer {X} p q (y ∷ ys) x found fails = elim (cases_Bool (p y)) [
  | inl passes ↦
      let same : Some y ≡ Some x = sym (ap (λ (t : Bool). cond t (Some y) (find p ys)) passes) ∙ found in
      let is : y ≡ x = (cc) in
      let gone : q y ≡ false = ap q is ∙ fails in
      subst (λ (t : Bool). length (cond t (y ∷ filter q ys) (filter q ys)) < suc (length ys)) (sym gone) (omega (arith, no_longer q ys))
  | inr passes ↦
      let later : find p ys ≡ Some x = sym (ap (λ (t : Bool). cond t (Some y) (find p ys)) passes) ∙ found in
      fewer_by (q y) y (filter q ys) ys (fewer p q ys x later fails)
]
