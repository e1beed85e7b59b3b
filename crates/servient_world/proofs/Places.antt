-- Elements of lists by their places.
use Rattle.std.proofs.Common.{◌≡◌, ℕ, ◌-◌, ◌∙◌, ◌++◌, List, [], ◌∷◌, Some, take, length, zero, suc, refl, sym, ap, subst, arith}
use Rattle.std.specs.Prelude.{All, slice_get}
use Rattle.std.proofs.lemmas.List.{length_push}
use Rattle.std.proofs.lemmas.Option.{same_Some, slice_get_within, get_or_from_slice_get}

-- a fact on all is a fact on one
pub all_at : {X : Type 0} (P : X → Type 0) (xs : List X) (k : ℕ) (x : X) → All P xs → slice_get xs k ≡ Some x → P x
all_at P xs k x all e = subst P (get_or_from_slice_get xs k x x e) (all k x (slice_get_within xs k x e))

pub at_more : {X : Type 0} (xs ys : List X) (k : ℕ) (x : X) → slice_get xs k ≡ Some x → slice_get (xs ++ ys) k ≡ Some x
at_more [] ys k x e = cc
at_more (y ∷ xs) ys zero x e = e
at_more (y ∷ xs) ys (suc k) x e = at_more xs ys k x e

pub at_last : {X : Type 0} (xs : List X) (x : X) → slice_get (xs ++ x ∷ []) (length xs) ≡ Some x
at_last [] x = refl
at_last (y ∷ xs) x = at_last xs x

pub at_same : {X : Type 0} (xs : List X) (k : ℕ) (x y : X) → slice_get xs k ≡ Some x → slice_get xs k ≡ Some y → x ≡ y
at_same xs k x y e f = same_Some x y (sym e ∙ f)

-- the last of a list
pub at_end : {X : Type 0} (xs before : List X) (x : X) → xs ≡ before ++ x ∷ [] → slice_get xs (length xs - 1) ≡ Some x
at_end {X} xs before x e =
    let count = length_push before x in
    let total = ap length e in
    let place : length xs - 1 ≡ length before = omega arith in
    ap (λ k. slice_get xs k) place ∙ (ap (λ (l : List X). slice_get l (length before)) e ∙ at_last before x)

-- one more element of the first ones
pub take_next : {X : Type 0} (xs : List X) (k : ℕ) (x : X) → slice_get xs k ≡ Some x → take (suc k) xs ≡ take k xs ++ x ∷ []
take_next [] k x e = absurd (cc)
take_next {X} (y ∷ xs) zero x e = ap (λ (z : X). z ∷ []) (same_Some y x e)
take_next {X} (y ∷ xs) (suc k) x e = ap (λ (l : List X). y ∷ l) (take_next xs k x e)
