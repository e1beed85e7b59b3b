-- Multiples among the integers, and the remainder of the absolute value.
use Rattle.std.proofs.Common.{◌≡◌, ℕ, ◌%◌, ℤ, pos, negsuc, ◌*ℤ◌, ◌+ℤ◌, sym, ap, ◌∙◌, IsTrue, nat_eq, ◌↔◌, eqb-true, eq-eqb}
use Rattle.std.specs.Int.RustNames.{int_div, int_rem, unsigned_abs}
use Rattle.std.specs.Prelude.{neg_ℤ}
use Rattle.std.proofs.lemmas.Int.{quot-rem, unsigned_abs-mul}
use Rattle.std.proofs.Math.Nat.{mul-mod_left}
use Rattle.std.proofs.Math.IntN.{+ℤ_idr}

no_remainder : (n : ℤ) (u : ℕ) → unsigned_abs n % u ≡ 0 → int_rem n (pos u) ≡ pos 0
no_remainder (pos a) u none = ap pos none
no_remainder (negsuc a) u none = ap (λ (r : ℕ). neg_ℤ (pos r)) none

add_zero : (a : ℤ) → a +ℤ pos 0 ≡ a
add_zero a = +ℤ_idr a

-- a number whose absolute value has no remainder is a multiple
pub multiple_from : (n : ℤ) (u : ℕ) → unsigned_abs n % u ≡ 0 → (k : ℤ) × (n ≡ k *ℤ pos u)
multiple_from n u none =
    let k : ℤ = int_div n (pos u) in
    (k, sym (quot-rem n (pos u)) ∙ (ap (λ (r : ℤ). k *ℤ pos u +ℤ r) (no_remainder n u none) ∙ add_zero (k *ℤ pos u)))

-- the absolute value of a multiple has no remainder
pub multiple_to : (n : ℤ) (u : ℕ) (k : ℤ) → n ≡ k *ℤ pos u → unsigned_abs n % u ≡ 0
multiple_to n u k is =
    ap (λ (m : ℤ). unsigned_abs m % u) is ∙ (ap (λ (m : ℕ). m % u) (unsigned_abs-mul k (pos u)) ∙ mul-mod_left (unsigned_abs k) u)

-- the test of a remainder, on the absolute value
pub multiple_test : (n : ℤ) (u a : ℕ) → a ≡ unsigned_abs n → IsTrue (nat_eq (a % u) 0) ↔ ((k : ℤ) × (n ≡ k *ℤ pos u))
multiple_test n u a is = (
  λ none. multiple_from n u (ap (λ (m : ℕ). m % u) (sym is) ∙ eqb-true (a % u) 0 none),
  λ m. eq-eqb (a % u) 0 (ap (λ (b : ℕ). b % u) is ∙ multiple_to n u m.0 m.1),
)
