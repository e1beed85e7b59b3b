-- Numbers in a fixed number of digits, as `format!` writes them.
use Rattle.std.proofs.Common.{arith, ◌≡◌, ◌-◌, ◌^◌, ℕ, List, [], ◌++◌, length, replicate, false, ◌<◌, ℤ, pos, ◌≤ℤ◌, unsigned_abs, FitsSigned, w8, w16, to_z, of_z, refl, ap, ◌∙◌}
use Rattle.std.proofs.lemmas.List.{append-nil}
use Rattle.std.proofs.lemmas.Int.{to_z-of_z}
use Rattle.jiff_core.proofs.SignedLemmas.{signed_arith}
use Rattle.std.specs.Fmt.{decimal, padded_integral, styled_decimal, char_count, format_spec}
use Rattle.wot_registry.specs.Dates.{in_digits}

padded_in_digits : (k n : ℕ) → padded_integral (format_spec 32 0 4 k (2 ^ 64 - 1)) false [] (decimal n) ≡ in_digits k n
unfolding padded_integral char_count
padded_in_digits k n =
    let none : k - length (decimal n) - 0 - 0 ≡ k - length (decimal n) = omega arith in
    rw none (ap (λ (l : List ℕ). replicate (k - length (decimal n)) 48 ++ l) (append-nil (decimal n)))

-- the text that `{:02}`, `{:03}` and `{:04}` write of a number
pub in_two_digits : (n : ℕ) → styled_decimal (format_spec 32 0 4 2 (2 ^ 64 - 1)) n ≡ in_digits 2 n
in_two_digits n = padded_in_digits 2 n

pub in_three_digits : (n : ℕ) → styled_decimal (format_spec 32 0 4 3 (2 ^ 64 - 1)) n ≡ in_digits 3 n
in_three_digits n = padded_in_digits 3 n

pub in_four_digits : (n : ℕ) → styled_decimal (format_spec 32 0 4 4 (2 ^ 64 - 1)) n ≡ in_digits 4 n
in_four_digits n = padded_in_digits 4 n

-- the absolute value of a small signed number, which code holds as bits
pub byte_part : (result n : ℕ) (z : ℤ) → z ≡ pos n → n < 100 → result ≡ unsigned_abs (to_z w8 (of_z w8 z)) → result ≡ n
byte_part result n z is small e =
    let fits : FitsSigned w8 (pos n) = omega (arith, signed_arith) in
    e ∙ rw (is, to_z-of_z w8 (pos n) fits) refl

pub short_part : (result : ℕ) (z held : ℤ) → held ≡ z → pos 0 ≤ℤ z → z ≤ℤ pos 9999 → result ≡ unsigned_abs (to_z w16 (of_z w16 held)) → result ≡ unsigned_abs z
short_part result z held is low high e =
    let fits : FitsSigned w16 z = omega (arith, signed_arith) in
    e ∙ rw (is, to_z-of_z w16 z fits) refl
