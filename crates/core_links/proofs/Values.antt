-- The text of a value, by whether it is of digits alone.
use Rattle.std.proofs.Common.{◌≡◌, refl, ℕ, List, Bool, true, false}
use Rattle.std.specs.Prelude.{if◌then◌else◌}
use Rattle.core_links.specs.Writing.{are_digits, value_text, quoted}

chosen : (b : Bool) (v w : List ℕ) → b ≡ true → (if b then v else w) ≡ v
chosen true v w e = refl
chosen false v w e = absurd cc

other : (b : Bool) (v w : List ℕ) → b ≡ false → (if b then v else w) ≡ w
other false v w e = refl
other true v w e = absurd cc

pub digits_as_they_are : (v : List ℕ) → are_digits v ≡ true → value_text v ≡ v
digits_as_they_are v e = chosen (are_digits v) v (quoted v) e

pub others_in_quotes : (v : List ℕ) → are_digits v ≡ false → value_text v ≡ quoted v
others_in_quotes v e = other (are_digits v) v (quoted v) e
