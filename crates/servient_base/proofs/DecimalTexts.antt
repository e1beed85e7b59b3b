-- Numbers in decimal, as scripts and pointers have them.
use Rattle.std.proofs.Common.{◌≡◌, ◌≢◌, ℕ, ◌^◌, ◌<◌, ◌≤◌, List, ◌∷◌, ◌++◌, length, get_or, slice_index, nat_lt, decimal, Bool, true, false, ◌==◌, ◌||◌, ◌&&◌, Option, Result, Ok, MatchOption, Bor, sym, ap, subst, ◌∙◌, arith, inl, inr}
use Rattle.std.specs.Int.{IsInRange}
use Rattle.std.specs.Result.{OkIff}
use Rattle.std.specs.Str.Parse.{AllDigits, ParsesUnsigned, digits_value}
use Rattle.std.proofs.lemmas.Bool.{cases_eq}
use Rattle.std.proofs.lemmas.Bool.Decides.{nat_tests}
use Rattle.std.proofs.lemmas.Fmt.{decimal-digits_value, decimal_digit, decimal_is_IsNumeral, decimal_nonempty, first_decimal, parse-decimal}
use Rattle.std.proofs.lemmas.Str.Parse.{IsNumeralModel, digit_at, not_in_digits, numerals_by_value, parse_plain, tells_digits}
use Rattle.std.proofs.lemmas.Str.Pattern.{IsSplitOnceResult, split_after}

-- std's own words for digits and their value
numerals : IsNumeralModel (AllDigits 10) (digits_value 10)
numerals = numerals_by_value (AllDigits 10) tells_digits

-- a number is written in digits
pub AllDigits-decimal : (n : ℕ) → n < 2 ^ 64 → AllDigits 10 (decimal n)
AllDigits-decimal n fits = ((decimal_is_IsNumeral n fits).0).1

-- each of its bytes is a digit
pub decimal_digit_at : (n : ℕ) → n < 2 ^ 64 → (k : ℕ) → k < length (decimal n) → IsInRange 48 57 (get_or (decimal n) k 0)
decimal_digit_at n fits k within = digit_at (decimal n) k (AllDigits-decimal n fits) within

-- its first byte is a digit
first_digit : (n : ℕ) → n < 2 ^ 64 → IsInRange 48 57 (get_or (decimal n) 0 0)
first_digit n fits = digit_at (decimal n) 0 (AllDigits-decimal n fits) (decimal_nonempty n fits)

-- and no zero where more follows
no_leading_zero : (n : ℕ) → n < 2 ^ 64 → get_or (decimal n) 0 0 ≡ 48 → length (decimal n) ≡ 1
no_leading_zero n fits zero_first =
    elim (cases_eq n 0) [
      | inl none ↦ ap (λ (m : ℕ). length (decimal m)) none ∙ ap length (decimal_digit 0 (omega arith))
      | inr some ↦
          let above = first_decimal n (omega arith) fits in
          absurd (omega (arith, above, zero_first))
    ]

-- the test for a plus or a leading zero
abbrev pub has_sign_or_leading_zero : List ℕ → Bool
has_sign_or_leading_zero text =
    (slice_index text 0 == 43) || ((slice_index text 0 == 48) && nat_lt 1 (length text))

-- no number is written with either
pub no_sign_or_leading_zero : (n : ℕ) → n < 2 ^ 64 → has_sign_or_leading_zero (decimal n) ≡ true → ⊥
no_sign_or_leading_zero n fits test =
    let digit = first_digit n fits in
    let alone = no_leading_zero n fits in
    grind (arith, nat_tests, digit, alone)

-- `parse` reads of a text with neither the number that the text writes
pub decimal_from_parse : {E : Type 0} (text : List ℕ) (r : Result ℕ E) (n : ℕ) → ParsesUnsigned 64 10 text r
    → has_sign_or_leading_zero text ≡ false → r ≡ Ok n → text ≡ decimal n
decimal_from_parse {E} text r n parses test is =
    let no_plus : get_or text 0 0 ≢ 43 = grind (arith, nat_tests, test) in
    let short : get_or text 0 0 ≡ 48 → length text ≤ 1 = grind (arith, nat_tests, test) in
    let numeral : Type 0 = AllDigits 10 text × (0 < length text) × (digits_value 10 text < 2 ^ 64) in
    let read : numeral × (n ≡ digits_value 10 text) =
    subst (λ (x : Result ℕ E). OkIff x numeral (digits_value 10 text)) is (parse_plain numerals 64 text r parses no_plus) in
    let digits = (read.0).0 in
    let some = (read.0).1 in
    let zero_alone : get_or text 0 0 ≡ 48 → length text ≡ 1 = λ zero_first. let few = short zero_first in omega arith in
    sym (ap decimal (read.1) ∙ decimal-digits_value numerals text digits some zero_alone (read.0).2)

-- `parse` reads a number's text as that number
pub parse_gives_number : {E : Type 0} (text : List ℕ) (r : Result ℕ E) (n most : ℕ) → ParsesUnsigned 64 10 text r
    → most < 2 ^ 64 → n ≤ most → text ≡ decimal n → r ≡ Ok n
parse_gives_number text r n most parses fits bound is =
    parse-decimal 64 n text r (omega arith) (omega arith) is parses

-- a text that begins with a number and a byte that is no digit is cut there
pub split_after_number : (c n : ℕ) (text rest : List ℕ) (r : Option (Bor (List ℕ) × Bor (List ℕ)))
    → IsSplitOnceResult c text r → c < 128 → ¬ (IsInRange 48 57 c) → n < 2 ^ 64 → text ≡ decimal n ++ (c ∷ rest)
    → MatchOption r ⊥ (λ x. (x.0.now ≡ decimal n) × (x.1.now ≡ rest))
split_after_number c n text rest r split ascii no_digit fits is =
    split_after c text (decimal n) rest r split ascii is
    (not_in_digits numerals (decimal n) c (AllDigits-decimal n fits) no_digit)
