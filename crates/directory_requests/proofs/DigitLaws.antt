-- The value of a text of one to nine digits, as `parse` reads it.
use Rattle.std.proofs.lemmas.Bool.Decides.{nat_tests}
use Rattle.std.proofs.Common.{rules, zero, suc, ◌≡◌, ◌≢◌, ◌≤◌, ◌<◌, ◌^◌, ℕ, List, [], ◌∷◌, length, Bool, true, false, refl, arith}
use Rattle.std.specs.Prelude.{Result, Ok, Err, None, ◌&&◌, nat_le}
use Rattle.std.specs.Str.{IsUtf8, IsAscii}
use Rattle.std.proofs.lemmas.Str.{IsUtf8-from_ascii}
use Rattle.directory_requests.specs.Window.{is_number, number_in}
use Rattle.std.specs.Char.{is_ascii_digit}
use Rattle.std.specs.List.{list_all}
use Rattle.std.specs.Str.Parse.{digits_value, ParsesUnsigned}
use Rattle.std.proofs.lemmas.Str.Parse.{IsNumeralModel, numerals_by_value, parse_gives, digits_value_short}

own : IsNumeralModel (λ ds. list_all is_ascii_digit ds ≡ true) (digits_value 10)
own = numerals_by_value (λ ds. list_all is_ascii_digit ds ≡ true) (search rules)

pub reads : {E : Type 0} (text : List ℕ) (r : Result ℕ E) → ParsesUnsigned 32 10 text r → list_all is_ascii_digit text ≡ true → 1 ≤ length text → length text ≤ 9
    → r ≡ Ok (digits_value 10 text)
reads text r parsed digits some few =
    parse_gives own 32 text r parsed digits (omega (arith, some)) (let below : digits_value 10 text < 10 ^ 9 = digits_value_short own text 9 digits few in omega (arith, below))

-- three tests that hold together
record AreThree (a b c : Bool) : Type 0 where
  one : a ≡ true
  two : b ≡ true
  three : c ≡ true

three : (a b c : Bool) → (a && b && c) ≡ true → AreThree a b c
three true true true e = record { one = refl; two = refl; three = refl }
three true true false e = absurd cc
three true false c e = absurd cc
three false b c e = absurd cc

-- so such a text is read, and no error comes of it
pub no_fault : {E : Type 0} (text : List ℕ) (fault : E) → ParsesUnsigned 32 10 text (Err fault) → is_number text ≡ true → ⊥
no_fault text fault parsed is =
    let all = three (nat_le 1 (length text)) (nat_le (length text) 9) (list_all is_ascii_digit text) is in
    let read = reads text (Err fault) parsed all.three (at_least (length text) all.one) (at_most (length text) all.two) in absurd cc
  where
    at_least : (n : ℕ) → nat_le 1 n ≡ true → 1 ≤ n
    at_least n e = grind (arith, nat_tests)

    at_most : (n : ℕ) → nat_le n 9 ≡ true → n ≤ 9
    at_most n e = grind (arith, nat_tests)

-- digits are text
small : (c : ℕ) → is_ascii_digit c ≡ true → c < 128
small c e = grind (arith, nat_tests)

both : (a b : Bool) → (a && b) ≡ true → (a ≡ true) × (b ≡ true)
both true true e = (refl, refl)
both true false e = absurd cc
both false b e = absurd cc

first_or_later : (c : ℕ) (cs : List ℕ) → c < 128 → IsAscii cs → IsAscii (c ∷ cs)
first_or_later c cs first later zero = first
first_or_later c cs first later (suc i) = later i

ascii : (ds : List ℕ) → list_all is_ascii_digit ds ≡ true → IsAscii ds
ascii [] e = λ i. omega arith
ascii (c ∷ cs) e = let parts = both (is_ascii_digit c) (list_all is_ascii_digit cs) e in first_or_later c cs (small c parts.0) (ascii cs parts.1)

pub digits_are_text : (text : List ℕ) → list_all is_ascii_digit text ≡ true → IsUtf8 text
digits_are_text text digits = IsUtf8-from_ascii text (ascii text digits)

pub no_number : (text : List ℕ) → ¬ (IsUtf8 text) → None ≡ number_in text
no_number text isnt = by_test (is_number text) refl
  where
    by_test : (b : Bool) → is_number text ≡ b → None ≡ number_in text
    by_test false e = rw e refl
    by_test true e = absurd (isnt (digits_are_text text (three (nat_le 1 (length text)) (nat_le (length text) 9) (list_all is_ascii_digit text) e).three))
