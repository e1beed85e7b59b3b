-- An option delta or length: its nibble and extended bytes, read and written.
use Rattle.std.proofs.Common.{◌≡◌, ℕ, ◌+◌, ◌-◌, ◌*◌, ◌/◌, ◌%◌, ◌^◌, ◌<◌, ◌≤◌, true, false, ltb, eqb, List, [], ◌∷◌, ◌++◌, length, get_or, Option, Some, None, refl, subst, arith, inl, inr}
use Rattle.std.proofs.lemmas.Bool.{cases_lt, cases_eq, lt-ltb, le-ltb, eq-eqb, ne_eqb}
use Rattle.std.proofs.lemmas.Option.{same_Some}
use Rattle.coap_msg.specs.Grammar.{nibble, extended, largest_number}
use Rattle.coap_msg.specs.Options.{number_at, one_byte, two_bytes}

-- each number of a list is a byte
abbrev pub IsBytes : List ℕ → Type 0
IsBytes bytes = (i : ℕ) → get_or bytes i 0 < 2 ^ 8

-- a nibble and the bytes up to the rest spell a number
pub record TakesNumber (n number : ℕ) (bytes rest : List ℕ) : Type 0 where
  pub nibble_is : n ≡ nibble number
  pub bytes_are : bytes ≡ extended number ++ rest
  pub bound : number ≤ largest_number

-- a nibble below 13 is the number itself
takes_none : (n : ℕ) (bytes : List ℕ) → n < 13 → TakesNumber n n bytes bytes
takes_none n bytes lt =
    let below : ltb n 13 ≡ true = lt-ltb n 13 lt in
    record { nibble_is = rw below refl; bytes_are = rw below refl; bound = omega arith }

-- the nibble 13 takes one byte
takes_one : (b : ℕ) (rest : List ℕ) → b < 2 ^ 8 → TakesNumber 13 (b + 13) (b ∷ rest) rest
takes_one b rest byte =
    let above : ltb (b + 13) 13 ≡ false = le-ltb (b + 13) 13 (omega arith) in
    let below : ltb (b + 13) 269 ≡ true = lt-ltb (b + 13) 269 (omega arith) in
    let back : b + 13 - 13 ≡ b = omega arith in
    record { nibble_is = rw (above, below) refl; bytes_are = rw (above, below, back) refl; bound = omega arith }

-- the nibble 14 takes two bytes
takes_two : (high low : ℕ) (rest : List ℕ) → high < 2 ^ 8 → low < 2 ^ 8 →
    TakesNumber 14 (256 * high + low + 269) (high ∷ low ∷ rest) rest
takes_two high low rest h l =
    let above : ltb (256 * high + low + 269) 13 ≡ false = le-ltb _ 13 (omega arith) in
    let beyond : ltb (256 * high + low + 269) 269 ≡ false = le-ltb _ 269 (omega arith) in
    let high_is : (256 * high + low + 269 - 269) / 256 ≡ high = omega arith in
    let low_is : (256 * high + low + 269 - 269) % 256 ≡ low = omega arith in
    record { nibble_is = rw (above, beyond) refl; bytes_are = rw (above, beyond, high_is, low_is) refl; bound = omega arith }

-- the same for the number and the rest that a reading function names
renamed : (n : ℕ) (bytes : List ℕ) (x y : ℕ × List ℕ) → TakesNumber n x.0 bytes x.1 →
    ◌≡◌ {A = Option (ℕ × List ℕ)} (Some x) (Some y) → TakesNumber n y.0 bytes y.1
renamed n bytes x y takes same =
    subst (λ (z : ℕ × List ℕ). TakesNumber n z.0 bytes z.1) (same_Some x y same) takes

-- a number that `one_byte` reads is spelled there
one_byte_takes : (bytes : List ℕ) (x : ℕ × List ℕ) → IsBytes bytes → one_byte bytes ≡ Some x →
    TakesNumber 13 x.0 bytes x.1
one_byte_takes [] x are_bytes read = absurd cc
one_byte_takes (b ∷ bytes) x are_bytes read =
    renamed 13 (b ∷ bytes) (b + 13, bytes) x (takes_one b bytes (are_bytes 0)) read

-- a number that `two_bytes` reads is spelled there
two_bytes_takes : (bytes : List ℕ) (x : ℕ × List ℕ) → IsBytes bytes → two_bytes bytes ≡ Some x →
    TakesNumber 14 x.0 bytes x.1
two_bytes_takes [] x are_bytes read = absurd cc
two_bytes_takes (high ∷ []) x are_bytes read = absurd cc
two_bytes_takes (high ∷ low ∷ bytes) x are_bytes read =
    renamed 14 (high ∷ low ∷ bytes) (256 * high + low + 269, bytes) x (takes_two high low bytes (are_bytes 0) (are_bytes 1)) read

-- `None` is not `Some`
pub none_read : {A : Type 0} (o : Option A) (x : A) → o ≡ None → o ≡ Some x → ⊥
none_read o x none some = absurd cc

-- a number that `number_at` reads is spelled there
pub number_takes : (n : ℕ) (bytes : List ℕ) (x : ℕ × List ℕ) → IsBytes bytes → number_at n bytes ≡ Some x →
    TakesNumber n x.0 bytes x.1
unfolding number_at
number_takes n bytes x are_bytes read =
    elim (cases_lt n 13) [
      | inl lt ↦ let below : ltb n 13 ≡ true = lt-ltb n 13 lt in renamed n bytes (n, bytes) x (takes_none n bytes lt) (rw below at read)
      | inr ge ↦ let above : ltb n 13 ≡ false = le-ltb n 13 ge in elim (cases_eq n 13) [
        | inl is ↦ let one : eqb n 13 ≡ true = eq-eqb n 13 is in rw is (one_byte_takes bytes x are_bytes (rw (above, one) at read))
        | inr isnt ↦ let not_one : eqb n 13 ≡ false = ne_eqb n 13 isnt in elim (cases_eq n 14) [
          | inl is ↦ let two : eqb n 14 ≡ true = eq-eqb n 14 is in rw is (two_bytes_takes bytes x are_bytes (rw (above, not_one, two) at read))
          | inr neither ↦ let not_two : eqb n 14 ≡ false = ne_eqb n 14 neither in
              absurd (none_read (number_at n bytes) x (rw (above, not_one, not_two) refl) read)
        ]
      ]
    ]

-- a number that is spelled is read again
pub number_at-extended : (number : ℕ) (rest : List ℕ) → number ≤ largest_number →
    number_at (nibble number) (extended number ++ rest) ≡ Some (number, rest)
unfolding number_at
number_at-extended number rest bound =
    elim (cases_lt number 13) [
      | inl lt ↦ let below : ltb number 13 ≡ true = lt-ltb number 13 lt in rw (below, below) refl
      | inr ge ↦ let above : ltb number 13 ≡ false = le-ltb number 13 ge in elim (cases_lt number 269) [
        | inl lt ↦ let below : ltb number 269 ≡ true = lt-ltb number 269 lt in
            let back : number - 13 + 13 ≡ number = omega arith in rw (above, below, back) refl
        | inr ge ↦ let beyond : ltb number 269 ≡ false = le-ltb number 269 ge in
            let back : 256 * ((number - 269) / 256) + (number - 269) % 256 + 269 ≡ number = omega arith in rw (above, beyond, back) refl
      ]
    ]

-- a nibble is never 15
pub nibble_below : (number : ℕ) → nibble number ≤ 14
nibble_below number = elim (cases_lt number 13) [
  | inl lt ↦ let below : ltb number 13 ≡ true = lt-ltb number 13 lt in rw below (omega arith)
  | inr ge ↦ let above : ltb number 13 ≡ false = le-ltb number 13 ge in elim (cases_lt number 269) [
    | inl lt ↦ let below : ltb number 269 ≡ true = lt-ltb number 269 lt in rw (above, below) (omega arith)
    | inr ge ↦ let beyond : ltb number 269 ≡ false = le-ltb number 269 ge in rw (above, beyond) (omega arith)
  ]
]

-- `one_byte` leaves no more bytes than there were
one_byte_shrinks : (bytes : List ℕ) (x : ℕ × List ℕ) → one_byte bytes ≡ Some x → length x.1 ≤ length bytes
one_byte_shrinks [] x read = absurd cc
one_byte_shrinks (b ∷ bytes) x read =
    subst (λ (y : ℕ × List ℕ). length y.1 ≤ length (b ∷ bytes)) (same_Some (b + 13, bytes) x read) (omega arith)

-- `two_bytes` leaves no more bytes than there were
two_bytes_shrinks : (bytes : List ℕ) (x : ℕ × List ℕ) → two_bytes bytes ≡ Some x → length x.1 ≤ length bytes
two_bytes_shrinks [] x read = absurd cc
two_bytes_shrinks (high ∷ []) x read = absurd cc
two_bytes_shrinks (high ∷ low ∷ bytes) x read =
    subst (λ (y : ℕ × List ℕ). length y.1 ≤ length (high ∷ low ∷ bytes)) (same_Some (256 * high + low + 269, bytes) x read) (omega arith)

-- `number_at` leaves no more bytes than there were
pub number_shrinks : (n : ℕ) (bytes : List ℕ) (x : ℕ × List ℕ) → number_at n bytes ≡ Some x →
    length x.1 ≤ length bytes
unfolding number_at
number_shrinks n bytes x read =
    elim (cases_lt n 13) [
      | inl lt ↦ let below : ltb n 13 ≡ true = lt-ltb n 13 lt in
          subst (λ (y : ℕ × List ℕ). length y.1 ≤ length bytes) (same_Some (n, bytes) x (rw below at read)) (omega arith)
      | inr ge ↦ let above : ltb n 13 ≡ false = le-ltb n 13 ge in elim (cases_eq n 13) [
        | inl is ↦ let one : eqb n 13 ≡ true = eq-eqb n 13 is in one_byte_shrinks bytes x (rw (above, one) at read)
        | inr isnt ↦ let not_one : eqb n 13 ≡ false = ne_eqb n 13 isnt in elim (cases_eq n 14) [
          | inl is ↦ let two : eqb n 14 ≡ true = eq-eqb n 14 is in two_bytes_shrinks bytes x (rw (above, not_one, two) at read)
          | inr neither ↦ let not_two : eqb n 14 ≡ false = ne_eqb n 14 neither in
              absurd (none_read (number_at n bytes) x (rw (above, not_one, not_two) refl) read)
        ]
      ]
    ]
