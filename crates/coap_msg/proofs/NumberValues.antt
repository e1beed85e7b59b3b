-- Numbers as the values of options, written and read again (RFC 7252, section 3.2).
use Rattle.std.proofs.Common.{◌≡◌, ℕ, ◌/◌, ◌%◌, ◌^◌, ◌<◌, ◌≤◌, Bool, true, false, List, [], ◌∷◌, length, refl, ap, sym, subst, arith}
use Rattle.std.specs.Prelude.{nat_lt, slice_set, if◌then◌else◌}
use Rattle.std.proofs.lemmas.Bool.Decides.{nat_tests}
use Rattle.coap_msg.specs.Numbers.{number_of, number_bytes}
use Rattle.coap_msg.specs.Written.{IsWritten}

-- the bytes of a number, by its tests
abbrev bytes_at : ℕ → Bool → Bool → Bool → Bool → List ℕ
bytes_at n none one two three =
    if none then []
    else if one then n ∷ []
    else if two then (n / 256) ∷ (n % 256) ∷ []
    else if three then (n / 65536) ∷ (n / 256 % 256) ∷ (n % 256) ∷ []
    else (n / 16777216) ∷ (n / 65536 % 256) ∷ (n / 256 % 256) ∷ (n % 256) ∷ []

-- a number is read again, by its tests
read_at : (n : ℕ) (none one two three : Bool) → nat_lt n 1 ≡ none → nat_lt n 256 ≡ one → nat_lt n 65536 ≡ two → nat_lt n 16777216 ≡ three → n < 2 ^ 32
    → number_of (bytes_at n none one two three) ≡ n
read_at n true one two three a b c d h = let zero : n ≡ 0 = grind (arith, nat_tests) in sym zero
read_at n false true two three a b c d h = omega arith
read_at n false false true three a b c d h = omega arith
read_at n false false false true a b c d h = omega arith
read_at n false false false false a b c d h = omega arith

pub number_is_read : (n : ℕ) → n < 2 ^ 32 → number_of (number_bytes n) ≡ n
number_is_read n h = read_at n (nat_lt n 1) (nat_lt n 256) (nat_lt n 65536) (nat_lt n 16777216) refl refl refl refl h

-- a number is four bytes at most, and three below 2^24
length_at : (n : ℕ) (none one two three : Bool) → length (bytes_at n none one two three) ≤ 4
length_at n true one two three = omega arith
length_at n false true two three = omega arith
length_at n false false true three = omega arith
length_at n false false false true = omega arith
length_at n false false false false = omega arith

pub number_length : (n : ℕ) → length (number_bytes n) ≤ 4
number_length n = length_at n (nat_lt n 1) (nat_lt n 256) (nat_lt n 65536) (nat_lt n 16777216)

short_at : (n : ℕ) (none one two : Bool) → length (bytes_at n none one two true) ≤ 3
short_at n true one two = omega arith
short_at n false true two = omega arith
short_at n false false true = omega arith
short_at n false false false = omega arith

pub short_length : (n : ℕ) → n < 2 ^ 24 → length (number_bytes n) ≤ 3
short_length n low =
    let three : nat_lt n 16777216 ≡ true = grind (arith, nat_tests) in
    subst (λ (b : Bool). length (bytes_at n (nat_lt n 1) (nat_lt n 256) (nat_lt n 65536) b) ≤ 3) (sym three) (short_at n (nat_lt n 1) (nat_lt n 256) (nat_lt n 65536))

-- a number above 0 has a first byte, which isn't 0, and three more at most
first_at : (n : ℕ) (none one two three : Bool) → nat_lt n 1 ≡ none → nat_lt n 256 ≡ one → nat_lt n 65536 ≡ two → nat_lt n 16777216 ≡ three → 0 < n
    → (b : ℕ) × (rest : List ℕ) × (bytes_at n none one two three ≡ b ∷ rest) × (0 < b) × (length rest ≤ 3)
first_at n true one two three a b c d some = absurd (let zero : n ≡ 0 = grind (arith, nat_tests) in omega (arith, zero, some))
first_at n false true two three a b c d some = (n, [], refl, some, omega arith)
first_at n false false true three a b c d some =
    let many : 256 ≤ n = grind (arith, nat_tests) in (n / 256, n % 256 ∷ [], refl, omega arith, omega arith)
first_at n false false false true a b c d some =
    let many : 65536 ≤ n = grind (arith, nat_tests) in (n / 65536, (n / 256 % 256) ∷ (n % 256) ∷ [], refl, omega arith, omega arith)
first_at n false false false false a b c d some =
    let many : 16777216 ≤ n = grind (arith, nat_tests) in
    (n / 16777216, (n / 65536 % 256) ∷ (n / 256 % 256) ∷ (n % 256) ∷ [], refl, omega arith, omega arith)

pub first_byte : (n : ℕ) → 0 < n → (b : ℕ) × (rest : List ℕ) × (number_bytes n ≡ b ∷ rest) × (0 < b) × (length rest ≤ 3)
first_byte n some = first_at n (nat_lt n 1) (nat_lt n 256) (nat_lt n 65536) (nat_lt n 16777216) refl refl refl refl some

-- numbers of one byte and of two, as they are written
short_one : (n : ℕ) → 0 < n → n < 256 → n % 256 ∷ [] ≡ number_bytes n
short_one n some one =
    let none : nat_lt n 1 ≡ false = grind (arith, nat_tests) in
    let byte : nat_lt n 256 ≡ true = grind (arith, nat_tests) in
    let low : n % 256 ≡ n = omega arith in
    rw none (rw byte (ap (λ (b : ℕ). b ∷ []) low))

short_two : (n : ℕ) → 256 ≤ n → n < 65536 → (n / 256 % 256) ∷ (n % 256) ∷ [] ≡ number_bytes n
short_two n many two =
    let none : nat_lt n 1 ≡ false = grind (arith, nat_tests) in
    let byte : nat_lt n 256 ≡ false = grind (arith, nat_tests) in
    let few : nat_lt n 65536 ≡ true = grind (arith, nat_tests) in
    let high : n / 256 % 256 ≡ n / 256 = omega arith in
    rw none (rw byte (rw few (ap (λ (b : ℕ). b ∷ (n % 256) ∷ []) high)))

pub one_written : (out : List ℕ) (n : ℕ) → length out ≡ 3 → 0 < n → n < 256 → IsWritten (number_bytes n) 1 out (slice_set out 0 (n % 256))
one_written [] n long some one = absurd (omega (arith, long))
one_written (a ∷ out) n long some one = record { within = omega arith; front = short_one n some one; rest = refl }

pub two_written : (out : List ℕ) (n : ℕ) → length out ≡ 3 → 256 ≤ n → n < 65536 → IsWritten (number_bytes n) 2 out (slice_set (slice_set out 0 (n / 256 % 256)) 1 (n % 256))
two_written [] n long many two = absurd (omega (arith, long))
two_written (a ∷ []) n long many two = absurd (omega (arith, long))
two_written (a ∷ b ∷ out) n long many two = record { within = omega arith; front = short_two n many two; rest = refl }
