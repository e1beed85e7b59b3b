-- A byte that is encoded is read back, and no byte of the encoding ends a segment or a path.
use Rattle.std.proofs.Common.{◌≡◌, ◌≢◌, ◌<◌, ◌≤◌, ◌+◌, ◌/◌, ◌%◌, ℕ, Bool, true, false, List, [], ◌∷◌, ◌++◌, refl, ap, ◌∙◌, arith}
use Rattle.std.specs.Prelude.{◌==◌, nat_lt, if◌then◌else◌}
use Rattle.std.specs.List.{AllByRecursion}
use Rattle.std.specs.Fmt.{digit_glyph}
use Rattle.std.proofs.lemmas.Bool.Decides.{nat_tests}
use Rattle.percent_encoding.specs.Percent.{percent_encode_byte, percent_decode}
use Rattle.percent_encoding.proofs.PercentLemmas.{percent_decode-nil, percent_decode-percent_encode_byte}
use Rattle.servient_base.specs.Encoding.{is_unreserved, encoded_byte, encoded}
use Rattle.description_laws.specs.Encoding.{EncodingIsUndone}

-- a byte that stands for itself in a segment
pub record IsPlain (b : ℕ) : Type 0 where
  pub percent : b ≢ 37
  pub slash : b ≢ 47
  pub mark : b ≢ 63

other_than : (c b : ℕ) → is_unreserved c ≡ false → is_unreserved b ≡ true → b ≢ c
other_than c b isnt is same = absurd (cc)

pub plain_byte : (b : ℕ) → is_unreserved b ≡ true → IsPlain b
plain_byte b is = record { percent = other_than 37 b refl is; slash = other_than 47 b refl is; mark = other_than 63 b refl is }

-- a byte that isn't `%` is read as it is
pub decode_plain : (b : ℕ) (bytes : List ℕ) → b ≢ 37 → percent_decode (b ∷ bytes) ≡ b ∷ percent_decode bytes
unfolding percent_decode
decode_plain b [] other = refl
decode_plain b (c ∷ []) other = refl
decode_plain b (high ∷ low ∷ rest) other = rw isnt refl
  where
    isnt : (b == 37) ≡ false
    isnt = grind (arith, nat_tests)

decode_byte : (b : ℕ) (bytes : List ℕ) → b < 256 → percent_decode (encoded_byte b ++ bytes) ≡ b ∷ percent_decode bytes
decode_byte b bytes small = by (is_unreserved b) refl
  where
    by : (t : Bool) → is_unreserved b ≡ t → percent_decode ((if t then b ∷ [] else percent_encode_byte b) ++ bytes) ≡ b ∷ percent_decode bytes
    by true is = decode_plain b bytes (plain_byte b is).percent
    by false is = percent_decode-percent_encode_byte b bytes small

pub undone : EncodingIsUndone
undone [] are = percent_decode-nil
undone (b ∷ bytes) are = decode_byte b (encoded bytes) are.0 ∙ ap (λ (s : List ℕ). b ∷ s) (undone bytes are.1)

-- ---- the bytes of a segment

-- a byte that ends neither a segment nor a path
abbrev pub IsInside : ℕ → Type 0
IsInside b = (b ≢ 47) × (b ≢ 63)

pub both_inside : (xs ys : List ℕ) → AllByRecursion IsInside xs → AllByRecursion IsInside ys → AllByRecursion IsInside (xs ++ ys)
both_inside [] ys one other = other
both_inside (x ∷ xs) ys one other = (one.0, both_inside xs ys one.1 other)

-- An encoding has a property of all its bytes where those have it that stand for themselves, the mark of an escape, the
-- digits and the letters from A to F.
glyph_has : (P : ℕ → Type 0) → ((b : ℕ) → 48 ≤ b → b ≤ 57 → P b) → ((b : ℕ) → 65 ≤ b → b ≤ 70 → P b) → (d : ℕ) → d < 16 → P (digit_glyph true d)
glyph_has P digit letter d less = by (nat_lt d 10) refl
  where
    by : (b : Bool) → nat_lt d 10 ≡ b → P (digit_glyph true d)
    by true small = let n : d < 10 = grind (arith, nat_tests) in rw small (digit (48 + d) (omega arith) (omega (arith, n)))
    by false large = let n : 10 ≤ d = grind (arith, nat_tests) in rw large (letter (55 + d) (omega (arith, n)) (omega (arith, less)))

pub byte_has : (P : ℕ → Type 0) → ((b : ℕ) → is_unreserved b ≡ true → P b) → P 37 → ((b : ℕ) → 48 ≤ b → b ≤ 57 → P b) → ((b : ℕ) → 65 ≤ b → b ≤ 70 → P b) → (b : ℕ) → AllByRecursion P (encoded_byte b)
unfolding percent_encode_byte
byte_has P itself mark digit letter b = by (is_unreserved b) refl
  where
    escape : AllByRecursion P (percent_encode_byte b)
    escape = (mark, (glyph_has P digit letter (b / 16 % 16) (omega arith), (glyph_has P digit letter (b % 16) (omega arith), tt)))

    by : (t : Bool) → is_unreserved b ≡ t → AllByRecursion P (if t then b ∷ [] else percent_encode_byte b)
    by true is = (itself b is, tt)
    by false is = escape

byte_is_inside : (b : ℕ) → AllByRecursion IsInside (encoded_byte b)
byte_is_inside =
    byte_has IsInside (λ b is. ((plain_byte b is).slash, (plain_byte b is).mark)) (omega arith, omega arith)
    (λ b low high. (omega (arith, high), omega (arith, high))) (λ b low high. (omega (arith, low), omega (arith, low)))

pub encoded_is_inside : (bytes : List ℕ) → AllByRecursion IsInside (encoded bytes)
encoded_is_inside [] = tt
encoded_is_inside (b ∷ bytes) = both_inside (encoded_byte b) (encoded bytes) (byte_is_inside b) (encoded_is_inside bytes)
