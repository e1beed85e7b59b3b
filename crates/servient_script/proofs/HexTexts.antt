-- Bytes as lower-case hexadecimal digits, there and back.
use Rattle.std.proofs.Common.{◌≡◌, ℕ, ◌+◌, ◌*◌, ◌/◌, ◌%◌, ◌<◌, nat_le, nat_lt, Bool, true, false, ◌&&◌, ◌||◌, if◌then◌else◌, List, [], ◌∷◌, length, slice_index, All, Option, Some, None, Result, Ok, Err, codes, map, refl, sym, ap, ◌∙◌, arith, inl, inr, ◌⊎◌}
use Rattle.std.specs.Char.{is_ascii_uppercase}
use Rattle.std.specs.List.{AllPass, list_any, range_with_len}
use Rattle.std.proofs.lemmas.Bool.{cases_lt}
use Rattle.std.proofs.lemmas.Bool.Decides.{nat_tests}
use Rattle.std.proofs.lemmas.List.{get_or_past}
use Rattle.std.proofs.lemmas.List.Elements.{All-cons, All-from_get_or, All-get_or, All-head, All-nil, All-tail, All-weaker}
use Rattle.std.proofs.lemmas.List.Folds.{list_any_none}
use Rattle.std.proofs.lemmas.List.FromFn.{get_or-map-range_with_len}
use Rattle.hex.specs.Hex.{IsBytes, decode_of, decode_pairs, digit_or_error, encode_lower, encode_with, hex_digit_value, lower_digits, pair_value, value_at, ◌>>=◌}
use Rattle.hex.specs.declared.error.FromHexError.{FromHexError}
use Rattle.hex.proofs.HexLemmas.{decode_of-encode_lower, decode_of-ok, decode_of-even, length-encode_with}
use Rattle.servient_script.specs.Script.{hex_text}

-- the lower-case digit of a value below 16
abbrev pub lower_digit : ℕ → ℕ
lower_digit d = if nat_lt d 10 then 48 + d else 87 + d

-- a decimal digit or one of the letters `a` to `f`
abbrev pub is_lower_digit : ℕ → Bool
is_lower_digit c = (nat_le 48 c && nat_le c 57) || (nat_le 97 c && nat_le c 102)

-- the table of digits, by their values
lower_digits_by_value : lower_digits ≡ map lower_digit (range_with_len 0 16)
lower_digits_by_value = refl

slice_index-lower_digits : (d : ℕ) → d < 16 → slice_index lower_digits d ≡ lower_digit d
slice_index-lower_digits d small =
    ap (λ (digits : List ℕ). slice_index digits d) lower_digits_by_value
    ∙ get_or-map-range_with_len lower_digit 0 16 d d 0 small (omega arith)

-- the digits of a value are lower-case digits
is_lower_digit-lower_digit : (d : ℕ) → d < 16 → is_lower_digit (lower_digit d) ≡ true
is_lower_digit-lower_digit d small = grind (arith, nat_tests)

-- and so is each digit of the table
all_digits : (d : ℕ) → d < 16 → is_lower_digit (slice_index lower_digits d) ≡ true
all_digits d small = ap is_lower_digit (slice_index-lower_digits d small) ∙ is_lower_digit-lower_digit d small

-- a digit that is no upper-case letter is the lower-case digit of its value
lower_digit-value : (c v : ℕ) → hex_digit_value c ≡ Some v → is_ascii_uppercase c ≡ false
    → (v < 16) × (lower_digit v ≡ c)
lower_digit-value c v reads lower = (grind (arith, nat_tests), grind (arith, nat_tests))

-- bytes one by one and by index
is_bytes : (bytes : List ℕ) → All (λ b. b < 256) bytes → IsBytes bytes
is_bytes bytes each i =
    elim (cases_lt i (length bytes)) [
      | inl below ↦ All-get_or (λ b. b < 256) bytes i 0 below each
      | inr past ↦ let none = get_or_past bytes i 0 past in omega (arith, none)
    ]

-- two tests that both failed
or_parts : (a b : Bool) → (a || b) ≡ false → (a ≡ false) × (b ≡ false)
or_parts true b fails = cc fails
or_parts false b fails = (refl, fails)

-- bytes are written in lower-case digits
pub all_lower-encode_lower : (bytes : List ℕ) → All (λ b. b < 256) bytes
    → AllPass is_lower_digit (encode_lower bytes)
unfolding encode_with
all_lower-encode_lower [] each = All-nil (λ c. is_lower_digit c ≡ true)
all_lower-encode_lower (b ∷ rest) each =
    let byte : b < 256 = All-head (λ x. x < 256) b rest each in
    let high : is_lower_digit (slice_index lower_digits (b / 16)) ≡ true = all_digits (b / 16) (omega arith) in
    let low : is_lower_digit (slice_index lower_digits (b % 16)) ≡ true = all_digits (b % 16) (omega arith) in
    let more = all_lower-encode_lower rest (All-tail (λ x. x < 256) b rest each) in
    let tail : AllPass is_lower_digit (slice_index lower_digits (b % 16) ∷ encode_with lower_digits rest) =
    All-cons (λ c. is_lower_digit c ≡ true) (slice_index lower_digits (b % 16)) (encode_with lower_digits rest) low more in
    All-cons (λ c. is_lower_digit c ≡ true) (slice_index lower_digits (b / 16))
    (slice_index lower_digits (b % 16) ∷ encode_with lower_digits rest) high tail

-- the value of a digit that was read
value_read : (c i : ℕ) (o : Option ℕ) (v : ℕ) → digit_or_error c i o ≡ Ok v → o ≡ Some v
value_read c i (Some w) v reads = cc reads
value_read c i None v reads = cc reads

-- the step that an `Ok` after `>>=` shows
step_read : {A B : Type 0} (r : Result A FromHexError) (f : A → Result B FromHexError) (y : B)
    → (r >>= f) ≡ Ok y → (x : A) × (r ≡ Ok x) × (f x ≡ Ok y)
step_read (Ok x) f y reads = (x, refl, reads)
step_read (Err e) f y reads = cc reads

-- the bytes of an `Ok`
bytes_of_ok : (bytes other : List ℕ) → ◌≡◌ {A = Result (List ℕ) FromHexError} (Ok bytes) (Ok other) → bytes ≡ other
bytes_of_ok bytes other same = cc same

-- a digit of the text, from what was read of it
digit_back : (c i v : ℕ) → value_at c i ≡ Ok v → is_ascii_uppercase c ≡ false
    → (v < 16) × (slice_index lower_digits v ≡ c)
digit_back c i v reads lower =
    let value = lower_digit-value c v (value_read c i (hex_digit_value c) v reads) lower in
    (value.0, slice_index-lower_digits v value.0 ∙ value.1)

-- a pair of digits of the text, from the byte that was read
pair_back : (a b i byte : ℕ) → pair_value a b i ≡ Ok byte
    → is_ascii_uppercase a ≡ false → is_ascii_uppercase b ≡ false
    → (slice_index lower_digits (byte / 16) ≡ a) × (slice_index lower_digits (byte % 16) ≡ b)
pair_back a b i byte reads lower_a lower_b =
    let high = step_read (value_at a i) _ byte reads in
    let low = step_read (value_at b (i + 1)) _ byte high.2 in
    let first = digit_back a i high.0 high.1 lower_a in
    let second = digit_back b (i + 1) low.0 low.1 lower_b in
    let is : high.0 * 16 + low.0 ≡ byte = cc low.2 in
    let quotient : byte / 16 ≡ high.0 = omega (arith, is, first.0, second.0) in
    let remainder : byte % 16 ≡ low.0 = omega (arith, is, first.0, second.0) in
    (ap (slice_index lower_digits) quotient ∙ first.1, ap (slice_index lower_digits) remainder ∙ second.1)

-- a text with no upper-case letter is what its bytes are written as
encode_lower-decode_pairs : (i : ℕ) (text bytes : List ℕ) → decode_pairs i text ≡ Ok bytes
    → list_any is_ascii_uppercase text ≡ false → encode_lower bytes ≡ text
unfolding decode_pairs encode_with
encode_lower-decode_pairs i [] bytes reads lower = ap encode_lower (sym (bytes_of_ok [] bytes reads))
encode_lower-decode_pairs i (a ∷ []) bytes reads lower = cc reads
encode_lower-decode_pairs i (a ∷ b ∷ rest) bytes reads lower =
    let pair = step_read (pair_value a b i) _ bytes reads in
    let more = step_read (decode_pairs (i + 2) rest) _ bytes pair.2 in
    let lowers = or_parts (is_ascii_uppercase a) (is_ascii_uppercase b || list_any is_ascii_uppercase rest) lower in
    let others = or_parts (is_ascii_uppercase b) (list_any is_ascii_uppercase rest) lowers.1 in
    let back = pair_back a b i pair.0 pair.1 lowers.0 others.0 in
    let tail = encode_lower-decode_pairs (i + 2) rest more.0 more.1 others.1 in
    let is : pair.0 ∷ more.0 ≡ bytes = bytes_of_ok (pair.0 ∷ more.0) bytes more.2 in
    ap encode_lower (sym is) ∙ cc (back.0, back.1, tail)

-- the text of some bytes, from what decoding it gave
pub hex_text-decoded : (text bytes : List ℕ) → decode_of text ≡ Ok bytes
    → list_any is_ascii_uppercase text ≡ false → 0 < length text → text ≡ hex_text bytes
hex_text-decoded text [] decodes lower some = absurd (let facts = decode_of-ok text [] decodes in omega (arith, facts.2))
hex_text-decoded text (b ∷ bs) decodes lower some =
    let facts = decode_of-ok text (b ∷ bs) decodes in
    sym (encode_lower-decode_pairs 0 text (b ∷ bs) (sym (decode_of-even text facts.0) ∙ decodes) lower)

-- the facts on the text of one byte or more
pub record IsDigitsOf (text bytes : List ℕ) : Type 0 where
  pub size : length text ≡ 2 * length bytes
  pub some : 0 < length bytes
  pub decodes : decode_of text ≡ Ok bytes
  pub lower : list_any is_ascii_uppercase text ≡ false

-- a lower-case digit is no upper-case letter
not_upper : (c : ℕ) → is_lower_digit c ≡ true → is_ascii_uppercase c ≡ false
not_upper c lower = grind (arith, nat_tests)

-- a text of bytes is a dash, or their digits
pub hex_text_cases : (bytes text : List ℕ) → All (λ b. b < 256) bytes → text ≡ hex_text bytes
    → ((bytes ≡ []) × (text ≡ codes "-")) ⊎ IsDigitsOf text bytes
hex_text_cases [] text each is = inl (refl, is)
hex_text_cases (b ∷ bs) text each is =
    let digits = all_lower-encode_lower (b ∷ bs) each in
    let lower =
    All-weaker (λ c. is_lower_digit c ≡ true) (λ c. is_ascii_uppercase c ≡ false) not_upper (encode_lower (b ∷ bs)) digits in
    inr record {
      size = ap length is ∙ length-encode_with lower_digits (b ∷ bs);
      some = omega arith;
      decodes = ap decode_of is ∙ decode_of-encode_lower (b ∷ bs) (is_bytes (b ∷ bs) each);
      lower = ap (list_any is_ascii_uppercase) is ∙ list_any_none is_ascii_uppercase (encode_lower (b ∷ bs)) lower;
    }

-- the bytes that were decoded, and their number
pub decoded_bounds : (text bytes : List ℕ) → decode_of text ≡ Ok bytes
    → (length text ≡ 2 * length bytes) × All (λ b. b < 256) bytes
decoded_bounds text bytes decodes =
    let facts = decode_of-ok text bytes decodes in
    (facts.2, All-from_get_or (λ b. b < 256) bytes 0 (λ i below. facts.3 i))
