-- The bytes that the code escapes in a path are those that aren't unreserved.
use Rattle.std.proofs.Common.{◌≡◌, ℕ, ◌≤◌, Bool, true, false, cond, not, List, [], ◌∷◌, ◌++◌, inl, inr, refl, sym, ap, ◌∙◌, arith, le-leb, le-ltb}
use Rattle.std.proofs.lemmas.Bool.{agree_below, agree_below_at, cases_lt, lt-leb, ne_eqb}
use Rattle.percent_encoding.specs.AsciiSet.{should_percent_encode}
use Rattle.percent_encoding.specs.Percent.{percent_encode, percent_encode_byte, encode_byte}
use Rattle.servient_base.specs.declared.encoding.TheConstants.{ESCAPED}
use Rattle.servient_base.specs.Encoding.{is_unreserved, encoded_byte, encoded}

-- each byte of ASCII, one after another
in_ascii : agree_below (should_percent_encode ESCAPED) (λ b. not (is_unreserved b)) 128 ≡ true
unfolding should_percent_encode
in_ascii = refl

beyond_ascii : (b : ℕ) → 128 ≤ b → should_percent_encode ESCAPED b ≡ not (is_unreserved b)
unfolding should_percent_encode
beyond_ascii b beyond = rw (
  le-ltb b 128 beyond,
  le-leb 48 b (omega arith),
  lt-leb b 57 (omega arith),
  le-leb 65 b (omega arith),
  lt-leb b 90 (omega arith),
  le-leb 97 b (omega arith),
  lt-leb b 122 (omega arith),
  ne_eqb 45 b (λ same. omega arith),
  ne_eqb 46 b (λ same. omega arith),
  ne_eqb 95 b (λ same. omega arith),
  ne_eqb 126 b (λ same. omega arith),
)

same_test : (b : ℕ) → should_percent_encode ESCAPED b ≡ not (is_unreserved b)
same_test b = elim (cases_lt b 128) [
  | inl within ↦ agree_below_at (should_percent_encode ESCAPED) (λ n. not (is_unreserved n)) 128 b in_ascii within
  | inr beyond ↦ beyond_ascii b beyond
]

other_way : (t : Bool) (x y : List ℕ) → cond (not t) x y ≡ cond t y x
other_way true x y = refl
other_way false x y = refl

-- a byte is written by the set as it is encoded
pub same_byte : (b : ℕ) → encode_byte ESCAPED b ≡ encoded_byte b
same_byte b =
    ap (λ (t : Bool). cond t (percent_encode_byte b) (b ∷ [])) (same_test b)
    ∙ other_way (is_unreserved b) (percent_encode_byte b) (b ∷ [])

-- a byte of the set is escaped
pub escaped : (b : ℕ) → should_percent_encode ESCAPED b ≡ true → percent_encode_byte b ≡ encoded_byte b
escaped b test = sym (ap (λ (t : Bool). cond t (percent_encode_byte b) (b ∷ [])) test) ∙ same_byte b

-- and any other is as it is
pub unescaped : (b : ℕ) → should_percent_encode ESCAPED b ≡ false → b ∷ [] ≡ encoded_byte b
unescaped b test = sym (ap (λ (t : Bool). cond t (percent_encode_byte b) (b ∷ [])) test) ∙ same_byte b

pub encoded_by_set : (name : List ℕ) → percent_encode ESCAPED name ≡ encoded name
unfolding percent_encode
encoded_by_set [] = refl
encoded_by_set (b ∷ bs) = λ i. same_byte b i ++ encoded_by_set bs i
