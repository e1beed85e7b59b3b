-- The paths of the URLs of a Thing.
use Rattle.std.proofs.Common.{◌≡◌, ◌≢◌, ◌<◌, ◌≤◌, ℕ, true, false, List, [], ◌∷◌, ◌++◌, map, Some, refl, sym, ap, ◌∙◌, append_assoc, append-nil, arith, le-leb, inl, inr}
use Rattle.std.specs.Prelude.{codes}
use Rattle.std.specs.List.{AllByRecursion}
use Rattle.std.proofs.lemmas.Bool.{and_parts, cases_lt, lt-leb, ne_eqb}
use Rattle.percent_encoding.specs.Percent.{percent_decode}
use Rattle.percent_encoding.proofs.PercentLemmas.{percent_decode-nil}
use Rattle.wot_forms.specs.Segments.{is_segment_byte, is_plain_segment}
use Rattle.description_laws.specs.Encoding.{AreBytes}
use Rattle.description_laws.specs.Leading.{Binding, HasPath}
use Rattle.description_laws.specs.Leading.{Http, Coap}
use Rattle.description_laws.proofs.EncodedBytes.{IsPlain, IsInside, decode_plain}
use Rattle.description_laws.proofs.Targets.{slashed, AreParts, segments_read, target_read}

-- ---- plain segments

not_segment_byte : (c b : ℕ) → is_segment_byte c ≡ false → is_segment_byte b ≡ true → b ≢ c
not_segment_byte c b isnt is same = absurd (cc)

plain_segment_byte : (b : ℕ) → is_segment_byte b ≡ true → IsPlain b
plain_segment_byte b is = record { percent = not_segment_byte 37 b refl is; slash = not_segment_byte 47 b refl is; mark = not_segment_byte 63 b refl is }

beyond : (b : ℕ) → 128 ≤ b → is_segment_byte b ≡ false
beyond b high = rw (
  le-leb 48 b (omega arith),
  lt-leb b 57 (omega arith),
  le-leb 65 b (omega arith),
  lt-leb b 90 (omega arith),
  le-leb 97 b (omega arith),
  lt-leb b 122 (omega arith),
  ne_eqb b 45 (λ same. omega arith),
  ne_eqb b 46 (λ same. omega arith),
  ne_eqb b 95 (λ same. omega arith),
  ne_eqb b 126 (λ same. omega arith),
) refl

small : (b : ℕ) → is_segment_byte b ≡ true → b < 256
small b is = elim (cases_lt b 128) [
  | inl within ↦ omega (arith, within)
  | inr high ↦ absurd (never (sym (beyond b high) ∙ is))
]
  where
    never : false ≡ true → ⊥
    never e = cc

-- of the bytes of a plain segment each is one
module _ (b : ℕ) (bytes : List ℕ) (plain : is_plain_segment (b ∷ bytes) ≡ true) where
  first_plain : is_segment_byte b ≡ true
  first_plain = (and_parts (is_segment_byte b) (is_plain_segment bytes) plain).0

  rest_plain : is_plain_segment bytes ≡ true
  rest_plain = (and_parts (is_segment_byte b) (is_plain_segment bytes) plain).1

pub plain_bytes : (segment : List ℕ) → is_plain_segment segment ≡ true → AreBytes segment
plain_bytes [] plain = tt
plain_bytes (b ∷ bytes) plain = (small b (first_plain b bytes plain), plain_bytes bytes (rest_plain b bytes plain))

pub plain_inside : (segment : List ℕ) → is_plain_segment segment ≡ true → AllByRecursion IsInside segment
plain_inside [] plain = tt
plain_inside (b ∷ bytes) plain =
    let is = plain_segment_byte b (first_plain b bytes plain) in
    ((is.slash, is.mark), plain_inside bytes (rest_plain b bytes plain))

pub plain_decoded : (segment : List ℕ) → is_plain_segment segment ≡ true → percent_decode segment ≡ segment
plain_decoded [] plain = percent_decode-nil
plain_decoded (b ∷ bytes) plain =
    decode_plain b bytes (plain_segment_byte b (first_plain b bytes plain)).percent ∙ ap (λ (s : List ℕ). b ∷ s) (plain_decoded bytes (rest_plain b bytes plain))

-- ---- URLs of parts

-- a base, and parts behind it
abbrev pub url_of : List ℕ → List (List ℕ) → List ℕ
url_of base [] = base
url_of base (part ∷ parts) = url_of (base ++ codes "/" ++ part) parts

pub url_is : (base : List ℕ) (parts : List (List ℕ)) → url_of base parts ≡ base ++ slashed parts
url_is base [] = sym (append-nil base)
url_is base (part ∷ parts) =
    url_is (base ++ codes "/" ++ part) parts
    ∙ append_assoc (base ++ codes "/") part (slashed parts)
    ∙ append_assoc base (codes "/") (part ++ slashed parts)

pub has_path : (b : Binding) (base part : List ℕ) (parts : List (List ℕ)) (url : List ℕ) (path : List (List ℕ)) → AreParts (part ∷ parts) → part ∷ parts ≢ [] ∷ []
    → url ≡ url_of base (part ∷ parts) → map percent_decode (part ∷ parts) ≡ path → HasPath base b url path
has_path Http base part parts url path are isnt is decoded =
    record { target = slashed (part ∷ parts); behind = is ∙ url_is base (part ∷ parts); said = target_read part parts are isnt ∙ ap Some decoded }
has_path Coap base part parts url path are isnt is decoded =
    record { target = slashed (part ∷ parts); behind = is ∙ url_is base (part ∷ parts); said = ap Some (segments_read part parts are isnt ∙ decoded) }
