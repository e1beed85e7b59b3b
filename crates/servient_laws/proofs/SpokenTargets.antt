-- The target that says a path has that path, and no query.
use Rattle.std.proofs.Common.{◌≡◌, ◌≢◌, ◌<◌, ◌≤◌, ◌/◌, ◌%◌, ℕ, Bool, true, false, List, [], ◌∷◌, ◌++◌, length, map, take, drop, append-nil, Some, option_map, refl, ap, ap₂, ◌∙◌, arith}
use Rattle.std.specs.Prelude.{◌==◌, nat_lt}
use Rattle.std.specs.List.{AllByRecursion, flat_map, slice_split, onto_first, before_first}
use Rattle.std.specs.Fmt.{digit_glyph}
use Rattle.std.proofs.lemmas.Bool.Decides.{nat_tests}
use Rattle.std.proofs.lemmas.List.{take_all}
use Rattle.percent_encoding.specs.Percent.{percent_encode_byte, percent_decode}
use Rattle.percent_encoding.proofs.PercentLemmas.{percent_decode-nil, percent_decode-percent_encode_byte}
use Rattle.http_wire.specs.Targets.{path_in, segments_behind, segments_of}
use Rattle.http_wire.specs.Reading.{query_of}
use Rattle.servient_laws.specs.Spoken.{encoded, target_of}
use Rattle.description_laws.proofs.Targets.{no_mark}
use Rattle.consumer_laws.proofs.Targets.{no_query as without_mark}

-- ---- the bytes of a target

-- a byte of an escape
abbrev pub IsSafe : ℕ → Type 0
IsSafe b = (37 ≤ b) × (b ≤ 70) × (b ≢ 47) × (b ≢ 63)

glyph_is_safe : (d : ℕ) → d < 16 → IsSafe (digit_glyph true d)
glyph_is_safe d less = by (nat_lt d 10) refl
  where
    by : (b : Bool) → nat_lt d 10 ≡ b → IsSafe (digit_glyph true d)
    by true small = let n : d < 10 = grind (arith, nat_tests) in rw small (omega arith, omega arith, omega arith, omega arith)
    by false large = let n : 10 ≤ d = grind (arith, nat_tests) in rw large (omega (arith, less), omega (arith, less), omega arith, omega arith)

pub encoded_is_safe : (segment : List ℕ) → AllByRecursion (λ b. b < 256) segment → AllByRecursion IsSafe (encoded segment)
unfolding percent_encode_byte
encoded_is_safe [] bytes = tt
encoded_is_safe (b ∷ segment) bytes =
    ((omega arith, omega arith, omega arith, omega arith), (glyph_is_safe (b / 16 % 16) (omega arith), (glyph_is_safe (b % 16) (omega arith), encoded_is_safe segment bytes.1)))

decode_encoded : (segment : List ℕ) → AllByRecursion (λ b. b < 256) segment → percent_decode (encoded segment) ≡ segment
decode_encoded [] bytes = percent_decode-nil
decode_encoded (b ∷ segment) bytes = percent_decode-percent_encode_byte b (encoded segment) bytes.0 ∙ ap (λ (s : List ℕ). b ∷ s) (decode_encoded segment bytes.1)

-- ---- the parts between slashes

abbrev parts : List ℕ → List (List ℕ)
parts bytes = slice_split (λ c. c == 47) bytes

abbrev slashed : List (List ℕ) → List ℕ
slashed path = flat_map (λ s. 47 ∷ encoded s) path

first_part : (bytes tail first : List ℕ) (more : List (List ℕ)) → AllByRecursion IsSafe bytes → parts tail ≡ first ∷ more → parts (bytes ++ tail) ≡ (bytes ++ first) ∷ more
first_part [] tail first more safe is = is
first_part (b ∷ bytes) tail first more safe is = rw isnt (ap (onto_first b) (first_part bytes tail first more safe.1 is))
  where
    other : b ≢ 47
    other = safe.0.2

    isnt : (b == 47) ≡ false
    isnt = grind (arith, nat_tests)

parts_of : (segment : List ℕ) (path : List (List ℕ)) → AllByRecursion (λ b. b < 256) segment → AllByRecursion (AllByRecursion (λ b. b < 256)) path
    → parts (encoded segment ++ slashed path) ≡ map encoded (segment ∷ path)
parts_of segment [] bytes others =
    first_part (encoded segment) [] [] [] (encoded_is_safe segment bytes) refl ∙ ap (λ (s : List ℕ). s ∷ []) (append-nil (encoded segment))
parts_of segment (next ∷ path) bytes others =
    first_part (encoded segment) (slashed (next ∷ path)) [] (map encoded (next ∷ path)) (encoded_is_safe segment bytes)
    (ap (λ (ps : List (List ℕ)). [] ∷ ps) (parts_of next path others.0 others.1))
    ∙ ap (λ (s : List ℕ). s ∷ map encoded (next ∷ path)) (append-nil (encoded segment))

all_decoded : (path : List (List ℕ)) → AllByRecursion (AllByRecursion (λ b. b < 256)) path → map percent_decode (map encoded path) ≡ path
all_decoded [] bytes = refl
all_decoded (segment ∷ path) bytes = ap₂ (λ (s : List ℕ) (p : List (List ℕ)). s ∷ p) (decode_encoded segment bytes.0) (all_decoded path bytes.1)

-- ---- no query

-- a byte of a target: one of an escape, or a slash
abbrev pub IsTargetByte : ℕ → Type 0
IsTargetByte b = (37 ≤ b) × (b ≤ 70) × (b ≢ 63)

both_safe : (a b : List ℕ) → AllByRecursion IsTargetByte a → AllByRecursion IsTargetByte b → AllByRecursion IsTargetByte (a ++ b)
both_safe [] b p q = q
both_safe (x ∷ a) b p q = (p.0, both_safe a b p.1 q)

weaker : (bytes : List ℕ) → AllByRecursion IsSafe bytes → AllByRecursion IsTargetByte bytes
weaker [] safe = tt
weaker (b ∷ bytes) safe = ((safe.0.0, safe.0.1, safe.0.3), weaker bytes safe.1)

slashed_bytes : (path : List (List ℕ)) → AllByRecursion (AllByRecursion (λ b. b < 256)) path → AllByRecursion IsTargetByte (slashed path)
slashed_bytes [] bytes = tt
slashed_bytes (segment ∷ path) bytes = ((omega arith, omega arith, omega arith), both_safe (encoded segment) (slashed path) (weaker (encoded segment) (encoded_is_safe segment bytes.0)) (slashed_bytes path bytes.1))

pub target_bytes : (path : List (List ℕ)) → AllByRecursion (AllByRecursion (λ b. b < 256)) path → AllByRecursion IsTargetByte (target_of path)
target_bytes [] bytes = ((omega arith, omega arith, omega arith), tt)
target_bytes (segment ∷ path) bytes = slashed_bytes (segment ∷ path) bytes

-- none of these bytes begins a query
unmarked : (bytes : List ℕ) → AllByRecursion IsTargetByte bytes → AllByRecursion (λ b. b ≢ 63) bytes
unmarked [] safe = tt
unmarked (b ∷ bytes) safe = (safe.0.2, unmarked bytes safe.1)

pub no_query : (target : List ℕ) → AllByRecursion IsTargetByte target → query_of target ≡ []
no_query target safe = without_mark target (unmarked target safe)

-- ---- the path

whole_before : (target : List ℕ) → AllByRecursion IsTargetByte target → before_first (λ b. b == 63) target ≡ target
whole_before target safe = ap (λ (n : ℕ). take n target) (no_mark target (unmarked target safe)) ∙ take_all (length target) target (omega arith)

behind : (bytes : List ℕ) → 0 < length bytes → segments_behind bytes ≡ map percent_decode (parts bytes)
behind [] some = absurd (omega (arith, some))
behind (b ∷ bytes) some = refl

some_bytes : (segment : List ℕ) (path : List (List ℕ)) → segment ∷ path ≢ [] ∷ [] → 0 < length (encoded segment ++ slashed path)
unfolding percent_encode_byte
some_bytes [] [] isnt = absurd (isnt refl)
some_bytes [] (next ∷ path) isnt = omega arith
some_bytes (b ∷ segment) path isnt = omega arith

pub path_is_read : (path : List (List ℕ)) → AllByRecursion (AllByRecursion (λ b. b < 256)) path → path ≢ [] ∷ [] → segments_of (target_of path) ≡ Some path
path_is_read [] bytes isnt = refl
path_is_read (segment ∷ path) bytes isnt =
    ap (λ (t : List ℕ). option_map (λ p. segments_behind (drop 1 p)) (path_in t)) (whole_before (target_of (segment ∷ path)) (target_bytes (segment ∷ path) bytes))
    ∙ ap Some (behind (encoded segment ++ slashed path) (some_bytes segment path isnt) ∙ ap (λ (ps : List (List ℕ)). map percent_decode ps) (parts_of segment path bytes.0 bytes.1) ∙ all_decoded (segment ∷ path) bytes)
