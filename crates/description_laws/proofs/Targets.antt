-- The path that a target says, from the parts that were written into it.
use Rattle.std.proofs.Common.{◌≡◌, ◌≢◌, ◌<◌, ◌+◌, ℕ, suc, false, List, [], ◌∷◌, ◌++◌, length, map, take, drop, append-nil, Some, option_map, refl, ap, ◌∙◌, arith}
use Rattle.std.specs.Prelude.{◌==◌}
use Rattle.std.specs.List.{AllByRecursion, flat_map, slice_split, onto_first, position_or_len, before_first}
use Rattle.std.proofs.lemmas.Bool.Decides.{nat_tests}
use Rattle.std.proofs.lemmas.List.{take_all}
use Rattle.percent_encoding.specs.Percent.{percent_decode}
use Rattle.http_wire.specs.Targets.{path_in, segments_behind, segments_of}
use Rattle.description_laws.proofs.EncodedBytes.{IsInside}

-- parts, each behind a slash
abbrev pub slashed : List (List ℕ) → List ℕ
slashed parts = flat_map (λ s. 47 ∷ s) parts

-- no part has a slash or a question mark
abbrev pub AreParts : List (List ℕ) → Type 0
AreParts parts = AllByRecursion (AllByRecursion IsInside) parts

-- ---- the parts between slashes

abbrev cut : List ℕ → List (List ℕ)
cut bytes = slice_split (λ c. c == 47) bytes

first_part : (bytes tail first : List ℕ) (more : List (List ℕ)) → AllByRecursion IsInside bytes → cut tail ≡ first ∷ more → cut (bytes ++ tail) ≡ (bytes ++ first) ∷ more
first_part [] tail first more inside is = is
first_part (b ∷ bytes) tail first more inside is = rw isnt (ap (onto_first b) (first_part bytes tail first more inside.1 is))
  where
    other : b ≢ 47
    other = inside.0.0

    isnt : (b == 47) ≡ false
    isnt = grind (arith, nat_tests)

parts_of : (part : List ℕ) (parts : List (List ℕ)) → AllByRecursion IsInside part → AreParts parts → cut (part ++ slashed parts) ≡ part ∷ parts
parts_of part [] inside others =
    first_part part [] [] [] inside refl ∙ ap (λ (s : List ℕ). s ∷ []) (append-nil part)
parts_of part (next ∷ parts) inside others =
    first_part part (slashed (next ∷ parts)) [] (next ∷ parts) inside (ap (λ (ps : List (List ℕ)). [] ∷ ps) (parts_of next parts others.0 others.1))
    ∙ ap (λ (s : List ℕ). s ∷ next ∷ parts) (append-nil part)

-- ---- no query

abbrev pub HasNoMark : List ℕ → Type 0
HasNoMark bytes = AllByRecursion (λ b. b ≢ 63) bytes

both_without : (xs ys : List ℕ) → HasNoMark xs → HasNoMark ys → HasNoMark (xs ++ ys)
both_without [] ys one other = other
both_without (x ∷ xs) ys one other = (one.0, both_without xs ys one.1 other)

inside_has_none : (bytes : List ℕ) → AllByRecursion IsInside bytes → HasNoMark bytes
inside_has_none [] inside = tt
inside_has_none (b ∷ bytes) inside = (inside.0.1, inside_has_none bytes inside.1)

pub slashed_has_none : (parts : List (List ℕ)) → AreParts parts → HasNoMark (slashed parts)
slashed_has_none [] are = tt
slashed_has_none (part ∷ parts) are = (omega arith, both_without part (slashed parts) (inside_has_none part are.0) (slashed_has_none parts are.1))

pub no_mark : (bytes : List ℕ) → HasNoMark bytes → position_or_len (λ b. b == 63) bytes ≡ length bytes
no_mark [] none = refl
no_mark (b ∷ bytes) none = rw isnt (one_more (position_or_len (λ x. x == 63) bytes) (length bytes) (no_mark bytes none.1))
  where
    other : b ≢ 63
    other = none.0

    isnt : (b == 63) ≡ false
    isnt = grind (arith, nat_tests)

    one_more : (m n : ℕ) → m ≡ n → 1 + m ≡ suc n
    one_more m n e = omega (arith, e)

whole_before : (target : List ℕ) → HasNoMark target → before_first (λ b. b == 63) target ≡ target
whole_before target none = ap (λ (n : ℕ). take n target) (no_mark target none) ∙ take_all (length target) target (omega arith)

-- ---- the path

behind : (bytes : List ℕ) → 0 < length bytes → segments_behind bytes ≡ map percent_decode (cut bytes)
behind [] some = absurd (omega (arith, some))
behind (b ∷ bytes) some = refl

some_bytes : (part : List ℕ) (parts : List (List ℕ)) → part ∷ parts ≢ [] ∷ [] → 0 < length (part ++ slashed parts)
some_bytes [] [] isnt = absurd (isnt refl)
some_bytes [] (next ∷ parts) isnt = omega arith
some_bytes (b ∷ part) parts isnt = omega arith

pub segments_read : (part : List ℕ) (parts : List (List ℕ)) → AreParts (part ∷ parts) → part ∷ parts ≢ [] ∷ []
    → segments_behind (part ++ slashed parts) ≡ map percent_decode (part ∷ parts)
segments_read part parts are isnt =
    behind (part ++ slashed parts) (some_bytes part parts isnt) ∙ ap (λ (ps : List (List ℕ)). map percent_decode ps) (parts_of part parts are.0 are.1)

pub target_read : (part : List ℕ) (parts : List (List ℕ)) → AreParts (part ∷ parts) → part ∷ parts ≢ [] ∷ []
    → segments_of (slashed (part ∷ parts)) ≡ Some (map percent_decode (part ∷ parts))
target_read part parts are isnt =
    ap (λ (t : List ℕ). option_map (λ p. segments_behind (drop 1 p)) (path_in t)) (whole_before (slashed (part ∷ parts)) (slashed_has_none (part ∷ parts) are))
    ∙ ap Some (segments_read part parts are isnt)
