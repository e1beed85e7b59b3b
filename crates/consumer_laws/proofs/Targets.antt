-- The target of a request has the path that was chosen, and no query.
use Rattle.std.proofs.Common.{◌≡◌, ◌≢◌, ◌<◌, ◌≤◌, ◌+◌, ℕ, Bool, true, false, List, [], ◌∷◌, ◌++◌, length, map, drop, Some, refl, ap, ap₂, ◌∙◌, sym, arith, le-leb, inl, inr}
use Rattle.std.specs.Prelude.{nat_lt, if◌then◌else◌}
use Rattle.std.specs.List.{AllByRecursion}
use Rattle.std.proofs.lemmas.Bool.{cases_lt, lt-leb, ne_eqb}
use Rattle.std.proofs.lemmas.Bool.Decides.{nat_tests}
use Rattle.std.proofs.lemmas.List.{drop_all}
use Rattle.percent_encoding.specs.Percent.{percent_encode_byte, percent_decode}
use Rattle.servient_base.specs.Encoding.{is_unreserved, encoded_byte, encoded}
use Rattle.http_wire.specs.Targets.{segments_of}
use Rattle.http_wire.specs.Reading.{query_of}
use Rattle.wot_consumer.specs.Messages.{segments_text, path_text}
use Rattle.description_laws.specs.Encoding.{AreBytes}
use Rattle.description_laws.proofs.EncodedBytes.{byte_has, encoded_is_inside, undone}
use Rattle.description_laws.proofs.Targets.{slashed, AreParts, HasNoMark, slashed_has_none, no_mark, target_read}
use Rattle.consumer_laws.specs.Asking.{IsVisible}
use Rattle.consumer_laws.proofs.HeadBytes.{both_all}

-- ---- its bytes can be seen

below : (b : ℕ) → b < 33 → is_unreserved b ≡ false
below b low = rw (
  lt-leb 48 b (omega arith),
  lt-leb 65 b (omega arith),
  lt-leb 97 b (omega arith),
  ne_eqb 45 b (λ same. omega (arith, low)),
  ne_eqb 46 b (λ same. omega (arith, low)),
  ne_eqb 95 b (λ same. omega (arith, low)),
  ne_eqb 126 b (λ same. omega (arith, low)),
) refl

beyond : (b : ℕ) → 126 < b → is_unreserved b ≡ false
beyond b high = rw (
  le-leb 48 b (omega arith),
  lt-leb b 57 (omega arith),
  le-leb 65 b (omega arith),
  lt-leb b 90 (omega arith),
  le-leb 97 b (omega arith),
  lt-leb b 122 (omega arith),
  ne_eqb 45 b (λ same. omega (arith, high)),
  ne_eqb 46 b (λ same. omega (arith, high)),
  ne_eqb 95 b (λ same. omega (arith, high)),
  ne_eqb 126 b (λ same. omega (arith, high)),
) refl

never : false ≡ true → ⊥
never e = cc

unreserved_is_visible : (b : ℕ) → is_unreserved b ≡ true → IsVisible b
unreserved_is_visible b is = (low, high)
  where
    low : 33 ≤ b
    low = elim (cases_lt b 33) [ inl less ↦ absurd (never (sym (below b less) ∙ is)) | inr most ↦ omega (arith, most) ]

    high : b ≤ 126
    high = elim (cases_lt 126 b) [ inl more ↦ absurd (never (sym (beyond b more) ∙ is)) | inr most ↦ omega (arith, most) ]

byte_is_visible : (b : ℕ) → AllByRecursion IsVisible (encoded_byte b)
byte_is_visible =
    byte_has IsVisible unreserved_is_visible (omega arith, omega arith)
    (λ b low high. (omega (arith, low), omega (arith, high))) (λ b low high. (omega (arith, low), omega (arith, high)))

encoded_is_visible : (bytes : List ℕ) → AllByRecursion IsVisible (encoded bytes)
encoded_is_visible [] = tt
encoded_is_visible (b ∷ bytes) = both_all IsVisible (encoded_byte b) (encoded bytes) (byte_is_visible b) (encoded_is_visible bytes)

pub segments_are_visible : (path : List (List ℕ)) → AllByRecursion IsVisible (segments_text path)
segments_are_visible [] = tt
segments_are_visible (segment ∷ path) =
    both_all IsVisible (47 ∷ encoded segment) (segments_text path) ((omega arith, omega arith), encoded_is_visible segment) (segments_are_visible path)

pub target_is_visible : (path : List (List ℕ)) → AllByRecursion IsVisible (path_text path)
target_is_visible [] = ((omega arith, omega arith), tt)
target_is_visible (segment ∷ path) = segments_are_visible (segment ∷ path)

pub some_target : (path : List (List ℕ)) → 0 < length (path_text path)
some_target [] = omega arith
some_target (segment ∷ path) = omega arith

-- ---- it is read

slashed_is : (path : List (List ℕ)) → segments_text path ≡ slashed (map encoded path)
slashed_is [] = refl
slashed_is (segment ∷ path) = ap (λ (x : List ℕ). (47 ∷ encoded segment) ++ x) (slashed_is path)

are_parts : (path : List (List ℕ)) → AreParts (map encoded path)
are_parts [] = tt
are_parts (segment ∷ path) = (encoded_is_inside segment, are_parts path)

some_encoded : (b : ℕ) (bytes : List ℕ) → encoded (b ∷ bytes) ≢ []
unfolding percent_encode_byte
some_encoded b bytes = by (is_unreserved b)
  where
    by : (t : Bool) → (if t then b ∷ [] else percent_encode_byte b) ++ encoded bytes ≢ []
    by true = λ e. cc
    by false = λ e. cc

not_empty : (segment : List ℕ) (path : List (List ℕ)) → segment ∷ path ≢ [] ∷ [] → encoded segment ∷ map encoded path ≢ [] ∷ []
not_empty [] [] isnt = λ e. isnt refl
not_empty [] (next ∷ path) isnt = λ e. cc
not_empty (b ∷ segment) path isnt = λ e. some_encoded b segment (first e)
  where
    first : encoded (b ∷ segment) ∷ map encoded path ≡ [] ∷ [] → encoded (b ∷ segment) ≡ []
    first e = cc

all_undone : (path : List (List ℕ)) → AllByRecursion AreBytes path → map percent_decode (map encoded path) ≡ path
all_undone [] are = refl
all_undone (segment ∷ path) are = ap₂ (λ (s : List ℕ) (p : List (List ℕ)). s ∷ p) (undone segment are.0) (all_undone path are.1)

pub path_is_read : (path : List (List ℕ)) → AllByRecursion AreBytes path → path ≢ [] ∷ [] → segments_of (path_text path) ≡ Some path
path_is_read [] are isnt = refl
path_is_read (segment ∷ path) are isnt =
    ap segments_of (slashed_is (segment ∷ path))
    ∙ target_read (encoded segment) (map encoded path) (are_parts (segment ∷ path)) (not_empty segment path isnt)
    ∙ ap Some (all_undone (segment ∷ path) are)

-- ---- no query

pub no_query : (target : List ℕ) → HasNoMark target → query_of target ≡ []
no_query target none =
    ap (λ (n : ℕ). drop (if nat_lt n (length target) then n + 1 else length target) target) (no_mark target none) ∙ at_end
  where
    never_less : nat_lt (length target) (length target) ≡ false
    never_less = grind (arith, nat_tests)

    at_end : drop (if nat_lt (length target) (length target) then length target + 1 else length target) target ≡ []
    at_end = rw never_less (drop_all (length target) target (omega arith))

pub has_no_query : (path : List (List ℕ)) → query_of (path_text path) ≡ []
has_no_query [] = refl
has_no_query (segment ∷ path) =
    ap query_of (slashed_is (segment ∷ path)) ∙ no_query (slashed (map encoded (segment ∷ path))) (slashed_has_none (map encoded (segment ∷ path)) (are_parts (segment ∷ path)))
