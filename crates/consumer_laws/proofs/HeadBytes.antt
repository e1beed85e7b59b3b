-- Bytes, digits and header lines of an HTTP message that is written.
use Rattle.std.proofs.Common.{◌≡◌, ◌≢◌, ◌<◌, ◌≤◌, ◌^◌, ℕ, Bool, true, false, not, List, [], ◌∷◌, ◌++◌, append_assoc, length, map, reverse, refl, ap, ap₂, ◌∙◌, arith}
use Rattle.std.specs.Prelude.{◌==◌, ◌&&◌, decimal, IsTrue}
use Rattle.std.specs.List.{AllByRecursion, flat_map, list_all}
use Rattle.std.specs.Str.Parse.{AllDigits, digits_value}
use Rattle.std.proofs.lemmas.Bool.Decides.{nat_tests}
use Rattle.std.proofs.lemmas.Fmt.{decimal_is_IsNumeral}
use Rattle.std.proofs.lemmas.List.{reverse-reverse}
use Rattle.std.proofs.lemmas.List.Elements.{All-from_recursion, All-head}
use Rattle.std.proofs.lemmas.Str.Parse.{digit_at}
use Rattle.httparse.specs.Grammar.{is_token_byte, is_value_byte, is_ows, AllPass, IsToken, Field, IsField, crlf, skip_ows, trim_ows, print_field, print_section}
use Rattle.httparse.proofs.TrimLemmas.{AllPass-reverse}
use Rattle.consumer_laws.specs.Asking.{IsVisible}
use Rattle.consumer_laws.proofs.HeadLines.{IsPlain, AreLines, printed}

-- ---- tests of bytes

pub both : (b c : Bool) → (b && c) ≡ true → (b ≡ true) × (c ≡ true)
both true c h = (refl, h)
both false c h = absurd cc

pub passes : (test : ℕ → Bool) (bytes : List ℕ) → list_all test bytes ≡ true → AllByRecursion (λ b. IsTrue (test b)) bytes
passes test [] h = tt
passes test (b ∷ bytes) h = let parts = both (test b) (list_all test bytes) h in (parts.0, passes test bytes parts.1)

pub all_pass : (test : ℕ → Bool) (bytes : List ℕ) → list_all test bytes ≡ true → AllPass test bytes
all_pass test bytes h = All-from_recursion (λ b. IsTrue (test b)) bytes (passes test bytes h)

pub both_all : (P : ℕ → Type 0) (a b : List ℕ) → AllByRecursion P a → AllByRecursion P b → AllByRecursion P (a ++ b)
both_all P [] b p q = q
both_all P (x ∷ a) b p q = (p.0, both_all P a b p.1 q)

pub weaker : (P Q : ℕ → Type 0) (bytes : List ℕ) → ((b : ℕ) → P b → Q b) → AllByRecursion P bytes → AllByRecursion Q bytes
weaker P Q [] f all = tt
weaker P Q (b ∷ bytes) f all = (f b all.0, weaker P Q bytes f all.1)

-- a byte that is no part of a line's end
abbrev pub plain : ℕ → Bool
plain b = not (b == 13) && not (b == 10)

pub is_plain : (b : ℕ) → plain b ≡ true → IsPlain b
is_plain b h = (no_return, no_feed)
  where
    no_return : b ≢ 13
    no_return = grind (arith, nat_tests)

    no_feed : b ≢ 10
    no_feed = grind (arith, nat_tests)

pub plain_bytes : (bytes : List ℕ) → list_all plain bytes ≡ true → AllByRecursion IsPlain bytes
plain_bytes bytes h = weaker (λ b. IsTrue (plain b)) IsPlain bytes is_plain (passes plain bytes h)

-- ---- digits

pub digit_range : (c : ℕ) (cs : List ℕ) → AllDigits 10 (c ∷ cs) → (48 ≤ c) × (c ≤ 57)
digit_range c cs h = let range = digit_at (c ∷ cs) 0 h (omega arith) in (omega (arith, range), omega (arith, range))

pub digits_pass : (test : ℕ → Bool) (cs : List ℕ) → ((c : ℕ) → 48 ≤ c → c ≤ 57 → test c ≡ true) → AllDigits 10 cs → list_all test cs ≡ true
digits_pass test [] each h = refl
digits_pass test (c ∷ cs) each h =
    let range = digit_range c cs h in
    ap₂ (λ (x y : Bool). x && y) (each c range.0 range.1) (digits_pass test cs each h.1)

-- no white space is around them
pub not_ows : ℕ → Bool
not_ows b = not (is_ows b)

pub skips_nothing : (bytes : List ℕ) → AllPass (λ b. not (is_ows b)) bytes → skip_ows bytes ≡ bytes
skips_nothing [] pass = refl
skips_nothing (b ∷ bytes) pass = rw isnt refl
  where
    first : not (is_ows b) ≡ true
    first = All-head (λ x. IsTrue (not (is_ows x))) b bytes pass

    negated : (x : Bool) → not x ≡ true → x ≡ false
    negated true h = absurd cc
    negated false h = refl

    isnt : is_ows b ≡ false
    isnt = negated (is_ows b) first

pub trims_nothing : (bytes : List ℕ) → AllPass (λ b. not (is_ows b)) bytes → trim_ows bytes ≡ bytes
unfolding trim_ows
trims_nothing bytes pass =
    ap (λ (x : List ℕ). reverse (skip_ows (reverse x))) (skips_nothing bytes pass)
    ∙ ap (λ (x : List ℕ). reverse x) (skips_nothing (reverse bytes) (AllPass-reverse (λ b. not (is_ows b)) bytes pass))
    ∙ reverse-reverse bytes

-- ---- lines

abbrev pub field_of : List ℕ × List ℕ → Field
field_of l = record { name = l.0; raw = l.1; end = crlf }

abbrev pub fields : List (List ℕ × List ℕ) → List Field
fields lines = map field_of lines

abbrev pub line_of : List ℕ × List ℕ → List ℕ
line_of l = l.0 ++ 58 ∷ l.1

pub lines_all : (a b : List (List ℕ × List ℕ)) → AreLines (map line_of a) → AreLines (map line_of b) → AreLines (map line_of (a ++ b))
lines_all [] b p q = q
lines_all (l ∷ a) b p q = (p.0, lines_all a b p.1 q)

pub token : (bytes : List ℕ) → 0 < length bytes → list_all is_token_byte bytes ≡ true → IsToken bytes
token bytes some h = (some, all_pass is_token_byte bytes h)

abbrev pub IsGood : List ℕ × List ℕ → Type 0
IsGood l = IsField (record { name = l.0; raw = l.1; end = crlf })

pub good : (name value : List ℕ) → 0 < length name → list_all is_token_byte name ≡ true → list_all is_value_byte value ≡ true → IsGood (name, value)
good name value some named valued = record { name = token name some named; raw = all_pass is_value_byte value valued }

pub good_all : (a b : List (List ℕ × List ℕ)) → AllByRecursion IsGood a → AllByRecursion IsGood b → AllByRecursion IsGood (a ++ b)
good_all [] b p q = q
good_all (l ∷ a) b p q = (p.0, good_all a b p.1 q)

-- a line that is printed, behind it the rest
pub one_line : (line rest : List ℕ) → (line ++ 13 ∷ 10 ∷ []) ++ rest ≡ line ++ 13 ∷ 10 ∷ rest
one_line line rest = append_assoc line (13 ∷ 10 ∷ []) rest

pub section_is : (lines : List (List ℕ × List ℕ)) → print_section (fields lines) crlf ≡ printed (map line_of lines)
section_is [] = refl
section_is (l ∷ lines) =
    append_assoc (line_of l ++ 13 ∷ 10 ∷ []) (flat_map print_field (fields lines)) (13 ∷ 10 ∷ [])
    ∙ append_assoc (line_of l) (13 ∷ 10 ∷ []) (print_section (fields lines) crlf)
    ∙ ap (λ (x : List ℕ). line_of l ++ 13 ∷ 10 ∷ x) (section_is lines)

pub good_fields : (lines : List (List ℕ × List ℕ)) → AllByRecursion IsGood lines → AllByRecursion IsField (fields lines)
good_fields [] all = tt
good_fields (l ∷ lines) all = (all.0, good_fields lines all.1)

-- ---- sizes

-- a number in decimal is read as it is, and is digits alone
pub record IsSize (n : ℕ) : Type 0 where
  pub some : 0 < length (decimal n)
  pub value : digits_value 10 (decimal n) ≡ n
  pub digits : AllDigits 10 (decimal n)
  pub trimmed : trim_ows (decimal n) ≡ decimal n

pub is_size : (n : ℕ) → n < 2 ^ 64 → IsSize n
is_size n fits =
    let numeral = decimal_is_IsNumeral n fits in
    record {
      some = numeral.0.0;
      value = numeral.1;
      digits = numeral.0.1;
      trimmed = trims_nothing (decimal n) (all_pass (λ b. not (is_ows b)) (decimal n) (digits_pass (λ b. not (is_ows b)) (decimal n) unspaced numeral.0.1));
    }
  where
    unspaced : (c : ℕ) → 48 ≤ c → c ≤ 57 → not (is_ows c) ≡ true
    unspaced c low high = grind (arith, nat_tests)

pub digit_is_plain : (c : ℕ) → 48 ≤ c → c ≤ 57 → plain c ≡ true
digit_is_plain c low high = grind (arith, nat_tests)

pub digit_is_value : (c : ℕ) → 48 ≤ c → c ≤ 57 → is_value_byte c ≡ true
digit_is_value c low high = grind (arith, nat_tests)

-- ---- visible characters

pub visible_is_plain : (bytes : List ℕ) → AllByRecursion IsVisible bytes → AllByRecursion IsPlain bytes
visible_is_plain bytes all = weaker IsVisible IsPlain bytes (λ b seen. (λ same. omega (arith, seen.0, same), λ same. omega (arith, seen.0, same))) all

pub visible_value : (bytes : List ℕ) → AllByRecursion IsVisible bytes → list_all is_value_byte bytes ≡ true
visible_value [] all = refl
visible_value (b ∷ bytes) all = ap₂ (λ (x y : Bool). x && y) (one b all.0.0 all.0.1) (visible_value bytes all.1)
  where
    one : (c : ℕ) → 33 ≤ c → c ≤ 126 → is_value_byte c ≡ true
    one c low high = grind (arith, nat_tests)
