-- The fields of a line: which bytes they are made of, and that a line is cut into them in one way.
use Rattle.std.proofs.Common.{◌≡◌, ◌≢◌, ℕ, ◌^◌, ◌<◌, Bool, true, false, ◌==◌, ◌&&◌, nat_le, List, [], ◌∷◌, ◌++◌, length, map, All, Option, MatchOption, Bor, codes, decimal, refl, sym, ap, ◌∙◌, append_assoc, arith, Some, None}
use Rattle.std.specs.Int.{IsInRange}
use Rattle.std.specs.List.{AllByRecursion, IsFirstAndRest, slice_split}
use Rattle.std.specs.Iterator.{Drains, YieldsThen}
use Rattle.std.proofs.lemmas.Bool.Decides.{nat_tests}
use Rattle.std.proofs.lemmas.Iterator.{YieldsList}
use Rattle.std.proofs.lemmas.Iterator.Consumers.{YieldsList-end, YieldsList-turn}
use Rattle.std.proofs.lemmas.List.Elements.{All-append, All-cons, All-from_get_or, All-nil, All-weaker}
use Rattle.std.proofs.lemmas.List.Splits.{slice_split_at, slice_split_none}
use Rattle.std.proofs.lemmas.Str.Parse.{digit_at}
use Rattle.std.proofs.lemmas.Str.Pattern.{IsSplitOnceResult}
use Rattle.coap_msg.specs.declared.endpoint.Endpoint.{Endpoint}
use Rattle.hex.specs.Hex.{encode_lower}
use Rattle.servient_script.specs.Fields.{AreFields, IsField, fields_text}
use Rattle.servient_script.specs.Script.{IsScriptEndpoint, endpoint_text, hex_text}
use Rattle.servient_base.proofs.DecimalTexts.{AllDigits-decimal, split_after_number}
use Rattle.servient_script.proofs.HexTexts.{all_lower-encode_lower, is_lower_digit}

-- a byte that a field may have
abbrev pub IsGraphic : ℕ → Type 0
IsGraphic c = IsInRange 33 126 c

-- a byte that a line may have
abbrev pub IsPrintable : ℕ → Type 0
IsPrintable c = IsInRange 32 126 c

-- ---- what the fields are made of

pub IsGraphic-decimal : (n : ℕ) → n < 2 ^ 64 → All IsGraphic (decimal n)
IsGraphic-decimal n fits =
    All-from_get_or IsGraphic (decimal n) 0 (λ i below.
    let digit = digit_at (decimal n) i (AllDigits-decimal n fits) below in
    (omega (arith, digit), omega (arith, digit)))

pub IsGraphic-endpoint_text : (e : Endpoint) → IsScriptEndpoint e → All IsGraphic (endpoint_text e)
IsGraphic-endpoint_text e bounds =
    let host = IsGraphic-decimal e.host (omega (arith, bounds)) in
    let port = IsGraphic-decimal e.port (omega (arith, bounds)) in
    let colon : All IsGraphic (codes ":") = All-cons IsGraphic 58 [] (omega arith, omega arith) (All-nil IsGraphic) in
    All-append IsGraphic (decimal e.host ++ codes ":") (decimal e.port)
    (All-append IsGraphic (decimal e.host) (codes ":") host colon) port

lower_is_graphic : (c : ℕ) → is_lower_digit c ≡ true → IsGraphic c
lower_is_graphic c lower = (grind (arith, nat_tests), grind (arith, nat_tests))

pub IsGraphic-hex_text : (bytes : List ℕ) → All (λ b. b < 256) bytes → All IsGraphic (hex_text bytes)
IsGraphic-hex_text [] each = All-cons IsGraphic 45 [] (omega arith, omega arith) (All-nil IsGraphic)
IsGraphic-hex_text (b ∷ bs) each =
    All-weaker (λ c. is_lower_digit c ≡ true) IsGraphic lower_is_graphic (encode_lower (b ∷ bs))
    (all_lower-encode_lower (b ∷ bs) each)

-- a word, byte by byte
abbrev is_graphic : ℕ → Bool
is_graphic b = nat_le 33 b && nat_le b 126

graphic_byte : (b : ℕ) → is_graphic b ≡ true → IsGraphic b
graphic_byte b is = (grind (arith, nat_tests), grind (arith, nat_tests))

abbrev pub are_graphic : List ℕ → Bool
are_graphic [] = true
are_graphic (b ∷ word) = is_graphic b && are_graphic word

pub IsGraphic-word : (word : List ℕ) → are_graphic word ≡ true → All IsGraphic word
IsGraphic-word [] is = All-nil IsGraphic
IsGraphic-word (b ∷ word) is =
    All-cons IsGraphic b word (graphic_byte b (and_first (is_graphic b) (are_graphic word) is)) (IsGraphic-word word (and_second (is_graphic b) (are_graphic word) is))
  where
    and_first : (x y : Bool) → (x && y) ≡ true → x ≡ true
    and_first true y e = refl
    and_first false y e = absurd cc

    and_second : (x y : Bool) → (x && y) ≡ true → y ≡ true
    and_second true y e = e
    and_second false y e = absurd cc

-- ---- lists of fields

-- fields of graphic bytes
abbrev pub AreGraphic : List (List ℕ) → Type 0
AreGraphic fields = AllByRecursion (All IsGraphic) fields

-- no blank is in them
each_is_field : (fields : List (List ℕ)) → AreGraphic fields → AllByRecursion IsField fields
each_is_field [] graphic = tt
each_is_field (x ∷ xs) graphic =
    (All-weaker IsGraphic (λ b. b ≢ 32) (λ b h blank. omega (arith, h, blank)) x graphic.0, each_is_field xs graphic.1)

pub graphic_are_fields : (field : List ℕ) (fields : List (List ℕ)) → AreGraphic (field ∷ fields)
    → AreFields (field ∷ fields)
graphic_are_fields field fields graphic = record {
  some = λ none. absurd (cc none);
  each = each_is_field (field ∷ fields) graphic;
}

-- and their line has nothing else but blanks
printable : (xs : List ℕ) → All IsGraphic xs → All IsPrintable xs
printable xs graphic = All-weaker IsGraphic IsPrintable (λ c h. (omega (arith, h), h.1)) xs graphic

pub IsPrintable-fields_text : (fields : List (List ℕ)) → AreGraphic fields → All IsPrintable (fields_text fields)
IsPrintable-fields_text [] graphic = All-nil IsPrintable
IsPrintable-fields_text (x ∷ []) graphic = printable x graphic.0
IsPrintable-fields_text (x ∷ y ∷ more) graphic =
    let rest = IsPrintable-fields_text (y ∷ more) graphic.1 in
    All-append IsPrintable x (32 ∷ fields_text (y ∷ more)) (printable x graphic.0)
    (All-cons IsPrintable 32 (fields_text (y ∷ more)) (omega arith, omega arith) rest)

-- ---- where a line is cut

-- the test that `split` makes
not_blank : (field : List ℕ) → IsField field → All (λ b. (b == 32) ≡ false) field
not_blank field is =
    All-weaker (λ b. b ≢ 32) (λ b. (b == 32) ≡ false) (λ b differs. grind (arith, nat_tests, differs)) field is

-- the parts between blanks are the fields
cut_each : (field : List ℕ) (fields : List (List ℕ)) → AllByRecursion IsField (field ∷ fields)
    → slice_split (λ b. b == 32) (fields_text (field ∷ fields)) ≡ field ∷ fields
cut_each x [] each = slice_split_none (λ b. b == 32) x (not_blank x each.0)
cut_each x (y ∷ more) each =
    slice_split_at (λ b. b == 32) x 32 (fields_text (y ∷ more)) (not_blank x each.0) refl
    ∙ ap (λ (rest : List (List ℕ)). x ∷ rest) (cut_each y more each.1)

pub cut_fields : (fields : List (List ℕ)) → AreFields fields
    → slice_split (λ b. b == 32) (fields_text fields) ≡ fields
cut_fields [] are = absurd (are.some refl)
cut_fields (x ∷ xs) are = cut_each x xs are.each

-- so a line is cut in one way
pub same_fields : (fields others : List (List ℕ)) → AreFields fields → AreFields others
    → fields_text fields ≡ fields_text others → fields ≡ others
same_fields fields others are are_others same =
    sym (cut_fields fields are) ∙ ap (slice_split (λ b. b == 32)) same ∙ cut_fields others are_others

-- the parts that a vector took, where it took all of them
pub took_all : {S A B : Type 0} {steps : S → Option A → S → Type 0} {v : A → B} {s : S} {parts : List B}
    → YieldsList steps v s parts → (xs : List A) → Drains steps s xs → map v xs ≡ parts
took_all yields xs drained = (YieldsList-end yields xs drained.1.0 drained.1.1 None drained.0 refl drained.1.2).0

-- and where one more came than it had room for
pub took_some : {S A B : Type 0} {steps : S → Option A → S → Type 0} {v : A → B} {s : S} {parts : List B}
    → YieldsList steps v s parts → (xs : List A) (x : A) (rest : S) → YieldsThen steps s xs (Some x) rest
    → length xs < length parts
took_some yields xs x rest then =
    (YieldsList-turn yields xs then.0 then.1 (Some x) rest x refl then.2).0

-- the first of some parts, and the others
pub first_and_rest : (parts rest : List (Bor (List ℕ))) (first : Bor (List ℕ)) (field : List ℕ)
    (fields : List (List ℕ)) → IsFirstAndRest parts first rest → map (λ part. part.now) parts ≡ field ∷ fields
    → (first.now ≡ field) × (map (λ part. part.now) rest ≡ fields)
first_and_rest parts rest first field fields cut same =
    let parts_are : first.now ∷ map (λ part. part.now) rest ≡ field ∷ fields =
    sym (ap (map (λ part. part.now)) cut.0) ∙ same in
    (cc parts_are, cc parts_are)

-- the text of an endpoint is cut after its host
pub cut_endpoint : (e : Endpoint) (text : List ℕ) (r : Option (Bor (List ℕ) × Bor (List ℕ)))
    → IsSplitOnceResult 58 text r → IsScriptEndpoint e → text ≡ endpoint_text e
    → MatchOption r ⊥ (λ x. (x.0.now ≡ decimal e.host) × (x.1.now ≡ decimal e.port))
cut_endpoint e text r split bounds is =
    split_after_number 58 e.host text (decimal e.port) r split (omega arith) (λ d. omega arith) (omega (arith, bounds))
    (is ∙ append_assoc (decimal e.host) (58 ∷ []) (decimal e.port))
