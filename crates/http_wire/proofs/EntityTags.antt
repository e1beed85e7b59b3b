-- The version that an item names, by what is between its quotes.
use Rattle.std.proofs.Common.{◌≡◌, ℕ, ◌-◌, ◌≤◌, Bool, true, false, List, [], ◌∷◌, ◌++◌, length, take, drop, decimal, refl, sym, ap, ◌∙◌, arith, cond, length-append, length-drop, get_or, get_or-drop, suc, ◌+◌}
use Rattle.std.specs.Prelude.{◌&&◌, nat_le, Option, Some, None, IsUtf8}
use Rattle.std.specs.Str.{bytes_eq}
use Rattle.std.specs.Str.Parse.{digits_value}
use Rattle.std.proofs.Math.Seq.{take-append_seam, get_or-append-add}
use Rattle.std.proofs.lemmas.Bool.{false≢true, leb-true, le-leb, eqb-true, eq-eqb}
use Rattle.std.proofs.lemmas.List.{drop_more, take_more, take_all}
use Rattle.std.proofs.lemmas.Slice.Eq.{bytes_eq-Decides}
use Rattle.thing_ops.proofs.InvocationIds.{number_of_spelling, number_of_none, number_of_bytes}
use Rattle.http_wire.specs.Conditions.{number_inside, version_of, TagsAreReadAgain}
use Rattle.http_replies.specs.Writing.{entity_tag}
use Rattle.http_wire.specs.Asked.{is_quoted, number_named}

-- bytes in double quotes
abbrev quoted : List ℕ → List ℕ
quoted bytes = 34 ∷ (bytes ++ 34 ∷ [])

-- the bytes between the first and the last
abbrev inside : List ℕ → List ℕ
inside bytes = take (length bytes - 2) (drop 1 bytes)

inside_quoted : (bytes : List ℕ) → inside (quoted bytes) ≡ bytes
inside_quoted bytes =
    let size : length (quoted bytes) - 2 ≡ length bytes = omega (arith, length-append bytes (34 ∷ [])) in
    ap (λ (n : ℕ). take n (bytes ++ 34 ∷ [])) size ∙ take-append_seam bytes (34 ∷ [])

-- two tests that say the same
same_test : (t u : Bool) → (t ≡ true → u ≡ true) → (u ≡ true → t ≡ true) → t ≡ u
same_test true u one other = sym (one refl)
same_test false true one other = other refl
same_test false false one other = refl

quotes_match : (xs ys : List ℕ) → bytes_eq (quoted xs) (quoted ys) ≡ bytes_eq xs ys
quotes_match xs ys =
    same_test _ _
    (λ is. (bytes_eq-Decides xs ys).1 (sym (inside_quoted xs) ∙ ap inside ((bytes_eq-Decides (quoted xs) (quoted ys)).0 is) ∙ inside_quoted ys))
    (λ is. (bytes_eq-Decides (quoted xs) (quoted ys)).1 (ap quoted ((bytes_eq-Decides xs ys).0 is)))

-- a number in quotes
version_in_quotes : (digits : List ℕ) → version_of (quoted digits) ≡ number_named digits
version_in_quotes digits =
    let n : number_inside (quoted digits) ≡ digits_value 10 digits = ap (digits_value 10) (inside_quoted digits) in
    ap (λ (v : ℕ). cond (nat_le 1 v && nat_le v 4294967295 && bytes_eq (quoted digits) (entity_tag v)) (Some v) None) n
    ∙ ap (λ (t : Bool). cond (nat_le 1 (digits_value 10 digits) && nat_le (digits_value 10 digits) 4294967295 && t) (Some (digits_value 10 digits)) None)
    (quotes_match digits (decimal (digits_value 10 digits)))

none_unless : (a b t : Bool) (v : ℕ) → t ≡ false → ◌≡◌ {A = Option ℕ} (cond (a && b && t) (Some v) None) None
none_unless true true t v isnt = rw isnt refl
none_unless true false t v isnt = refl
none_unless false b t v isnt = refl

isnt_true : (t : Bool) → (t ≡ true → ⊥) → t ≡ false
isnt_true true isnt = absurd (isnt refl)
isnt_true false isnt = refl

-- the parts of three tests that hold
each_of_three : (a b c : Bool) → (a && b && c) ≡ true → (a ≡ true) × (b ≡ true) × (c ≡ true)
each_of_three true true true all = (refl, refl, refl)
each_of_three true true false all = (refl, refl, all)
each_of_three true false c all = absurd cc
each_of_three false b c all = absurd cc

all_three : (a b c : Bool) → a ≡ true → b ≡ true → c ≡ true → (a && b && c) ≡ true
all_three a b c one two three = rw (one, two, three) refl

-- bytes in quotes are those inside, in quotes
quoted_inside : (item : List ℕ) → is_quoted item ≡ true → item ≡ quoted (inside item)
quoted_inside item is =
    let parts = each_of_three _ _ _ is in
    let two : 2 ≤ length item = leb-true _ _ parts.0 in
    let first : get_or item 0 0 ≡ 34 = eqb-true _ _ parts.1 in
    let last : get_or item (length item - 1) 0 ≡ 34 = eqb-true _ _ parts.2 in
    let behind = drop 1 item in
    let size : length behind ≡ length item - 1 = length-drop 1 item in
    let place : 1 + (length item - 2) ≡ length item - 1 = omega arith in
    let ends : get_or behind (length item - 2) 0 ≡ 34 = get_or-drop 1 item (length item - 2) 0 ∙ ap (λ (n : ℕ). get_or item n 0) place ∙ last in
    let apart : behind ≡ inside item ++ 34 ∷ [] =
    sym (take_all (length item - 2 + 1) behind (omega (arith, size)))
    ∙ take_more behind (length item - 2) 0 (omega (arith, size))
    ∙ ap (λ (b : ℕ). inside item ++ b ∷ []) ends in
    drop_more item 0 0 (omega arith) ∙ ap (λ (b : ℕ). b ∷ behind) first ∙ ap (λ (xs : List ℕ). 34 ∷ xs) apart

quoted_is : (digits : List ℕ) → is_quoted (quoted digits) ≡ true
quoted_is digits =
    let long : length (quoted digits) ≡ length digits + 2 = omega (arith, length-append digits (34 ∷ [])) in
    let place : length (quoted digits) - 1 ≡ suc (length digits + 0) = omega (arith, long) in
    all_three _ _ _ (le-leb _ _ (omega (arith, long))) refl
    (eq-eqb _ _ (ap (λ (n : ℕ). get_or (quoted digits) n 0) place ∙ get_or-append-add digits (34 ∷ []) 0 0))

-- an item that isn't in quotes names no version
pub version_unquoted : (item : List ℕ) → is_quoted item ≡ false → version_of item ≡ None
version_unquoted item isnt =
    let v = number_inside item in
    none_unless (nat_le 1 v) (nat_le v 4294967295) (bytes_eq item (entity_tag v)) v
    (isnt_true _ (λ is. false≢true (sym isnt ∙ ap is_quoted ((bytes_eq-Decides item (entity_tag v)).0 is) ∙ quoted_is (decimal v))))

-- an item in quotes names the number in them
pub version_quoted : (item digits : List ℕ) → is_quoted item ≡ true → digits ≡ inside item → version_of item ≡ number_named digits
version_quoted item digits is inner =
    ap version_of (quoted_inside item is ∙ ap quoted (sym inner)) ∙ version_in_quotes digits

-- the number that a text says
pub number_said : (text : List ℕ) (n : ℕ) → 1 ≤ n → n ≤ 4294967295 → text ≡ decimal n → number_named text ≡ Some n
number_said = number_of_spelling

pub number_unsaid : (text : List ℕ) → ((n : ℕ) → 1 ≤ n → n ≤ 4294967295 → text ≡ decimal n → ⊥) → number_named text ≡ None
number_unsaid = number_of_none

pub no_number_in_bytes : (bytes : List ℕ) → (IsUtf8 bytes → ⊥) → number_named bytes ≡ None
no_number_in_bytes = number_of_bytes

-- a version that is written is read again
pub tags_are_read_again : TagsAreReadAgain
tags_are_read_again version some small = version_in_quotes (decimal version) ∙ number_said (decimal version) version some small refl
