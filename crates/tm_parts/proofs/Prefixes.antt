-- The code's findings at the prefix of a text, step by step.
use Rattle.std.proofs.Common.{◌≡◌, ℕ, suc, ◌+◌, ◌<◌, ◌≤◌, List, [], ◌∷◌, ◌++◌, length, take, drop, refl, sym, ap, subst, ◌∙◌, arith, Bool, true, false, cond, append_assoc, length-append, inl, inr, get_or}
use Rattle.std.specs.Prelude.{None, map, ◌&&◌, not, ◌==◌, nat_lt, nat_le}
use Rattle.std.specs.List.{list_all, prefix_len, take_while, position_or_len}
use Rattle.std.specs.Str.{IsUtf8, IsAscii, IsCharBoundary}
use Rattle.std.proofs.lemmas.Bool.{and_parts, and_from, cases_Bool, eqb-true, not-false, lt-ltb, le-leb, ltb-true, leb-true}
use Rattle.std.proofs.lemmas.List.Sums.{prefix_len-le-length, prefix_len_stops}
use Rattle.std.proofs.lemmas.Str.{IsUtf8-from_ascii, IsCharBoundary-from_take}
use Rattle.std.proofs.lemmas.Str.Ascii.{IsAscii-nil, IsAscii-cons}
use Rattle.std.proofs.lemmas.List.{take-append-drop}
use Rattle.std.proofs.Math.Seq.{take-append_seam, drop-append_seam}
use Rattle.tm_parts.specs.Placeholders.{is_name_byte, is_name, placeholder_text, placeholder_at, Piece, plain, pieces}
use Rattle.tm_parts.proofs.Cuts.{name_goes_to_brace, placeholder_not_at_prefix, pieces_plain, pieces_no_brace}

-- a name's bytes
bytes_of_name : (name : List ℕ) → is_name name ≡ true → list_all is_name_byte name ≡ true
bytes_of_name name h = (and_parts (list_all is_name_byte name) (nat_lt 0 (length name)) (and_parts (list_all is_name_byte name && nat_lt 0 (length name)) (nat_le (length name) 64) h).0).0

-- a name isn't empty
pub name_not_empty : (name : List ℕ) → is_name name ≡ true → 0 < length name
name_not_empty name h = ltb-true 0 (length name) (and_parts (list_all is_name_byte name) (nat_lt 0 (length name)) (and_parts (list_all is_name_byte name && nat_lt 0 (length name)) (nat_le (length name) 64) h).0).1

-- a name has at most 64 bytes
pub name_not_long : (name : List ℕ) → is_name name ≡ true → length name ≤ 64
name_not_long name h = leb-true (length name) 64 (and_parts (list_all is_name_byte name && nat_lt 0 (length name)) (nat_le (length name) 64) h).1

-- one more byte that a name may have
take_while_more : (x : ℕ) (xs : List ℕ) → is_name_byte x ≡ true → take_while is_name_byte (x ∷ xs) ≡ x ∷ take_while is_name_byte xs
take_while_more x xs may =
    let count : cond (is_name_byte x) (1 + prefix_len is_name_byte xs) 0 ≡ suc (prefix_len is_name_byte xs) = ap (λ (t : Bool). cond t (1 + prefix_len is_name_byte xs) 0) may ∙ omega arith in
    ap (λ (n : ℕ). take n (x ∷ xs)) count

take_while_ends : (x : ℕ) (xs : List ℕ) → is_name_byte x ≡ false → take_while is_name_byte (x ∷ xs) ≡ []
take_while_ends x xs other =
    ap (λ (t : Bool). take (cond t (1 + prefix_len is_name_byte xs) 0) (x ∷ xs)) other

-- the bytes at the prefix that a name may have
all_name_bytes : (xs : List ℕ) → list_all is_name_byte (take_while is_name_byte xs) ≡ true
all_name_bytes [] = refl
all_name_bytes (x ∷ xs) = elim (cases_Bool (is_name_byte x)) [
  | inl may ↦ ap (λ (ys : List ℕ). list_all is_name_byte ys) (take_while_more x xs may) ∙ and_from (is_name_byte x) (list_all is_name_byte (take_while is_name_byte xs)) may (all_name_bytes xs)
  | inr other ↦ ap (λ (ys : List ℕ). list_all is_name_byte ys) (take_while_ends x xs other)
]

-- some such bytes, but not too many, are a name
pub is_name_if : (xs : List ℕ) → 0 < length (take_while is_name_byte xs) → length (take_while is_name_byte xs) ≤ 64 → is_name (take_while is_name_byte xs) ≡ true
is_name_if xs some few =
    let name : List ℕ = take_while is_name_byte xs in
    and_from (list_all is_name_byte name && nat_lt 0 (length name)) (nat_le (length name) 64)
    (and_from (list_all is_name_byte name) (nat_lt 0 (length name)) (all_name_bytes xs) (lt-ltb 0 (length name) some))
    (le-leb (length name) 64 few)

name_byte_ascii : (b : ℕ) → is_name_byte b ≡ true → b < 128
name_byte_ascii b h =
    let low = (and_parts (nat_le 32 b && nat_le b 126) (not (b == 123)) (and_parts (nat_le 32 b && nat_le b 126 && not (b == 123)) (not (b == 125)) h).0).0 in
    omega (arith, leb-true b 126 (and_parts (nat_le 32 b) (nat_le b 126) low).1)

names_are_ascii : (xs : List ℕ) → IsAscii (take_while is_name_byte xs)
names_are_ascii [] = IsAscii-nil
names_are_ascii (x ∷ xs) = elim (cases_Bool (is_name_byte x)) [
  | inl may ↦ subst (λ (ys : List ℕ). IsAscii ys) (sym (take_while_more x xs may)) (IsAscii-cons x (take_while is_name_byte xs) (name_byte_ascii x may) (names_are_ascii xs))
  | inr other ↦ subst (λ (ys : List ℕ). IsAscii ys) (sym (take_while_ends x xs other)) IsAscii-nil
]

-- a text may be cut after the bytes that a name may have
pub cut_after_name : (xs : List ℕ) (n : ℕ) → IsUtf8 xs → n ≡ prefix_len is_name_byte xs → IsCharBoundary xs n
cut_after_name xs n text is =
    subst (λ (k : ℕ). IsCharBoundary xs k) (sym is)
    (IsCharBoundary-from_take xs (prefix_len is_name_byte xs) text (prefix_len-le-length is_name_byte xs) (IsUtf8-from_ascii (take_while is_name_byte xs) (names_are_ascii xs)))

-- a text that doesn't begin with two braces
pub none_without_braces : (text : List ℕ) → ((rest : List ℕ) → text ≡ 123 ∷ 123 ∷ rest → ⊥) → placeholder_at text ≡ None
none_without_braces text h =
    placeholder_not_at_prefix text (λ name rest named is. h ((name ++ 125 ∷ 125 ∷ []) ++ rest) is)

-- the name and what follows it, after two braces
name_parts : (inner name rest : List ℕ) → is_name name ≡ true → inner ≡ (name ++ 125 ∷ 125 ∷ []) ++ rest → (take_while is_name_byte inner ≡ name) × (drop (prefix_len is_name_byte inner) inner ≡ 125 ∷ 125 ∷ rest)
name_parts inner name rest named is =
    let whole : inner ≡ name ++ (125 ∷ 125 ∷ rest) = is ∙ append_assoc name (125 ∷ 125 ∷ []) rest in
    let count : prefix_len is_name_byte inner ≡ length name = ap (λ (xs : List ℕ). prefix_len is_name_byte xs) whole ∙ name_goes_to_brace name (125 ∷ rest) (bytes_of_name name named) in
    let name_is : take (prefix_len is_name_byte inner) inner ≡ name = ap (λ (n : ℕ). take n inner) count ∙ ap (λ (xs : List ℕ). take (length name) xs) whole ∙ take-append_seam name (125 ∷ 125 ∷ rest) in
    let rest_is : drop (prefix_len is_name_byte inner) inner ≡ 125 ∷ 125 ∷ rest = ap (λ (n : ℕ). drop n inner) count ∙ ap (λ (xs : List ℕ). drop (length name) xs) whole ∙ drop-append_seam name (125 ∷ 125 ∷ rest) in
    (name_is, rest_is)

-- two braces, but no two braces after the name
pub none_without_end : (text inner after : List ℕ) → text ≡ 123 ∷ 123 ∷ inner → after ≡ drop (prefix_len is_name_byte inner) inner → ((rest : List ℕ) → after ≡ 125 ∷ 125 ∷ rest → ⊥) → placeholder_at text ≡ None
none_without_end text inner after is after_is h =
    placeholder_not_at_prefix text (λ name rest named text_is.
    let inner_is : inner ≡ (name ++ 125 ∷ 125 ∷ []) ++ rest = cc in
    h rest (after_is ∙ (name_parts inner name rest named inner_is).1))

-- two braces, but no name after them
pub none_without_name : (text inner name : List ℕ) → text ≡ 123 ∷ 123 ∷ inner → name ≡ take_while is_name_byte inner → (is_name name ≡ true → ⊥) → placeholder_at text ≡ None
none_without_name text inner name is name_is h =
    placeholder_not_at_prefix text (λ other rest named text_is.
    let inner_is : inner ≡ (other ++ 125 ∷ 125 ∷ []) ++ rest = cc in
    h (subst (λ (n : List ℕ). is_name n ≡ true) (sym (name_is ∙ (name_parts inner other rest named inner_is).0)) named))

-- a placeholder, found in its parts
pub placeholder_in_parts : (text inner name after rest : List ℕ) → text ≡ 123 ∷ 123 ∷ inner → name ≡ take_while is_name_byte inner → after ≡ drop (prefix_len is_name_byte inner) inner → after ≡ 125 ∷ 125 ∷ rest → 0 < length name → length name ≤ 64 → (text ≡ placeholder_text name ++ rest) × (is_name name ≡ true)
placeholder_in_parts text inner name after rest is name_is after_is end some few =
    let named : is_name name ≡ true = subst (λ (n : List ℕ). is_name n ≡ true) (sym name_is)
    (is_name_if inner (subst (λ (n : List ℕ). 0 < length n) name_is some) (subst (λ (n : List ℕ). length n ≤ 64) name_is few)) in
    let split : inner ≡ name ++ after = sym (take-append-drop (prefix_len is_name_byte inner) inner) ∙ ap (λ (n : List ℕ). n ++ drop (prefix_len is_name_byte inner) inner) (sym name_is) ∙ ap (λ (b : List ℕ). name ++ b) (sym after_is) in
    let whole : inner ≡ (name ++ 125 ∷ 125 ∷ []) ++ rest = split ∙ ap (λ (b : List ℕ). name ++ b) end ∙ sym (append_assoc name (125 ∷ 125 ∷ []) rest) in
    (is ∙ ap (λ (xs : List ℕ). 123 ∷ 123 ∷ xs) whole, named)

-- the rest after a placeholder
pub after_placeholder : (text name rest : List ℕ) → text ≡ placeholder_text name ++ rest → rest ≡ drop (length name + 4) text
after_placeholder text name rest is =
    let count : length name + 4 ≡ length (placeholder_text name) = omega (arith, length-append name (125 ∷ 125 ∷ [])) in
    sym (ap (λ (xs : List ℕ). drop (length name + 4) xs) is ∙ ap (λ (n : ℕ). drop n (placeholder_text name ++ rest)) count ∙ drop-append_seam (placeholder_text name) rest)

-- the run of plain bytes at the prefix of a text that begins with no placeholder
pub plain_prefix : (text : List ℕ) (n : ℕ) → 0 < length text → placeholder_at text ≡ None → n ≡ 1 + position_or_len (λ b. b == 123) (drop 1 text) → pieces text ≡ map plain (take n text) ++ pieces (drop n text)
plain_prefix [] n some h is = absurd (omega (arith, some))
plain_prefix (b ∷ bs) n some h is =
    let count : n ≡ suc (position_or_len (λ b. b == 123) bs) = omega (arith, is) in
    subst (λ (k : ℕ). pieces (b ∷ bs) ≡ map plain (take k (b ∷ bs)) ++ pieces (drop k (b ∷ bs))) (sym count)
    (pieces_plain b bs h ∙ ap (λ (ps : List Piece). plain b ∷ ps) (pieces_no_brace (position_or_len (λ b. b == 123) bs) bs (omega arith)))

-- a text may be cut before a byte of ASCII
pub cut_before : (stop : ℕ) (text : List ℕ) (n : ℕ) → stop < 128 → 0 < length text → n ≡ 1 + position_or_len (λ b. b == stop) (drop 1 text) → IsCharBoundary text n
cut_before stop [] n ascii some is = absurd (omega (arith, some))
cut_before stop (b ∷ bs) n ascii some is =
    let m : ℕ = position_or_len (λ b. b == stop) bs in
    let count : n ≡ suc m = omega (arith, is) in
    subst (λ (k : ℕ). IsCharBoundary (b ∷ bs) k) (sym count) (
      omega (arith, prefix_len-le-length (λ b. not (b == stop)) bs),
      λ within high. absurd (let here : get_or bs m 0 ≡ stop = eqb-true (get_or bs m 0) stop (not-false (get_or bs m 0 == stop) (prefix_len_stops (λ b. not (b == stop)) bs 0 (omega arith))) in omega (arith, here)),
    )
