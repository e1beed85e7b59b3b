-- The pieces of a text follow from its beginning.
use Rattle.std.proofs.Common.{◌≡◌, ℕ, zero, suc, ◌+◌, ◌<◌, ◌≤◌, List, [], ◌∷◌, ◌++◌, length, take, drop, refl, sym, ap, subst, ◌∙◌, arith, Bool, true, false, cond, append_assoc, length-append, inl, inr}
use Rattle.std.specs.Prelude.{Option, Some, None, map, ◌&&◌, not, ◌==◌, nat_lt, nat_le}
use Rattle.std.proofs.lemmas.Grind.{flat_map-append}
use Rattle.std.specs.List.{flat_map, list_all, prefix_len, take_while, position_or_len}
use Rattle.std.specs.Str.{bytes_eq}
use Rattle.std.proofs.lemmas.Bool.{and_parts, and_from, cases_Bool, eqb-false}
use Rattle.std.proofs.lemmas.Option.{cond_some}
use Rattle.std.proofs.lemmas.Slice.Eq.{bytes_eq-Decides}
use Rattle.std.proofs.lemmas.List.{take-append-drop}
use Rattle.std.proofs.Math.Seq.{take-append_seam, drop-append_seam}
use Rattle.tm_parts.specs.Placeholders.{is_name_byte, is_name, placeholder_text, placeholder_at, Piece, plain, placeholder, pieces_after, pieces, piece_name, placeholders, sole_placeholder}

-- skipped bytes are dropped
pub pieces_after_drop : (n : ℕ) (bs : List ℕ) → pieces_after n bs ≡ pieces (drop n bs)
pieces_after_drop zero bs = refl
pieces_after_drop (suc n) [] = refl
pieces_after_drop (suc n) (b ∷ bs) = pieces_after_drop n bs

-- bytes of a name and then a brace: the name goes as far as those bytes
pub name_goes_to_brace : (name ys : List ℕ) → list_all is_name_byte name ≡ true → prefix_len is_name_byte (name ++ 125 ∷ ys) ≡ length name
name_goes_to_brace [] ys h = refl
name_goes_to_brace (b ∷ name) ys h =
    let parts = and_parts (is_name_byte b) (list_all is_name_byte name) h in
    subst (λ (t : Bool). cond t (1 + prefix_len is_name_byte (name ++ 125 ∷ ys)) 0 ≡ length (b ∷ name)) (sym parts.0)
    (omega (arith, name_goes_to_brace name ys parts.1))

-- the name is what comes after the braces, as far as a name may go
name_after_braces : (name rest : List ℕ) → list_all is_name_byte name ≡ true → take_while is_name_byte (drop 2 (placeholder_text name ++ rest)) ≡ name
name_after_braces name rest h =
    let inner : (name ++ 125 ∷ 125 ∷ []) ++ rest ≡ name ++ (125 ∷ 125 ∷ rest) = append_assoc name (125 ∷ 125 ∷ []) rest in
    let whole : take_while is_name_byte (name ++ (125 ∷ 125 ∷ rest)) ≡ name =
    ap (λ (n : ℕ). take n (name ++ (125 ∷ 125 ∷ rest))) (name_goes_to_brace name (125 ∷ rest) h) ∙ take-append_seam name (125 ∷ 125 ∷ rest) in
    ap (λ (xs : List ℕ). take_while is_name_byte xs) inner ∙ whole

length-placeholder_text : (name : List ℕ) → length (placeholder_text name) ≡ length name + 4
length-placeholder_text name = omega (arith, length-append name (125 ∷ 125 ∷ []))

-- whether a text begins with the placeholder of this name, if with any
names : List ℕ → List ℕ → Bool
names text name = is_name name && bytes_eq (take (length name + 4) text) (placeholder_text name)

names_prefix : (name rest : List ℕ) → is_name name ≡ true → names (placeholder_text name ++ rest) name ≡ true
unfolding names
names_prefix name rest h =
    let prefix : take (length name + 4) (placeholder_text name ++ rest) ≡ placeholder_text name =
    ap (λ (n : ℕ). take n (placeholder_text name ++ rest)) (sym (length-placeholder_text name)) ∙ take-append_seam (placeholder_text name) rest in
    and_from (is_name name) (bytes_eq (take (length name + 4) (placeholder_text name ++ rest)) (placeholder_text name)) h
    ((bytes_eq-Decides (take (length name + 4) (placeholder_text name ++ rest)) (placeholder_text name)).1 prefix)

named_prefix : (text name : List ℕ) → names text name ≡ true → (is_name name ≡ true) × (text ≡ placeholder_text name ++ drop (length name + 4) text)
unfolding names
named_prefix text name h =
    let parts = and_parts (is_name name) (bytes_eq (take (length name + 4) text) (placeholder_text name)) h in
    let prefix : take (length name + 4) text ≡ placeholder_text name = (bytes_eq-Decides (take (length name + 4) text) (placeholder_text name)).0 parts.1 in
    (parts.0, sym (take-append-drop (length name + 4) text) ∙ ap (λ (xs : List ℕ). xs ++ drop (length name + 4) text) prefix)

placeholder_at_is : (text : List ℕ) → placeholder_at text ≡ cond (names text (take_while is_name_byte (drop 2 text))) (Some (take_while is_name_byte (drop 2 text))) None
unfolding placeholder_at names
placeholder_at_is text = refl

-- a text that begins with a placeholder
pub placeholder_at_prefix : (name rest : List ℕ) → is_name name ≡ true → placeholder_at (placeholder_text name ++ rest) ≡ Some name
placeholder_at_prefix name rest h =
    let bytes : list_all is_name_byte name ≡ true = (and_parts (list_all is_name_byte name) (nat_lt 0 (length name)) (and_parts (list_all is_name_byte name && nat_lt 0 (length name)) (nat_le (length name) 64) h).0).0 in
    let at_name : cond (names (placeholder_text name ++ rest) name) (Some name) None ≡ Some name =
    ap (λ (t : Bool). cond t (Some name) None) (names_prefix name rest h) in
    placeholder_at_is (placeholder_text name ++ rest)
    ∙ subst (λ (n : List ℕ). cond (names (placeholder_text name ++ rest) n) (Some n) None ≡ Some name) (sym (name_after_braces name rest bytes)) at_name

-- a text that begins with none
pub placeholder_not_at_prefix : (text : List ℕ) → ((name rest : List ℕ) → is_name name ≡ true → text ≡ placeholder_text name ++ rest → ⊥) → placeholder_at text ≡ None
placeholder_not_at_prefix text h =
    let name : List ℕ = take_while is_name_byte (drop 2 text) in
    let test : names text name ≡ false = elim (cases_Bool (names text name)) [
      | inl begins ↦ let parts = named_prefix text name begins in absurd (h name (drop (length name + 4) text) parts.0 parts.1)
      | inr other ↦ other
    ] in
    placeholder_at_is text ∙ ap (λ (t : Bool). cond t (Some name) None) test

-- the beginning of a text, where a placeholder begins it
pub placeholder_at_gives : (text name : List ℕ) → placeholder_at text ≡ Some name → (is_name name ≡ true) × (text ≡ placeholder_text name ++ drop (length name + 4) text)
placeholder_at_gives text name h =
    let found : List ℕ = take_while is_name_byte (drop 2 text) in
    let parts = cond_some (names text found) found name (sym (placeholder_at_is text) ∙ h) in
    subst (λ (n : List ℕ). (is_name n ≡ true) × (text ≡ placeholder_text n ++ drop (length n + 4) text)) parts.1 (named_prefix text found parts.0)

-- a placeholder is one piece
pub pieces_placeholder : (name rest : List ℕ) → is_name name ≡ true → pieces (placeholder_text name ++ rest) ≡ placeholder name ∷ pieces rest
pieces_placeholder name rest h =
    let T : List ℕ = 123 ∷ ((name ++ 125 ∷ 125 ∷ []) ++ rest) in
    let cut : pieces (123 ∷ T) ≡ placeholder name ∷ pieces_after (length name + 3) T =
    ap (λ (o : Option (List ℕ)). elim o as (λ _. List Piece) [ None ↦ plain 123 ∷ pieces_after 0 T | Some n ↦ placeholder n ∷ pieces_after (length n + 3) T ]) (placeholder_at_prefix name rest h) in
    let inner : List ℕ = 123 ∷ (name ++ 125 ∷ 125 ∷ []) in
    let count : length name + 3 ≡ length inner = omega (arith, length-append name (125 ∷ 125 ∷ [])) in
    let left : drop (length name + 3) T ≡ rest = ap (λ (n : ℕ). drop n T) count ∙ drop-append_seam inner rest in
    cut ∙ ap (λ (ps : List Piece). placeholder name ∷ ps) (pieces_after_drop (length name + 3) T ∙ ap (λ (xs : List ℕ). pieces xs) left)

-- a byte where none begins is one piece
pub pieces_plain : (b : ℕ) (bs : List ℕ) → placeholder_at (b ∷ bs) ≡ None → pieces (b ∷ bs) ≡ plain b ∷ pieces bs
pieces_plain b bs h =
    ap (λ (o : Option (List ℕ)). elim o as (λ _. List Piece) [ None ↦ plain b ∷ pieces_after 0 bs | Some n ↦ placeholder n ∷ pieces_after (length n + 3) bs ]) h

-- no placeholder begins with another byte than a brace
pub no_placeholder_here : (b : ℕ) (bs : List ℕ) → (b == 123) ≡ false → placeholder_at (b ∷ bs) ≡ None
no_placeholder_here b bs h =
    placeholder_not_at_prefix (b ∷ bs) (λ name rest named is. eqb-false b 123 h (cc))

-- bytes other than an opening brace are plain
pub pieces_no_brace : (n : ℕ) (bs : List ℕ) → n ≤ position_or_len (λ b. b == 123) bs → pieces bs ≡ map plain (take n bs) ++ pieces (drop n bs)
pieces_no_brace zero bs h = refl
pieces_no_brace (suc n) [] h = refl
pieces_no_brace (suc n) (b ∷ bs) h = elim (cases_Bool (b == 123)) [
  | inl brace ↦
      let none : suc n ≤ cond (not true) (1 + position_or_len (λ b. b == 123) bs) 0 = subst (λ (t : Bool). suc n ≤ cond (not t) (1 + position_or_len (λ b. b == 123) bs) 0) brace h in
      absurd (omega (arith, none))
  | inr other ↦
      let within : suc n ≤ cond (not false) (1 + position_or_len (λ b. b == 123) bs) 0 = subst (λ (t : Bool). suc n ≤ cond (not t) (1 + position_or_len (λ b. b == 123) bs) 0) other h in
      pieces_plain b bs (no_placeholder_here b bs other) ∙ ap (λ (ps : List Piece). plain b ∷ ps) (pieces_no_brace n bs (omega (arith, within)))
]

-- plain bytes have no names
names_of_plain : (bytes : List ℕ) → flat_map piece_name (map plain bytes) ≡ []
names_of_plain [] = refl
names_of_plain (b ∷ bytes) = names_of_plain bytes

-- the placeholders after plain text
pub placeholders_after_plain : (text bytes rest : List ℕ) → pieces text ≡ map plain bytes ++ pieces rest → placeholders text ≡ placeholders rest
placeholders_after_plain text bytes rest is =
    ap (λ (ps : List Piece). flat_map piece_name ps) is ∙ flat_map-append piece_name (map plain bytes) (pieces rest)
    ∙ ap (λ (ns : List (List ℕ)). ns ++ placeholders rest) (names_of_plain bytes)

-- a text that begins with a placeholder is exactly that where nothing comes after it
pub sole_if_alone : (text name rest : List ℕ) → pieces text ≡ placeholder name ∷ pieces rest → length rest ≡ 0 → sole_placeholder (pieces text) ≡ Some name
sole_if_alone text name [] is empty = ap (λ (ps : List Piece). sole_placeholder ps) is
sole_if_alone text name (b ∷ bs) is empty = absurd (omega (arith, empty))

-- where something comes after it, it isn't
pub not_sole_if_more : (text name rest : List ℕ) → pieces text ≡ placeholder name ∷ pieces rest → 0 < length rest → sole_placeholder (pieces text) ≡ None
not_sole_if_more text name [] is some = absurd (omega (arith, some))
not_sole_if_more text name (b ∷ bs) is some =
    ap (λ (ps : List Piece). sole_placeholder ps) is
    ∙ elim (placeholder_at (b ∷ bs)) as (λ o. sole_placeholder (placeholder name ∷ elim o as (λ _. List Piece) [ None ↦ plain b ∷ pieces_after 0 bs | Some n ↦ placeholder n ∷ pieces_after (length n + 3) bs ]) ≡ None) [ None ↦ refl | Some n ↦ refl ]

-- nor where the text begins with none
pub not_sole_if_none : (text : List ℕ) → placeholder_at text ≡ None → sole_placeholder (pieces text) ≡ None
not_sole_if_none [] is = refl
not_sole_if_none (b ∷ bs) is = ap (λ (ps : List Piece). sole_placeholder ps) (pieces_plain b bs is)

-- the pieces of a text that begins with a placeholder
pub pieces_after_placeholder : (text name rest : List ℕ) → placeholder_at text ≡ Some name → rest ≡ drop (length name + 4) text → pieces text ≡ placeholder name ∷ pieces rest
pieces_after_placeholder text name rest is rest_is =
    let found = placeholder_at_gives text name is in
    ap (λ (xs : List ℕ). pieces xs) found.1 ∙ pieces_placeholder name (drop (length name + 4) text) found.0
    ∙ ap (λ (xs : List ℕ). placeholder name ∷ pieces xs) (sym rest_is)
