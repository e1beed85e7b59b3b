-- The test of pointers, and the tokens that a pointer writes.
use Rattle.std.proofs.Common.{◌≡◌, ◌≢◌, ℕ, List, [], ◌∷◌, ◌++◌, refl, sym, ap, ◌∙◌, inl, inr, arith, append_assoc, cond}
use Rattle.std.specs.Prelude.{Bool, true, false, Option, None}
use Rattle.std.proofs.lemmas.Bool.{cases_Bool}
use Rattle.std.proofs.lemmas.Bool.Decides.{nat_tests}
use Rattle.wot_json.specs.Tree.{Json}
use Rattle.wot_json.specs.Places.{token_byte, token_text, place_text}
use Rattle.wot_json.specs.Pointer.{IsPointer, is_pointer, escapes, with_byte, first_tokens, tokens_in, value_at, part_of}
use Rattle.wot_json.proofs.PointerTexts.{is_written, tilde, slash, plain, escapes_tokens, pointer_escaped}

-- the texts of tokens pass the test
tested : (tokens : List (List ℕ)) → is_pointer (place_text tokens) ≡ true
tested [] = refl
tested (token ∷ further) = escapes_tokens token further

-- a pointer passes the test
pub is_pointer-pointer : (at : List ℕ) → IsPointer at → is_pointer at ≡ true
is_pointer-pointer at (tokens, is) = ap is_pointer is ∙ tested tokens

-- a text that passes the test is a pointer
pub pointer-is_pointer : (at : List ℕ) → is_pointer at ≡ true → IsPointer at
pointer-is_pointer [] passes = ([], refl)
pointer-is_pointer (b ∷ bs) passes =
    let begins : b ≡ 47 = grind (arith, nat_tests, passes) in
    let escaped : escapes bs ≡ true = grind (arith, nat_tests, passes) in
    pointer_escaped (b ∷ bs) bs (ap (λ (m : ℕ). m ∷ bs) begins) escaped

-- a text that is no pointer doesn't pass
pub is_pointer-other : (at : List ℕ) → ¬ IsPointer at → is_pointer at ≡ false
is_pointer-other at other = elim (cases_Bool (is_pointer at)) [
  | inl passes ↦ absurd (other (pointer-is_pointer at passes))
  | inr fails ↦ fails
]

-- a byte that is neither `~` nor `/` begins the token
with_byte-plain : (b : ℕ) (token : List ℕ) (further : List (List ℕ)) → b ≢ 126 → b ≢ 47 → with_byte b (token, further) ≡ (b ∷ token, further)
with_byte-plain b token further no_tilde no_slash = grind (arith, nat_tests)

-- a token is read back before what begins no more of it
first_tokens-token : (token rest : List ℕ) (further : List (List ℕ)) → first_tokens rest ≡ ([], further) → first_tokens (token_text token ++ rest) ≡ (token, further)
first_tokens-token [] rest further behind = behind
first_tokens-token (b ∷ token) rest further behind =
    let more : first_tokens (token_text token ++ rest) ≡ (token, further) = first_tokens-token token rest further behind in
    ap first_tokens (append_assoc (token_byte b) (token_text token) rest) ∙ elim (is_written b) [
      | tilde is text ↦
          ap (λ (t : List ℕ). first_tokens (t ++ (token_text token ++ rest))) text
          ∙ ap (λ (tokens : List ℕ × List (List ℕ)). with_byte 126 (with_byte 48 tokens)) more
          ∙ ap (λ (m : ℕ). (m ∷ token, further)) (sym is)
      | slash is text ↦
          ap (λ (t : List ℕ). first_tokens (t ++ (token_text token ++ rest))) text
          ∙ ap (λ (tokens : List ℕ × List (List ℕ)). with_byte 126 (with_byte 49 tokens)) more
          ∙ ap (λ (m : ℕ). (m ∷ token, further)) (sym is)
      | plain no_tilde no_slash text ↦
          ap (λ (t : List ℕ). first_tokens (t ++ (token_text token ++ rest))) text
          ∙ ap (with_byte b) more
          ∙ with_byte-plain b token further no_tilde no_slash
    ]

first_tokens-place : (further : List (List ℕ)) → first_tokens (place_text further) ≡ ([], further)
first_tokens-place [] = refl
first_tokens-place (token ∷ further) = ap (with_byte 47) (first_tokens-token token (place_text further) further (first_tokens-place further))

-- the tokens of a pointer are those that it was written from
pub tokens_in-place : (tokens : List (List ℕ)) → tokens_in (place_text tokens) ≡ tokens
tokens_in-place [] = refl
tokens_in-place (token ∷ further) =
    ap (λ (tokens : List ℕ × List (List ℕ)). tokens.0 ∷ tokens.1) (first_tokens-token token (place_text further) further (first_tokens-place further))

-- a pointer is the text of its tokens
pub place_of_tokens : (at : List ℕ) → IsPointer at → at ≡ place_text (tokens_in at)
place_of_tokens at (tokens, is) = is ∙ sym (ap place_text (ap tokens_in is ∙ tokens_in-place tokens))

-- the value where the tokens of a pointer lead is the one at that pointer
pub part_found : (at : List ℕ) (whole : Json) (part : Option Json) → IsPointer at
    → ((tokens : List (List ℕ)) → at ≡ place_text tokens → part ≡ value_at tokens whole) → part ≡ part_of at whole
part_found at whole part is found =
    found (tokens_in at) (place_of_tokens at is) ∙ sym (ap (λ (b : Bool). cond b (value_at (tokens_in at) whole) None) (is_pointer-pointer at is))
