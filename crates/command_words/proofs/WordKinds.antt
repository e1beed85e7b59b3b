-- The answers of `clap`'s lexer on a word of each kind.
use Rattle.std.proofs.Common.{◌≡◌, ◌==◌, ℕ, Bool, true, false, List, [], ◌∷◌, Option, Some, None, refl, sym, ap, arith, is_some, ◌++◌}
use Rattle.std.specs.Prelude.{slice_get}
use Rattle.std.specs.Str.{IsUtf8, bytes_eq, chars}
use Rattle.std.proofs.lemmas.Str.{IsUtf8-past_char, encode_ascii, encodes-chars}
use Rattle.std.proofs.Math.Utf8.{encodes}
use Rattle.clap.specs.Lexer.{long_of, name_and_value, short_of}
use Rattle.command_words.specs.Words.{WordKind, option, options_end, plain, unknown, word_kind}

-- the word is `--`
abbrev pub IsDashes : List ℕ → Bool → Type 0
IsDashes word test = bytes_eq word (45 ∷ 45 ∷ []) ≡ test

-- A word as the lexer sees it.
pub data LooksLike (word : List ℕ) : WordKind → Type 0 where
  as_end : IsDashes word true → LooksLike word options_end
  as_option : (name : List ℕ) (value : Option (List ℕ)) → IsDashes word false → long_of word ≡ Some (name, value) → LooksLike word (option name value)
  as_unknown : (b : ℕ) (rest : List ℕ) → word ≡ 45 ∷ b ∷ rest → IsDashes word false → long_of word ≡ None → short_of word ≡ Some (b ∷ rest)
      → LooksLike word unknown
  as_plain : IsDashes word false → long_of word ≡ None → short_of word ≡ None → LooksLike word plain

is_byte : (b n : ℕ) → (b == n) ≡ true → b ≡ n
is_byte b n h = grind (arith, h)

pub looks_like : (word : List ℕ) → LooksLike word (word_kind word)
looks_like [] = as_plain refl refl refl
looks_like (b ∷ []) = go (b == 45) refl
  where
    go : (t : Bool) → (b == 45) ≡ t → LooksLike (b ∷ []) (word_kind (b ∷ []))
    go true e = rw e (as_plain (rw e refl) (rw e refl) (rw e refl))
    go false e = rw e (as_plain (rw e refl) (rw e refl) (rw e refl))
looks_like (b ∷ d ∷ rest) = go (b == 45) refl (d == 45) refl rest
  where
    go : (t : Bool) → (b == 45) ≡ t → (u : Bool) → (d == 45) ≡ u → (more : List ℕ) → LooksLike (b ∷ d ∷ more) (word_kind (b ∷ d ∷ more))
    go true e true f [] = rw (e, f) (as_end (rw (e, f) refl))
    go true e true f (x ∷ more) = rw (e, f) (as_option (name_and_value (x ∷ more)).0 (name_and_value (x ∷ more)).1 (rw (e, f) refl) (rw (e, f) refl))
    go true e false f more = rw (e, f) (as_unknown d more (rw (is_byte b 45 e) refl) (rw (e, f) refl) (rw (e, f) refl) (rw (e, f) refl))
    go false e u f more = rw e (as_plain (rw e refl) (rw e refl) (rw e refl))

-- a text that goes on after a hyphen has a first character there
pub first_character : (b : ℕ) (rest : List ℕ) → IsUtf8 (45 ∷ b ∷ rest) → is_some (slice_get (chars (b ∷ rest)) 0) ≡ true
first_character b rest text = go (chars (b ∷ rest)) (encodes-chars (b ∷ rest) (IsUtf8-past_char (45 ∷ b ∷ rest) (b ∷ rest) 45 text (ap (λ (xs : List ℕ). xs ++ b ∷ rest) (sym (encode_ascii 45 (omega arith))))))
  where
    go : (cs : List ℕ) → encodes cs ≡ b ∷ rest → is_some (slice_get cs 0) ≡ true
    go [] e = cc
    go (x ∷ cs) e = refl
