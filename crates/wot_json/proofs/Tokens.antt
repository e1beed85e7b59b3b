-- Tokens of pointers as they are written.
use Rattle.std.proofs.Common.{◌≡◌, ◌≢◌, ℕ, suc, ◌<◌, List, [], ◌∷◌, length, get_or, refl, sym, ap, ◌∙◌, arith, append-nil}
use Rattle.std.specs.Char.{encode_utf8}
use Rattle.std.proofs.lemmas.Bool.Decides.{nat_tests}
use Rattle.std.proofs.lemmas.Str.{inside_one}
use Rattle.wot_json.specs.Places.{token_byte, token_text}

-- a byte that is neither `~` nor `/` is written as it is
pub token_byte-plain : (b : ℕ) → b ≢ 126 → b ≢ 47 → token_byte b ≡ b ∷ []
token_byte-plain b tilde slash = grind (arith, nat_tests)

abbrev IsPlain : List ℕ → Type 0
IsPlain bs = (k : ℕ) → k < length bs → (get_or bs k 0 ≢ 126) × (get_or bs k 0 ≢ 47)

pub token_text-plain : (bs : List ℕ) → IsPlain bs → token_text bs ≡ bs
token_text-plain [] h = refl
token_text-plain (b ∷ bs) h =
    let first = h 0 (omega arith) in
    rw (token_byte-plain b first.0 first.1) (ap (λ (rest : List ℕ). b ∷ rest) (token_text-plain bs (λ k within. h (suc k) (omega arith))))

-- so is a character that is neither
pub token_text-encode : (c : ℕ) → c ≢ 126 → c ≢ 47 → token_text (encode_utf8 c) ≡ encode_utf8 c
token_text-encode c tilde slash =
    token_text-plain (encode_utf8 c) (λ k within. (
      λ is. tilde (inside_one c [] (encode_utf8 c) k (sym (append-nil _)) within (omega arith) ∙ is),
      λ is. slash (inside_one c [] (encode_utf8 c) k (sym (append-nil _)) within (omega arith) ∙ is),
    ))
