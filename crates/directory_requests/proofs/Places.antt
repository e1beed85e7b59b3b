-- The place that the search of `memchr` finds, in the words of the definitions.
use Rattle.std.proofs.Common.{◌≡◌, ℕ, ◌+◌, ◌-◌, ◌<◌, ◌≤◌, Bool, true, false, List, [], ◌∷◌, length, take, drop, refl, sym, ◌∙◌, arith}
use Rattle.std.specs.Prelude.{Some, None, ◌==◌}
use Rattle.std.specs.List.{position_or_len, slice_split}
use Rattle.std.proofs.lemmas.List.{take_rest}
use Rattle.std.proofs.lemmas.List.Elements.{All-from_get_or}
use Rattle.std.proofs.lemmas.List.Splits.{slice_split_first, slice_split_none}
use Rattle.std.proofs.lemmas.List.Sums.{position_or_len_is, fails_before_first}
use Rattle.memchr.specs.Find.{IsFirstByte, is_byte}

-- a test that isn't true is false
isnt_true : (b : Bool) → ¬ (b ≡ true) → b ≡ false
isnt_true true isnt = absurd (isnt refl)
isnt_true false isnt = refl

-- the first such byte, if there is one, is where the bytes before it end
pub place_of_first : (byte : ℕ) (bytes : List ℕ) (place : ℕ) → IsFirstByte (is_byte byte) bytes (Some place) → place ≡ position_or_len (λ b. b == byte) bytes
place_of_first byte bytes place found =
    sym (position_or_len_is (λ b. b == byte) bytes place 0 (omega (arith, found.0.high))
    (λ k below. isnt_true _ (λ is. found.0.before k (omega arith) below is)) (λ within. found.1))

-- and where there is none, that is the end
pub place_of_none : (byte : ℕ) (bytes : List ℕ) → IsFirstByte (is_byte byte) bytes None → length bytes ≡ position_or_len (λ b. b == byte) bytes
place_of_none byte bytes found =
    sym (position_or_len_is (λ b. b == byte) bytes (length bytes) 0 (omega arith) (λ k below. isnt_true _ (λ is. found k (omega arith) below is)) (λ within. absurd (omega arith)))

-- where there is no such byte, all bytes are one piece
pub one_piece : (byte : ℕ) (bytes : List ℕ) → length bytes ≤ position_or_len (λ b. b == byte) bytes → slice_split (λ b. b == byte) bytes ≡ bytes ∷ []
one_piece byte bytes none =
    slice_split_none (λ b. b == byte) bytes
    (All-from_get_or (λ b. (b == byte) ≡ false) bytes 0 (λ i within. fails_before_first (λ b. b == byte) bytes i 0 (omega arith)))

-- and where there is one, it ends the first
pub further_pieces : (byte : ℕ) (bytes : List ℕ) (place : ℕ) → place ≡ position_or_len (λ b. b == byte) bytes → place < length bytes
    → slice_split (λ b. b == byte) bytes ≡ take place bytes ∷ slice_split (λ b. b == byte) (take (length bytes - (place + 1)) (drop (place + 1) bytes))
further_pieces byte bytes place is within = slice_split_first (λ b. b == byte) bytes 0 (omega arith) ∙ rw (sym is, take_rest bytes (place + 1)) refl
