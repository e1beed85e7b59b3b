-- The text that is made of pieces.
use Rattle.std.proofs.Common.{◌≡◌, ℕ, List, [], ◌∷◌, map, refl, ap}
use Rattle.std.specs.List.{flat_map}
use Rattle.tm_parts.specs.Placeholders.{plain}
use Rattle.tm_parts.specs.Substitution.{Values, piece_text, piece_faults}

-- plain bytes stay
pub text_of_plain : (values : Values) (bytes : List ℕ) → flat_map (piece_text values) (map plain bytes) ≡ bytes
text_of_plain values [] = refl
text_of_plain values (b ∷ bytes) = ap (λ (bs : List ℕ). b ∷ bs) (text_of_plain values bytes)

-- and have no faults
pub faults_of_plain : (values : Values) (bytes : List ℕ) → flat_map (piece_faults values) (map plain bytes) ≡ []
faults_of_plain values [] = refl
faults_of_plain values (b ∷ bytes) = faults_of_plain values bytes
