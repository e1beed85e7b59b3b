-- Names are plain segments, and so are two plain texts together.
use Rattle.std.proofs.Common.{◌≡◌, ◌∙◌, ℕ, List, [], ◌∷◌, ◌++◌, Bool, true, ◌&&◌, refl, ap}
use Rattle.std.specs.Prelude.{◌||◌, ◌==◌}
use Rattle.std.specs.List.{list_all}
use Rattle.std.proofs.lemmas.Bool.{and_parts}
use Rattle.wot_forms.specs.Segments.{is_name_byte, is_plain_segment, is_segment_byte}

pub and_both : (a b : Bool) → a ≡ true → b ≡ true → (a && b) ≡ true
and_both a b one other = ap (λ (x : Bool). x && b) one ∙ other

plain_byte : (b : ℕ) → is_name_byte b ≡ true → is_segment_byte b ≡ true
plain_byte b is = ap (λ (x : Bool). x || b == 126) is

-- a name is plain
pub plain_name : (name : List ℕ) → list_all is_name_byte name ≡ true → is_plain_segment name ≡ true
plain_name [] is = refl
plain_name (b ∷ bs) is =
    let both = and_parts (is_name_byte b) (list_all is_name_byte bs) is in
    and_both (is_segment_byte b) (is_plain_segment bs) (plain_byte b both.0) (plain_name bs both.1)

-- and so are two plain texts together
pub plain_both : (xs ys : List ℕ) → is_plain_segment xs ≡ true → is_plain_segment ys ≡ true → is_plain_segment (xs ++ ys) ≡ true
plain_both [] ys one other = other
plain_both (x ∷ xs) ys one other =
    let both = and_parts (is_segment_byte x) (is_plain_segment xs) one in
    and_both (is_segment_byte x) (is_plain_segment (xs ++ ys)) both.0 (plain_both xs ys both.1 other)
