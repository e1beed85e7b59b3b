-- CR LF pairs in front of a message.
use Rattle.std.proofs.Common.{◌≡◌, ℕ, ◌+◌, ◌-◌, ◌≤◌, ◌&&◌, ◌==◌, Bool, true, false, List, [], ◌∷◌, ◌++◌, length, drop, refl, sym, ap, ◌∙◌, arith, cond, suc, length-drop}
use Rattle.http_wire.specs.Heads.{skipped}

-- the rest is the end of the bytes
pub record IsEnd (bytes rest : List ℕ) : Type 0 where
  pub place : ℕ
  pub within : place ≤ length bytes
  pub is : rest ≡ drop place bytes

end_by : (a b : ℕ) (bytes : List ℕ) (t : Bool) → IsEnd bytes (skipped bytes) → IsEnd (a ∷ b ∷ bytes) (cond t (skipped bytes) (a ∷ b ∷ bytes))
end_by a b bytes true later = record { place = later.place + 2; within = omega (arith, later.within); is = later.is ∙ two later.place }
  where
    two : (k : ℕ) → drop k bytes ≡ drop (k + 2) (a ∷ b ∷ bytes)
    two k = let e : k + 2 ≡ suc (suc k) = omega arith in rw e refl
end_by a b bytes false later = record { place = 0; within = omega arith; is = refl }

pub skipped_is_end : (bytes : List ℕ) → IsEnd bytes (skipped bytes)
skipped_is_end [] = record { place = 0; within = omega arith; is = refl }
skipped_is_end (a ∷ []) = record { place = 0; within = omega arith; is = refl }
skipped_is_end (a ∷ b ∷ bytes) = end_by a b bytes ((a == 13) && (b == 10)) (skipped_is_end bytes)

-- nothing more is skipped
twice_by : (a b : ℕ) (bytes : List ℕ) (t : Bool) → ((a == 13) && (b == 10)) ≡ t → skipped (skipped bytes) ≡ skipped bytes →
    skipped (cond t (skipped bytes) (a ∷ b ∷ bytes)) ≡ cond t (skipped bytes) (a ∷ b ∷ bytes)
twice_by a b bytes true is later = later
twice_by a b bytes false is later = rw is refl

pub skipped_twice : (bytes : List ℕ) → skipped (skipped bytes) ≡ skipped bytes
skipped_twice [] = refl
skipped_twice (a ∷ []) = refl
skipped_twice (a ∷ b ∷ bytes) = twice_by a b bytes ((a == 13) && (b == 10)) refl (skipped_twice bytes)

-- more bytes after what is left, and after all
more_by : (a b : ℕ) (bytes more : List ℕ) (t : Bool) → ((a == 13) && (b == 10)) ≡ t → skipped (bytes ++ more) ≡ skipped (skipped bytes ++ more) →
    cond t (skipped (bytes ++ more)) (a ∷ b ∷ (bytes ++ more)) ≡ skipped (cond t (skipped bytes) (a ∷ b ∷ bytes) ++ more)
more_by a b bytes more true is later = later
more_by a b bytes more false is later = rw is refl

pub skipped_more : (bytes more : List ℕ) → skipped (bytes ++ more) ≡ skipped (skipped bytes ++ more)
skipped_more [] more = refl
skipped_more (a ∷ []) more = refl
skipped_more (a ∷ b ∷ bytes) more = more_by a b bytes more ((a == 13) && (b == 10)) refl (skipped_more bytes more)

-- bytes that are left alike are left alike where more come
pub skipped_alike : (xs ys more : List ℕ) → skipped xs ≡ skipped ys → skipped (xs ++ more) ≡ skipped (ys ++ more)
skipped_alike xs ys more same = skipped_more xs more ∙ ap (λ (bytes : List ℕ). skipped (bytes ++ more)) same ∙ sym (skipped_more ys more)

-- the rest, from its place in the bytes
pub skipped_from : (bytes rest : List ℕ) → rest ≡ skipped bytes → drop (length bytes - length rest) bytes ≡ rest
skipped_from bytes rest is =
    let end = skipped_is_end bytes in
    let whole : rest ≡ drop end.place bytes = is ∙ end.is in
    let place : length bytes - length rest ≡ end.place = omega (arith, end.within, ap length whole, length-drop end.place bytes) in
    ap (λ (k : ℕ). drop k bytes) place ∙ sym whole
