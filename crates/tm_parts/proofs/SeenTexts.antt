-- Whether a text that is seen piece by piece is another text.
use Rattle.std.proofs.Common.{◌≡◌, ℕ, List, ◌++◌, length, drop, sym, ap, ◌∙◌, Bool, inl, inr}
use Rattle.std.specs.Str.{bytes_eq}
use Rattle.std.proofs.lemmas.Bool.{cases_Bool, true≢false}
use Rattle.std.proofs.lemmas.Slice.Eq.{bytes_eq-Decides}
use Rattle.std.proofs.Math.Seq.{drop-append_seam}

-- two tests that say the same are the same
same_test : (xs ys us vs : List ℕ) → (xs ≡ ys → us ≡ vs) → (us ≡ vs → xs ≡ ys) → bytes_eq xs ys ≡ bytes_eq us vs
same_test xs ys us vs to from = elim (cases_Bool (bytes_eq xs ys)) [
  | inl same ↦ same ∙ sym ((bytes_eq-Decides us vs).1 (to ((bytes_eq-Decides xs ys).0 same)))
  | inr other ↦ elim (cases_Bool (bytes_eq us vs)) [
    | inl same ↦ absurd (true≢false (sym ((bytes_eq-Decides xs ys).1 (from ((bytes_eq-Decides us vs).0 same))) ∙ other))
    | inr others ↦ other ∙ sym others
  ]
]

-- texts that begin alike are the same where their rests are
pub same_after : (whole : Bool) (rest part after left more : List ℕ) → bytes_eq rest left ≡ whole → rest ≡ part ++ after → left ≡ part ++ more → bytes_eq after more ≡ whole
same_after whole rest part after left more before cut left_is =
    same_test after more rest left
    (λ e. cut ∙ ap (λ (xs : List ℕ). part ++ xs) e ∙ sym left_is)
    (λ e. sym (drop-append_seam part after) ∙ ap (λ (xs : List ℕ). drop (length part) xs) (sym cut ∙ e ∙ left_is) ∙ drop-append_seam part more)
    ∙ before
