-- Lemmas on lists that several crates use.
use Rattle.std.proofs.Common.{◌≡◌, ℕ, ◌+◌, ◌-◌, ◌≤◌, List, drop, sym, ap, ◌∙◌, arith}
use Rattle.std.proofs.lemmas.List.{drop-drop}

-- lists that agree from one place on agree from every later place on
pub drop-further : {A : Type 0} (m n : ℕ) (xs ys : List A) → m ≤ n → drop m xs ≡ drop m ys → drop n xs ≡ drop n ys
drop-further {A} m n xs ys le same =
    let there : n ≡ m + (n - m) = omega arith in
    ap (λ (i : ℕ). drop i xs) there ∙ sym (drop-drop (n - m) m xs) ∙ ap (λ (zs : List A). drop (n - m) zs) same ∙ drop-drop (n - m) m ys ∙ ap (λ (i : ℕ). drop i ys) (sym there)
