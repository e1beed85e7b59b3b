-- Laws of bytes that are read or written in several turns.
use Rattle.std.proofs.Common.{◌≡◌, ℕ, ◌-◌, List, ◌++◌, Option, Some, None, length, take, drop, sym, ap, ◌∙◌, append_assoc}
use Rattle.std.proofs.lemmas.List.{take_rest, take-append-drop}
use Rattle.std.specs.Io.KnownBytes.{Appends, Consumes}

-- the bytes that two turns consume, one after the other
pub Consumes-append : (first second third : Option (List ℕ)) (xs ys : List ℕ) → Consumes first second xs → Consumes second third ys → Consumes first third (xs ++ ys)
Consumes-append None second third xs ys a b = tt
Consumes-append (Some p) None third xs ys a b = absurd a
Consumes-append (Some p) (Some q) None xs ys a b = absurd b
Consumes-append (Some p) (Some q) (Some r) xs ys a b = a ∙ ap (λ (zs : List ℕ). xs ++ zs) b ∙ sym (append_assoc xs ys r)

-- the bytes that two turns write, one after the other
pub Appends-append : (first second third : Option (List ℕ)) (xs ys : List ℕ) → Appends first second xs → Appends second third ys → Appends first third (xs ++ ys)
Appends-append None second third xs ys a b = tt
Appends-append (Some p) None third xs ys a b = absurd a
Appends-append (Some p) (Some q) None xs ys a b = absurd b
Appends-append (Some p) (Some q) (Some r) xs ys a b = b ∙ ap (λ (zs : List ℕ). zs ++ ys) a ∙ append_assoc p xs ys

-- a piece of which a front is written, and then n bytes of the rest
pub piece-after_turn : (piece front rest : List ℕ) (count : ℕ) → piece ≡ front ++ rest → piece ≡ (front ++ take count rest) ++ take (length rest - count) (drop count rest)
piece-after_turn piece front rest count parts =
    parts
    ∙ ap (λ (zs : List ℕ). front ++ zs) (sym (take-append-drop count rest))
    ∙ sym (append_assoc front (take count rest) (drop count rest))
    ∙ ap (λ (zs : List ℕ). (front ++ take count rest) ++ zs) (sym (take_rest rest count))
