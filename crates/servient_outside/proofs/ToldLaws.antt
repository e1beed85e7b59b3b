-- Laws of what is recorded.
use Rattle.std.proofs.Common.{◌≡◌, List, [], ◌++◌, Option, Some, None, refl, sym, ap, ◌∙◌, append_assoc}
use Rattle.std.proofs.lemmas.List.{append-nil}
use Rattle.std.proofs.lemmas.Option.{same_Some}
use Rattle.servient_outside.specs.Told.{Continues}

-- a record that stayed as it was continues by nothing
pub continues_same : {A : Type 0} (told : Option (List A)) → Continues told told []
continues_same None = tt
continues_same (Some all) = (all, refl, sym (append-nil all))

-- a record that continued twice continued by both
pub continues_then : {A : Type 0} (a b c : Option (List A)) (xs ys : List A) → Continues a b xs → Continues b c ys → Continues a c (xs ++ ys)
continues_then a b None xs ys p q = tt
continues_then a None (Some z) xs ys p q = absurd cc
continues_then {A} a (Some y) (Some z) xs ys p q =
    let same : y ≡ q.0 = same_Some y q.0 q.1 in
    (p.0, p.1, q.2 ∙ ap (λ (zs : List A). zs ++ ys) (sym same ∙ p.2) ∙ append_assoc p.0 xs ys)
