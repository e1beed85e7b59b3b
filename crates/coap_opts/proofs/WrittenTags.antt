-- The tag of a version is read as that version.
use Rattle.std.proofs.Common.{◌≡◌, ◌<◌, ◌≤◌, ℕ, Bool, true, false, List, ◌∷◌, length, Some, None, refl, sym, ap, ◌∙◌, arith}
use Rattle.std.specs.Prelude.{◌==◌, ◌&&◌, not, nat_le, if◌then◌else◌}
use Rattle.std.proofs.lemmas.Bool.Decides.{nat_tests}
use Rattle.coap_msg.specs.Numbers.{number_of}
use Rattle.coap_msg.proofs.NumberValues.{first_byte, number_is_read}
use Rattle.coap_opts.specs.Reading.{version_of, TagsAreReadAgain}

where_so : (t : Bool) (n : ℕ) → t ≡ true → (if t then Some n else None) ≡ Some n
where_so true n is = refl
where_so false n is = absurd cc

says_one : (b : ℕ) (rest : List ℕ) → 0 < b → length rest ≤ 3 → version_of (b ∷ rest) ≡ Some (number_of (b ∷ rest))
says_one b rest some few = where_so _ (number_of (b ∷ rest)) is_one
  where
    is_one : (nat_le 1 (length (b ∷ rest)) && nat_le (length (b ∷ rest)) 4 && not (b == 0)) ≡ true
    is_one = grind (arith, nat_tests)

pub tags_are_read_again : TagsAreReadAgain
tags_are_read_again version some low =
    let first = first_byte version some in
    ap version_of first.2
    ∙ (says_one first.0 first.1 first.3 first.4 ∙ ap (λ (value : List ℕ). Some (number_of value)) (sym first.2))
    ∙ ap Some (number_is_read version low)
