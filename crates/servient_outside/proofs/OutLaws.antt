-- Laws of what an output takes while it fits.
use Rattle.std.proofs.Common.{◌≡◌, ◌+◌, ◌-◌, ℕ, List, [], ◌++◌, Some, length, refl, ap, ◌∙◌, arith}
use Rattle.std.proofs.lemmas.List.{length-append}
use Rattle.servient_outside.specs.declared.out.Put.{Put}
use Rattle.servient_outside.specs.declared.out.Put.TheVariants as put
use Rattle.servient_outside.specs.Out.{OutSeen, TakesWhatFits, NoWriteFailed}

pub fits_none : (o : OutSeen) → TakesWhatFits o o put.Done []
fits_none o room is fits = (refl, is ∙ ap (λ (n : ℕ). Some n) (omega arith), refl)

-- one piece and then another
pub fits_then : (a b c : OutSeen) (p : Put) (x y : List ℕ) → TakesWhatFits a b put.Done x → TakesWhatFits b c p y → TakesWhatFits a c p (x ++ y)
fits_then a b c p x y first second room is fits =
    let sum : length (x ++ y) ≡ length x + length y = length-append x y in
    let one = first room is (omega (arith, sum, fits)) in
    let other = second (room - length x) one.1 (omega (arith, sum, fits)) in
    (other.0, other.1 ∙ ap (λ (n : ℕ). Some n) (omega (arith, sum)), other.2 ∙ one.2)

-- an output that fails at a piece has no room for it, nor for a longer one
pub fits_no_longer : (a b : OutSeen) (x y : List ℕ) → TakesWhatFits a b put.Failed x → TakesWhatFits a b put.Failed (x ++ y)
fits_no_longer a b x y part room is fits =
    let sum : length (x ++ y) ≡ length x + length y = length-append x y in
    let done = part room is (omega (arith, sum, fits)) in
    absurd cc

-- a piece was put, and then a text was written
pub no_write_failed_then : (a b c : OutSeen) (p : Put) (x y : List ℕ) → TakesWhatFits a b p x → NoWriteFailed b c y → NoWriteFailed a c (x ++ y)
no_write_failed_then a b c p x y first second room is fits =
    let sum : length (x ++ y) ≡ length x + length y = length-append x y in
    let one = first room is (omega (arith, sum, fits)) in
    second (room - length x) one.1 (omega (arith, sum, fits)) ∙ one.2
