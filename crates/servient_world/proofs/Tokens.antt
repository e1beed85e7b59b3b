-- Tokens that are one.
use Rattle.std.proofs.Common.{◌≡◌, ℕ, true, List, refl}
use Rattle.std.specs.Str.{bytes_eq}
use Rattle.std.proofs.lemmas.Slice.Eq.{bytes_eq-Decides}

pub same_token : (xs ys : List ℕ) → bytes_eq xs ys ≡ true → xs ≡ ys
same_token xs ys e = (bytes_eq-Decides xs ys).0 e

pub own_token : (xs : List ℕ) → bytes_eq xs xs ≡ true
own_token xs = (bytes_eq-Decides xs xs).1 refl
