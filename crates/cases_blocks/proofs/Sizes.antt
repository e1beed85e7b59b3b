-- The size of a path with a segment more.
use Rattle.std.proofs.Common.{◌≡◌, ◌+◌, ◌≤◌, ℕ, List, [], ◌∷◌, ◌++◌, length, ap, arith}
use Rattle.coap_blocks.specs.Paths.{path_size}
use Rattle.coap_blocks.proofs.Paths.{size-append}

pub grows : (p q : List (List ℕ)) (s : List ℕ) → q ≡ p ++ s ∷ [] → length s ≤ 255 → path_size q ≤ path_size p + 256
grows p q s e short = omega (arith, ap path_size e, size-append p s, short)

pub stays : (p q : List (List ℕ)) → q ≡ p → path_size q ≤ path_size p + 256
stays p q e = omega (arith, ap path_size e)
