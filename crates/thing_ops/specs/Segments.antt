-- A path as it is kept: the bytes of its segments one after another, and where each of them ends.
use Rattle.std.specs.Prelude.{◌≡◌, ◌≤◌, ℕ, List, [], ◌∷◌, ◌++◌, length, slice_range}
use Rattle.thing_ops.specs.Routes.{route_of}
use Rattle.thing_ops.specs.declared.routing.RouteKind.{RouteKind}

-- the pieces of these bytes from a place on, of which each begins where the one before it ends
abbrev pub pieces : List ℕ → ℕ → List ℕ → List (List ℕ)
pieces bytes start [] = []
pieces bytes start (end ∷ ends) = slice_range bytes start end ∷ pieces bytes end ends

-- from this place on, no end is before the end in front of it, and the last one is the end of the bytes
abbrev pub AreEnds : ℕ → List ℕ → ℕ → Type 0
AreEnds start [] whole = start ≡ whole
AreEnds start (end ∷ ends) whole = (start ≤ end) × AreEnds end ends whole

-- the same path with these bytes after its last segment
abbrev pub with_longer_last : List (List ℕ) → List ℕ → List (List ℕ)
with_longer_last [] bytes = []
with_longer_last (segment ∷ []) bytes = (segment ++ bytes) ∷ []
with_longer_last (segment ∷ next ∷ segments) bytes = segment ∷ with_longer_last (next ∷ segments) bytes

-- the parts that are kept of a path: the ends of its segments, and its route
pub record AreJudged (kind : RouteKind) (bytes places : List ℕ) : Type 0 where
  pub within : AreEnds 0 places (length bytes)
  pub judged : kind ≡ route_of (pieces bytes 0 places)
