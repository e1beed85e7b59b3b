-- The order in which invocations are kept: by their ids, which are counted up and never used again.
use Rattle.std.specs.Prelude.{ℕ, List, [], ◌∷◌, ◌<◌}
use Rattle.std.specs.List.{AllByRecursion}
use Rattle.thing_state.specs.State.{Invocation}

-- the ids rise: each is below all that come after it
abbrev pub IdsRise : List Invocation → Type 0
IdsRise [] = Unit {0}
IdsRise (i ∷ invocations) = AllByRecursion (λ j. i.id < j.id) invocations × IdsRise invocations

-- and all of them are below the next id
abbrev pub AreCounted : ℕ → List Invocation → Type 0
AreCounted next invocations = IdsRise invocations × AllByRecursion (λ i. i.id < next) invocations
