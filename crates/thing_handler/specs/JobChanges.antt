-- The effect of a turn of a job on the list of the invocations that run.
use Rattle.std.specs.Prelude.{ℕ, zero, suc, ◌≡◌, ◌-◌, ◌<◌, Option, Some, None, List, [], ◌∷◌, ◌++◌, length, slice_get}
use Rattle.std.specs.List.{remove}
use Rattle.thing_handler.specs.declared.job.Run.{Run}
use Rattle.thing_handler.specs.declared.job.Change.{Change}
use Rattle.thing_handler.specs.declared.job.Change.TheVariants.{Stays, Begins, IsQueried, Ends}
use Rattle.thing_handler.specs.InMemory.{run_of, queried, ended}

-- one query fewer is left to the invocation at this place
abbrev pub queried_at : ℕ → List Run → List Run
queried_at place [] = []
queried_at zero (r ∷ runs) = record r { left = r.left - 1 } ∷ runs
queried_at (suc place) (r ∷ runs) = r ∷ queried_at place runs

-- The earliest invocation of an id is at this place, or none of that id runs.
abbrev pub StandsAt : ℕ → List Run → Option ℕ → Type 0
StandsAt id runs None = (run_of id runs ≡ None) × (ended id runs ≡ runs)
StandsAt id runs (Some place) =
    (place < length runs)
    × (run_of id runs ≡ slice_get runs place)
    × (ended id runs ≡ remove runs place)
    × (queried id runs ≡ queried_at place runs)

-- the invocations after a change
abbrev pub changed : Change → List Run → List Run
changed Stays runs = runs
changed (Begins r) runs = runs ++ r ∷ []
changed (IsQueried place) runs = queried_at place runs
changed (Ends place) runs = remove runs place

-- A change can be made to a list of this length and capacity: there is room for an invocation that begins, and another
-- is at its place.
abbrev pub CanBeMade : Change → ℕ → ℕ → Type 0
CanBeMade Stays count capacity = Unit {0}
CanBeMade (Begins r) count capacity = count < capacity
CanBeMade (IsQueried place) count capacity = place < count
CanBeMade (Ends place) count capacity = place < count
