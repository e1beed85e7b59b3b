-- The place of a request's path.
use Rattle.std.specs.Prelude.{ℕ, List, Option, Some, option_map, option_and_then}
use Rattle.thing_ops.specs.Routes.{route_of}
use Rattle.thing_site.specs.Site.{Site}
use Rattle.thing_site.specs.Places.{place_at, target_at}
use Rattle.thing_site.specs.declared.place.Resource.{Resource}
use Rattle.thing_site.specs.declared.place.Resource.TheVariants as place
use Rattle.thing_state.specs.State.{Invocation, invocation_named}

-- an invocation is there only where it is among these, under its own action; what else a path leads to is there
abbrev pub where_stands : List Invocation → Resource → Option Resource
where_stands invocations (place.Invocation p id) = option_map (λ _. place.Invocation p id) (invocation_named p.slot id invocations)
where_stands invocations place = Some place

-- the place of a path, where there are these invocations
abbrev pub place_of : List (List ℕ) → Site → List Invocation → Option Resource
place_of path site invocations = option_and_then (where_stands invocations) (place_at (route_of path) path site)

-- the target of the own path of an observable property or an event: the slot of its affordance
abbrev pub target_of : List (List ℕ) → Site → List Invocation → Option ℕ
target_of path site invocations = target_at (place_of path site invocations)
