-- The answers of the code that makes Things.
use Rattle.std.specs.Prelude.{◌≡◌, ◌⊎◌, ◌++◌, ℕ, List, [], map, Some, Result, Ok, Err}
use Rattle.std.specs.Global.{Vec}
use Rattle.std.specs.List.{flat_map}
use Rattle.wot_json.specs.Tree.{Json}
use Rattle.wot_json.specs.Meaning.{json_of}
use Rattle.wot_json.specs.declared.tree.Tree.{Tree}
use Rattle.tm_resolve.specs.Resolution.{resolved_from}
use Rattle.tm_resolve.specs.declared.fault.ResolveFault.{ResolveFault}
use Rattle.tm_derive.specs.Given.{Given}
use Rattle.tm_derive.specs.Derivation.{Outcome, Things, children, thing_faults, thing_of, tree_of}
use Rattle.tm_derive.specs.Refusals.{IsRefusal}
use Rattle.tm_derive.specs.declared.made.Made.{Made}
use Rattle.tm_derive.specs.declared.place.ThingPlace.{ThingPlace}
use Rattle.tm_derive.specs.declared.fault.DeriveFault.{DeriveFault}
use Rattle.tm_derive.specs.declared.fault.DeriveFault.TheVariants.{NoMemory, Resolve}

-- the texts of what is optional for a Thing are these, and there are none of these faults; or the call is refused
abbrev pub Chooses : List (List ℕ) → List DeriveFault → Result (Vec (List ℕ)) DeriveFault → Type 0
Chooses texts faults (Ok found) = (found.items ≡ texts) × (faults ≡ [])
Chooses texts faults (Err fault) = IsRefusal fault faults

-- the fault says why the model of a Thing has no value
abbrev pub IsNoValue : Given → ThingPlace → DeriveFault → Type 0
IsNoValue given place (Resolve segment e) = (segment ≡ place.segment) × (resolved_from given.sources place.model ≡ Err e)
IsNoValue given place fault = ⊥

-- the model of a Thing has this value, or no value; or the call is out of memory
abbrev pub Resolves : Given → ThingPlace → Result Tree DeriveFault → Type 0
Resolves given place (Ok t) = resolved_from given.sources place.model ≡ Ok (json_of t)
Resolves given place (Err fault) = (fault ≡ NoMemory) ⊎ IsNoValue given place fault

-- A Thing whose model has this value, or no value, is made with the Things that it is composed of, and has no faults;
-- or the call is refused.
abbrev pub MakesFrom : Given → List (List ℕ) → ThingPlace → Result Json ResolveFault → Result Made DeriveFault → Type 0
MakesFrom given above place value (Ok made) =
    (tree_of given place value ≡ Some (json_of made.tree)) × (made.children.items ≡ children given place)
    × (thing_faults given above place value ≡ [])
MakesFrom given above place value (Err fault) = IsRefusal fault (thing_faults given above place value)

-- a Thing is made as its outcome says
abbrev pub MakesThing : Given → List (List ℕ) → ThingPlace → Result Made DeriveFault → Type 0
MakesThing given above place result = MakesFrom given above place (resolved_from given.sources place.model) result

-- The call puts the Things of these outcomes after those that there were, where they have no faults; or it is refused.
-- Then each outcome has a Thing.
abbrev pub PutsThings : Things → Things → List Outcome → Result (Unit {0}) DeriveFault → Type 0
PutsThings before after os (Ok u) =
    (after ≡ before ++ flat_map thing_of os) × (flat_map (λ o. o.faults) os ≡ [])
    × (map (λ (thing : List ℕ × Json). thing.0) (flat_map thing_of os) ≡ map (λ o. o.segment) os)
PutsThings before after os (Err fault) = IsRefusal fault (flat_map (λ o. o.faults) os)

-- the call answers what is derived, or is out of memory
abbrev pub Derives : Result Things DeriveFault → Result Things DeriveFault → Type 0
Derives wanted (Ok things) = wanted ≡ Ok things
Derives wanted (Err fault) = (fault ≡ NoMemory) ⊎ (wanted ≡ Err fault)
