-- The answers of the code that looks for faults.
use Rattle.std.specs.Prelude.{◌≡◌, ◌⊎◌, ◌++◌, true, false, ℕ, List, [], ◌∷◌, Option, Some, None, Result, Ok, Err}
use Rattle.wot_json.specs.Tree.{Json, string}
use Rattle.tm_parts.specs.Placeholders.{first_of}
use Rattle.tm_derive.specs.Optional.{is_entry}
use Rattle.tm_resolve.specs.ModelLinks.{ModelLink}
use Rattle.std.specs.Global.{Vec}
use Rattle.tm_derive.specs.Submodels.{name_faults, link_child}
use Rattle.tm_derive.specs.declared.place.ThingPlace.{ThingPlace}
use Rattle.tm_derive.specs.declared.fault.DeriveFault.{DeriveFault}
use Rattle.tm_derive.specs.declared.fault.DeriveFault.TheVariants.{NoMemory}

-- a call that has these faults to find is refused with this one: the first of them, or out of memory
abbrev pub IsRefusal : DeriveFault → List DeriveFault → Type 0
IsRefusal fault faults = (fault ≡ NoMemory) ⊎ (first_of faults ≡ Some fault)

-- the call finds none of these faults, and else is refused
abbrev pub Finds : List DeriveFault → Result (Unit {0}) DeriveFault → Type 0
Finds faults (Ok u) = faults ≡ []
Finds faults (Err fault) = IsRefusal fault faults

-- the call puts these texts after those that there were, where it finds none of these faults, and else is refused
abbrev pub Gathers : List (List ℕ) → List (List ℕ) → List (List ℕ) → List DeriveFault → Result (Unit {0}) DeriveFault → Type 0
Gathers before after texts faults (Ok u) = (after ≡ before ++ texts) × (faults ≡ [])
Gathers before after texts faults (Err fault) = IsRefusal fault faults

-- an entry of what is optional is read as its text, where it is one
abbrev pub ReadsEntry : Json → Option (List ℕ) → Type 0
ReadsEntry v None = is_entry v ≡ false
ReadsEntry v (Some text) = (is_entry v ≡ true) × (v ≡ string text)

-- the name of a link is this one, and has no fault; or the call is refused
abbrev pub FindsName : ThingPlace → List (List ℕ) → ℕ → Option (List ℕ) → Result (List ℕ) DeriveFault → Type 0
FindsName place earlier index found (Ok name) = (found ≡ Some name) × (name_faults place earlier index found ≡ [])
FindsName place earlier index found (Err fault) = IsRefusal fault (name_faults place earlier index found)

-- a link leads to this Thing, and has none of these faults; or the call is refused
abbrev pub FindsChild : ThingPlace → ℕ → ModelLink → List DeriveFault → Result ThingPlace DeriveFault → Type 0
FindsChild place number link faults (Ok child) = (link_child place number link ≡ child ∷ []) × (faults ≡ [])
FindsChild place number link faults (Err fault) = IsRefusal fault faults

-- the call finds these places of Things, and none of these faults; or it is refused
abbrev pub FindsPlaces : List ThingPlace → List DeriveFault → Result (Vec ThingPlace) DeriveFault → Type 0
FindsPlaces places faults (Ok found) = (found.items ≡ places) × (faults ≡ [])
FindsPlaces places faults (Err fault) = IsRefusal fault faults
