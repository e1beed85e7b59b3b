-- The answers of the code that makes values.
use Rattle.std.specs.Prelude.{◌≡◌, ◌⊎◌, ◌-◌, ℕ, List, [], length, Some, Result, Ok, Err}
use Rattle.wot_json.specs.Tree.{Json, Elements, elements_of, Members, members_of}
use Rattle.wot_json.specs.Meaning.{json_of}
use Rattle.wot_json.specs.declared.tree.Tree.{Tree}
use Rattle.tm_parts.specs.Placeholders.{first_of}
use Rattle.tm_parts.specs.Sources.{Sources}
use Rattle.tm_parts.specs.declared.reference.Reference.{Reference}
use Rattle.tm_resolve.specs.Value.{value_within}
use Rattle.tm_resolve.specs.Faults.{Steps, faults_within}
use Rattle.tm_resolve.specs.Weight.{most_entries}
use Rattle.tm_resolve.specs.declared.sources.StepSources as kept
use Rattle.tm_resolve.specs.declared.fault.ResolveFault.{ResolveFault}
use Rattle.tm_resolve.specs.declared.fault.ResolveFault.TheVariants.{NoMemory}

-- the results of steps from this chain on
abbrev pub steps_from : Sources → List Reference → Steps
steps_from sources chain = record {
  value = value_within (most_entries - length chain) sources;
  faults = faults_within (most_entries - length chain) sources;
}

-- the same, among the models that the code has
abbrev pub next_steps : kept.StepSources → List Reference → Steps
next_steps sources chain = steps_from sources.models chain

-- a call that has these faults to find is refused with this one: the first of them, or out of memory
abbrev pub IsRefusal : ResolveFault → List ResolveFault → Type 0
IsRefusal fault faults = (fault ≡ NoMemory) ⊎ (first_of faults ≡ Some fault)

-- the call makes this value where there are none of these faults, and else is refused
abbrev pub Gives : Json → List ResolveFault → Result Tree ResolveFault → Type 0
Gives value faults (Ok t) = (json_of t ≡ value) × (faults ≡ [])
Gives value faults (Err fault) = IsRefusal fault faults

-- the same of the elements of a list, and of the members of an object
abbrev pub GivesElements : Elements → List ResolveFault → Result (List Json) ResolveFault → Type 0
GivesElements value faults (Ok vs) = (elements_of vs ≡ value) × (faults ≡ [])
GivesElements value faults (Err fault) = IsRefusal fault faults

abbrev pub GivesMembers : Members → List ResolveFault → Result (List (List ℕ × Json)) ResolveFault → Type 0
GivesMembers value faults (Ok ms) = (members_of ms ≡ value) × (faults ≡ [])
GivesMembers value faults (Err fault) = IsRefusal fault faults
