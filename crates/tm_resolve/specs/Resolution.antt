-- The value of a Thing Model, or the fault because of which it has none.
use Rattle.std.specs.Prelude.{ℕ, List, [], Some, None, Result, Ok, Err, if◌then◌else◌}
use Rattle.wot_json.specs.Tree.{Json}
use Rattle.tm_parts.specs.Library.{Models}
use Rattle.tm_parts.specs.Placeholders.{first_of}
use Rattle.tm_parts.specs.Sources.{Sources, sources_of}
use Rattle.tm_parts.specs.Substitution.{Values}
use Rattle.tm_resolve.specs.Chain.{whole_of}
use Rattle.tm_resolve.specs.Value.{value_within}
use Rattle.tm_resolve.specs.Faults.{faults_within}
use Rattle.tm_resolve.specs.Weight.{most_entries, expansion, is_too_large}
use Rattle.tm_resolve.specs.declared.fault.ResolveFault.{ResolveFault}
use Rattle.tm_resolve.specs.declared.fault.ResolveFault.TheVariants.{At}
use Rattle.tm_resolve.specs.declared.fault.ResolveKind.TheVariants.{TooLarge}

-- a value, or the first of the faults where there are any
abbrev pub value_or_fault : Json → List ResolveFault → Result Json ResolveFault
value_or_fault value faults = elim (first_of faults) as (λ _. Result Json ResolveFault) [ None ↦ Ok value | Some fault ↦ Err fault ]

-- the value of the root model and all its faults: those of the step to the whole root model from itself
abbrev pub root_value : Sources → List ℕ → Json
root_value sources root = value_within most_entries sources [] (whole_of root)

abbrev pub root_faults : Sources → List ℕ → List ResolveFault
root_faults sources root = faults_within most_entries sources (whole_of root) [] (whole_of root)

-- The result for the root model among models with values: where its expansion is too large that fault, and else the
-- first of its faults, and else its value.
abbrev pub resolved_from : Sources → List ℕ → Result Json ResolveFault
resolved_from sources root =
    if is_too_large (expansion sources root) then Err (At TooLarge root []) else value_or_fault (root_value sources root) (root_faults sources root)

-- the same, of a library and the values that are bound to the names of placeholders
abbrev pub resolved_model : Models → Values → List ℕ → Result Json ResolveFault
resolved_model models values root = resolved_from (sources_of models values) root
