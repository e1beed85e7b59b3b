use Rattle.std.proofs.Common.{◌≡◌, ◌++◌, ℕ, List}
use Rattle.wot_json.specs.Meaning.{json_members}
use Rattle.tm_parts.specs.Kept.{kept_values}
use Rattle.tm_parts.specs.Substitution.{bound_value}
use Rattle.tm_parts.proofs.values.bound_map.Given as goal

-- those that are left come before those in the map
abbrev pub invariant-loop-name : goal.invariant-loop-name
invariant-loop-name l = (name : List ℕ) → bound_value name (json_members l.name-iterator.iter.rest.now ++ kept_values l.map.entries) ≡ bound_value name l.bindings
