-- The room of a chain is enough for a model that isn't too large.
use Rattle.std.specs.Prelude.{◌≡◌, ℕ, List, []}
use Rattle.tm_parts.specs.Sources.{Sources}
use Rattle.tm_resolve.specs.Chain.{whole_of}
use Rattle.tm_resolve.specs.Value.{value_within}
use Rattle.tm_resolve.specs.Faults.{faults_within}
use Rattle.tm_resolve.specs.Resolution.{root_value, root_faults}

-- with this room for targets, the value and the faults of the root model are those that they are said to be
pub record SaysTheSame (sources : Sources) (root : List ℕ) (room : ℕ) : Type 0 where
  pub value : value_within room sources [] (whole_of root) ≡ root_value sources root
  pub faults : faults_within room sources (whole_of root) [] (whole_of root) ≡ root_faults sources root
