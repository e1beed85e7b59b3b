-- The room of a derivation is enough: with more room nothing changes.
use Rattle.std.specs.Prelude.{◌≡◌, ◌≤◌, ℕ, List, [], Ok}
use Rattle.wot_json.specs.Tree.{Json}
use Rattle.tm_parts.specs.Sources.{Sources}
use Rattle.tm_resolve.specs.Resolution.{resolved_from}
use Rattle.tm_derive.specs.Given.{Given, most_below}
use Rattle.tm_derive.specs.Derivation.{root_place, outcomes_within, outcomes}
use Rattle.tm_derive.specs.Optional.{optional_texts, optional_faults}

-- The Things of a root are those that they are said to be, however many more may be one below another.
abbrev pub MoreThingsChangeNothing : Type 0
MoreThingsChangeNothing =
    (given : Given) (root : List ℕ) (room : ℕ) → most_below ≤ room → outcomes_within room given [] (root_place given.frame root) ≡ outcomes given root

-- The optional parts of a model that has a value, and the faults of those, stay the same, however many more models may
-- be gone through of which each extends the next.
abbrev pub MoreModelsChangeNothing : Type 0
MoreModelsChangeNothing =
    (sources : Sources) (url : List ℕ) (value : Json) (room : ℕ) → most_below ≤ room → resolved_from sources url ≡ Ok value
    → (optional_texts room sources url ≡ optional_texts most_below sources url) × (optional_faults room sources url ≡ optional_faults most_below sources url)
