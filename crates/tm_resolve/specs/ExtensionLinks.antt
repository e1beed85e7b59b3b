-- The code's findings of a model's links.
use Rattle.std.specs.Prelude.{◌≡◌, ℕ, List, [], ◌∷◌}
use Rattle.wot_json.specs.Tree.{Json}
use Rattle.tm_parts.specs.Views.{seen}
use Rattle.tm_resolve.specs.declared.links.Extensions.{Extensions}
use Rattle.tm_resolve.specs.declared.links.Extensions.TheVariants as found

-- this was found of these links
abbrev pub ShowsExtensions : Extensions → List (ℕ × Json) → Type 0
ShowsExtensions found.None links = links ≡ []
ShowsExtensions (found.One index link) links = links ≡ (index, seen link) ∷ []
ShowsExtensions found.Several links = (first second : ℕ × Json) × (more : List (ℕ × Json)) × (links ≡ first ∷ second ∷ more)
