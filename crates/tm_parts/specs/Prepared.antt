-- The models that were made ready to be entered, as contracts see them.
use Rattle.std.specs.Prelude.{ℕ, List, map, Some, None, Result, Ok, Err}
use Rattle.wot_json.specs.Tree.{Json}
use Rattle.wot_json.specs.Meaning.{json_of}
use Rattle.tm_parts.specs.Substitution.{Values, substituted_value}
use Rattle.tm_parts.specs.declared.sources.Prepared.{Prepared}
use Rattle.tm_parts.specs.declared.substitution.PartFault.{PartFault}

-- a model with values in place of its placeholders, or the fault that was found
abbrev pub prepared_source : Prepared → Values → Result Json PartFault
prepared_source model values = elim model.fault as (λ _. Result Json PartFault) [ None ↦ Ok (substituted_value (json_of model.tree.now) values) | Some fault ↦ Err fault ]

-- models with these values, each with the text of its URL
abbrev pub prepared_sources : List Prepared → Values → List (List ℕ × Result Json PartFault)
prepared_sources models values = map (λ model. (model.location, prepared_source model values)) models

-- the texts of their URLs
abbrev pub prepared_urls : List Prepared → List (List ℕ)
prepared_urls models = map (λ model. model.location) models
