-- A library with values in place of its placeholders.
use Rattle.std.specs.Prelude.{ℕ, List, [], ◌∷◌, map, Option, Some, None, Result, Ok, Err, if◌then◌else◌}
use Rattle.std.specs.Str.{bytes_eq}
use Rattle.wot_json.specs.Tree.{Json}
use Rattle.tm_parts.specs.Library.{Models}
use Rattle.tm_parts.specs.Placeholders.{first_of}
use Rattle.tm_parts.specs.Substitution.{Values, substituted_value, faults_of}
use Rattle.tm_parts.specs.Views.{seen}
use Rattle.tm_parts.specs.declared.sources.Source.{Source}
use Rattle.tm_parts.specs.declared.substitution.PartFault.{PartFault}

-- a model with these values: itself with the values in place of its placeholders, or the first fault of that
abbrev pub substitution : Json → Values → Result Json PartFault
substitution model values = elim (first_of (faults_of model values)) as (λ _. Result Json PartFault) [ None ↦ Ok (substituted_value model values) | Some fault ↦ Err fault ]

-- models with values in place of their placeholders, or their faults, each with the text of its URL
abbrev pub Sources : Type 0
Sources = List (List ℕ × Result Json PartFault)

-- the models of a library, each with these values
abbrev pub sources_of : Models → Values → Sources
sources_of models values = map (λ m. (m.0, substitution m.1 values)) models

-- the first model under this URL, where there is one
abbrev pub source_named : List ℕ → Sources → Option (Result Json PartFault)
source_named url [] = None
source_named url (s ∷ ss) = if bytes_eq url s.0 then Some s.1 else source_named url ss

-- a model of the code or its fault, as contracts see it
abbrev pub kept_source : Source → Result Json PartFault
kept_source source = elim source.model as (λ _. Result Json PartFault) [ Ok view ↦ Ok (seen view) | Err fault ↦ Err fault.now ]
