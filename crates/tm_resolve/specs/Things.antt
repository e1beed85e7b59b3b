-- The Things that a Thing Model is derived into: its own and those of its submodels (Thing Description 1.1, section
-- "Thing Model").
use Rattle.std.specs.Prelude.{◌++◌, ℕ, zero, suc, List, [], ◌∷◌, codes, Some, None, if◌then◌else◌}
use Rattle.std.specs.List.{flat_map}
use Rattle.wot_json.specs.Tree.{Json}
use Rattle.tm_parts.specs.Sources.{Sources}
use Rattle.tm_parts.specs.declared.reference.Reference.{Reference}
use Rattle.tm_resolve.specs.Chain.{whole_of}
use Rattle.tm_resolve.specs.Links.{is_link, links_under, linked_model}
use Rattle.tm_resolve.specs.Weight.{most_entries, entered_part}

-- the Things of the model that a step leads to, by the chain before the step and its target
abbrev pub ThingStep : Type 0
ThingStep = List Reference → Reference → List Reference

-- the Things of the submodel that a link leads to, where it is such a link
abbrev pub link_things : ThingStep → List ℕ → List Reference → Json → List Reference
link_things step url chain link =
    if is_link (codes "tm:submodel") link
    then elim (linked_model url link) [ None ↦ [] | Some model ↦ step chain model ]
    else []

-- The Things of a model in preorder, where the chain has room for n more targets, each by its model.
abbrev pub things_within : ℕ → Sources → ThingStep
things_within zero sources chain target = elim (entered_part sources chain target) [ None ↦ [] | Some whole ↦ target ∷ [] ]
things_within (suc room) sources chain target =
    elim (entered_part sources chain target) [
      | None ↦ []
      | Some whole ↦ target ∷ flat_map (link_things (things_within room sources) target.url (chain ++ target ∷ [])) (links_under whole)
    ]

-- the Things of the root model
abbrev pub root_things : Sources → List ℕ → List Reference
root_things sources root = things_within most_entries sources [] (whole_of root)

-- the most Things that a root may have which isn't too large
abbrev pub most_things : ℕ
most_things = 131072
