-- The result of deriving a Thing Model (Thing Description 1.1, section "Thing Model"): the descriptions of a Thing and
-- of all Things that it is composed of, or the first fault. It is a list of outcomes in preorder, each with all faults
-- of its Thing, and the answer is the head of all faults, because a list can be read without a walk that stops.
use Rattle.std.specs.Prelude.{ℕ, zero, suc, List, [], ◌∷◌, ◌++◌, map, codes, Option, Some, None, Result, Ok, Err}
use Rattle.std.specs.List.{flat_map}
use Rattle.wot_json.specs.Tree.{Json}
use Rattle.tm_parts.specs.Library.{Models}
use Rattle.tm_parts.specs.Holes.{Hole, holes_of}
use Rattle.tm_parts.specs.Placeholders.{first_of}
use Rattle.tm_parts.specs.Sources.{sources_of}
use Rattle.tm_parts.specs.Substitution.{Values}
use Rattle.tm_resolve.specs.ModelLinks.{ModelLink, model_links}
use Rattle.tm_resolve.specs.Resolution.{resolved_from}
use Rattle.tm_resolve.specs.declared.fault.ResolveFault.{ResolveFault}
use Rattle.wot_terms.specs.Faults.{faults_of}
use Rattle.tm_derive.specs.Given.{Choice, Given, most_below}
use Rattle.tm_derive.specs.Optional.{optional_texts, optional_faults, unlisted_choices, choices_elsewhere}
use Rattle.tm_derive.specs.Dropping.{is_left_out, chosen_value}
use Rattle.tm_derive.specs.Submodels.{children_from, segments_of, submodel_faults}
use Rattle.tm_derive.specs.Finishing.{indices_of, description}
use Rattle.wot_forms.specs.declared.frame.Frame.{Frame}
use Rattle.tm_derive.specs.declared.place.ThingPlace.{ThingPlace}
use Rattle.tm_derive.specs.declared.fault.DeriveFault.{DeriveFault}
use Rattle.tm_derive.specs.declared.fault.DeriveFault.TheVariants as fault

-- ---- one Thing

-- the links of the model of a Thing to its submodels, and to the models that it extends
abbrev pub submodels : Given → ThingPlace → List ModelLink
submodels given place = model_links given.sources place.model (codes "tm:submodel")

abbrev pub extended : Given → ThingPlace → List ModelLink
extended given place = model_links given.sources place.model (codes "tm:extends")

-- the Things that a Thing is composed of
abbrev pub children : Given → ThingPlace → List ThingPlace
children given place = children_from place 1 (submodels given place)

-- the texts of what is optional for a Thing
abbrev pub optionals : Given → ThingPlace → List (List ℕ)
optionals given place = optional_texts most_below given.sources place.model

-- A description with these texts of what is optional and these parts, from the value of its model: without what
-- is optional and not chosen, finished, and with the links to its own model, its parent and its parts in place
-- of those to other models.
abbrev pub thing_with : Given → ThingPlace → List (List ℕ) → List ThingPlace → Json → Json
thing_with given place texts parts value =
    description given.frame place
    (indices_of (extended given place) ++ indices_of (submodels given place))
    (segments_of parts)
    (chosen_value (is_left_out texts given.choices place.segment) value)

-- the description of a Thing
abbrev pub thing_tree : Given → ThingPlace → Json → Json
thing_tree given place value = thing_with given place (optionals given place) (children given place) value

-- ---- the faults of one Thing

-- those of the lists of what is optional, and of the choices for this Thing
abbrev pub choosing_faults : Given → ThingPlace → List DeriveFault
choosing_faults given place =
    map (fault.Optional place.segment) (
    optional_faults most_below given.sources place.model ++ unlisted_choices (optionals given place) place.segment given.choices)

-- the placeholders that are left in a description
abbrev pub unbound_fault : List ℕ → Hole → DeriveFault
unbound_fault segment hole = fault.Unbound segment hole.0 hole.1

abbrev pub unbound_faults : List ℕ → Json → List DeriveFault
unbound_faults segment tree = map (unbound_fault segment) (holes_of tree)

-- the conditions that a description doesn't meet
abbrev pub invalid_fault : List ℕ → ℕ × List ℕ → DeriveFault
invalid_fault segment found = fault.Invalid segment (record { number = found.0; pointer = found.1 })

abbrev pub invalid_faults : List ℕ → Json → List DeriveFault
invalid_faults segment tree = map (invalid_fault segment) (faults_of tree)

-- the faults of a description
abbrev pub tree_faults : List ℕ → Json → List DeriveFault
tree_faults segment tree = unbound_faults segment tree ++ invalid_faults segment tree

-- The faults of a Thing below Things of these models: that of its model alone where that has no value; else those of
-- what is optional, of its links to submodels, and of its description.
abbrev pub thing_faults : Given → List (List ℕ) → ThingPlace → Result Json ResolveFault → List DeriveFault
thing_faults given above place (Err e) = fault.Resolve place.segment e ∷ []
thing_faults given above place (Ok value) =
    choosing_faults given place
    ++ (submodel_faults given.models above place [] 1 (submodels given place)
    ++ tree_faults place.segment (thing_tree given place value))

-- ---- all Things

-- the outcome of one Thing: its segment, its description, and all its faults
pub record Outcome : Type 0 where
  pub segment : List ℕ
  pub tree : Option Json
  pub faults : List DeriveFault

abbrev pub tree_of : Given → ThingPlace → Result Json ResolveFault → Option Json
tree_of given place (Err e) = None
tree_of given place (Ok value) = Some (thing_tree given place value)

abbrev pub outcome : Given → List (List ℕ) → ThingPlace → Outcome
outcome given above place = record {
  segment = place.segment;
  tree = tree_of given place (resolved_from given.sources place.model);
  faults = thing_faults given above place (resolved_from given.sources place.model);
}

-- the outcomes of the Things below one that has these faults: there are none where it has any
abbrev pub unless_faulty : List DeriveFault → List Outcome → List Outcome
unless_faulty [] outcomes = outcomes
unless_faulty (e ∷ es) outcomes = []

-- The outcomes of a Thing and of those that it is composed of, in preorder, below Things of these models, where n more
-- may be one below another.
abbrev pub outcomes_within : ℕ → Given → List (List ℕ) → ThingPlace → List Outcome
outcomes_within zero given above place = []
outcomes_within (suc room) given above place =
    outcome given above place
    ∷ unless_faulty (outcome given above place).faults (
    flat_map (outcomes_within room given (above ++ place.model ∷ [])) (children given place))

-- ---- the whole

-- The place of the root. Its expansion counts the chains of all Things, so where it isn't too large at most
-- `most_below` of them are one below another.
abbrev pub root_place : Frame → List ℕ → ThingPlace
root_place frame root = record { segment = frame.segment; id = frame.id; model = root; parent = None }

abbrev pub outcomes : Given → List ℕ → List Outcome
outcomes given root = outcomes_within most_below given [] (root_place given.frame root)

-- the Things of a derivation: the segment of each, and its description
abbrev pub Things : Type 0
Things = List (List ℕ × Json)

-- the Thing of an outcome that has a description
abbrev pub thing_of : Outcome → Things
thing_of o = elim o.tree [ None ↦ [] | Some tree ↦ (o.segment, tree) ∷ [] ]

-- all faults: those of the Things, and then the choices for Things that there aren't
abbrev pub all_faults : List Choice → List Outcome → List DeriveFault
all_faults choices os = flat_map (λ o. o.faults) os ++ choices_elsewhere (map (λ o. o.segment) os) choices

-- the Things, or the first fault where there is any
abbrev pub things_or_fault : List Choice → List Outcome → Result Things DeriveFault
things_or_fault choices os =
    elim (first_of (all_faults choices os)) as (λ _. Result Things DeriveFault) [ None ↦ Ok (flat_map thing_of os) | Some e ↦ Err e ]

-- the result of deriving the model `root` of a library, with these values in place of placeholders and these choices
abbrev pub derived : Models → Values → List Choice → Frame → List ℕ → Result Things DeriveFault
derived models values choices frame root =
    things_or_fault choices (outcomes (record { models = models; sources = sources_of models values; choices = choices; frame = frame }) root)
