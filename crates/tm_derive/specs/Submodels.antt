-- The Things that a Thing is composed of, by the links of its model to submodels (Thing Description 1.1, section "Thing
-- Model", composition).
use Rattle.std.specs.Prelude.{◌+◌, ◌==◌, ◌&&◌, ◌||◌, nat_lt, nat_le, Bool, ℕ, List, [], ◌∷◌, ◌++◌, length, map, codes, decimal, is_none, Option, Some, None, if◌then◌else◌}
use Rattle.std.specs.List.{list_all}
use Rattle.std.specs.Str.{bytes_eq}
use Rattle.wot_json.specs.Tree.{Json, string}
use Rattle.wot_json.specs.Lookup.{member_named}
use Rattle.wot_forms.specs.Segments.{is_name_byte}
use Rattle.tm_parts.specs.Library.{Models}
use Rattle.tm_resolve.specs.Links.{link_place}
use Rattle.tm_resolve.specs.ModelLinks.{ModelLink}
use Rattle.tm_resolve.specs.declared.fault.ResolveFault.TheVariants.{At}
use Rattle.tm_resolve.specs.declared.fault.ResolveKind.{ResolveKind}
use Rattle.tm_resolve.specs.declared.fault.ResolveKind.TheVariants.{BadHref, MissingModel, Circular}
use Rattle.tm_derive.specs.Optional.{is_among}
use Rattle.tm_derive.specs.declared.place.ThingPlace.{ThingPlace}
use Rattle.tm_derive.specs.declared.fault.DeriveFault.{DeriveFault}
use Rattle.tm_derive.specs.declared.fault.DeriveFault.TheVariants.{Resolve, Instance, TwiceInstance}

-- ---- the name of an instance

-- the instance name of a link, the submodel link of this number: a text that it has, or `sub` and the number
abbrev pub instance_name : ℕ → Option Json → Option (List ℕ)
instance_name number None = Some (codes "sub" ++ decimal number)
instance_name number (Some (string name)) = Some name
instance_name number (Some v) = None

-- the segment and the id of a Thing that the Thing of this segment or id is composed of
abbrev pub below : List ℕ → List ℕ → List ℕ
below above name = above ++ codes "~" ++ name

-- a Thing of this segment may have an instance of this name
abbrev pub may_name : List ℕ → List ℕ → Bool
may_name segment name =
    list_all is_name_byte name && nat_lt 0 (length name) && nat_le (length name) 32 && nat_le (length (below segment name)) 255

-- the name, where there is one that it may have
abbrev pub allowed_name : List ℕ → Option (List ℕ) → Option (List ℕ)
allowed_name segment None = None
allowed_name segment (Some name) = if may_name segment name then Some name else None

abbrev pub child_name : List ℕ → ℕ → ModelLink → Option (List ℕ)
child_name segment number link = allowed_name segment (instance_name number link.instance_name)

-- ---- one link

-- the Thing of this name and model, below a Thing
abbrev pub child_place : ThingPlace → List ℕ → List ℕ → ThingPlace
child_place place name url = record { segment = below place.segment name; id = below place.id name; model = url; parent = Some place.segment }

-- the Thing that a link leads to, where it leads to one
abbrev pub named_child : ThingPlace → Option (List ℕ) → Option (List ℕ) → List ThingPlace
named_child place (Some name) (Some url) = child_place place name url ∷ []
named_child place name target = []

abbrev pub link_child : ThingPlace → ℕ → ModelLink → List ThingPlace
link_child place number link = named_child place (child_name place.segment number link) link.target

-- The faults of the name of a link: it is one that an instance may have, and none that an earlier link has. The earlier
-- Things of the same parent are recognised by their segments: two instances have one name exactly where those are one.
abbrev pub name_faults : ThingPlace → List (List ℕ) → ℕ → Option (List ℕ) → List DeriveFault
name_faults place earlier index None = Instance place.segment (link_place index) ∷ []
name_faults place earlier index (Some name) =
    if is_among (below place.segment name) earlier then TwiceInstance place.segment (link_place index) ∷ [] else []

-- the kind of the fault of the model that a link leads to: it is one of the library, and not that of this
-- Thing or of one above it
abbrev pub target_kind : Models → List (List ℕ) → List ℕ → List ℕ → Option ResolveKind
target_kind models above model url =
    if is_none (member_named url models) then Some MissingModel
    else if is_among url above || bytes_eq url model then Some Circular
    else None

-- the kind of the fault of a link, which leads to a model
abbrev pub link_kind : Models → List (List ℕ) → List ℕ → Option (List ℕ) → Option ResolveKind
link_kind models above model None = Some BadHref
link_kind models above model (Some url) = target_kind models above model url

abbrev pub target_faults : ThingPlace → ℕ → Option ResolveKind → List DeriveFault
target_faults place index None = []
target_faults place index (Some kind) = Resolve place.segment (At kind place.model (link_place index)) ∷ []

-- the faults of a link: first of its name, and then of what it leads to
abbrev pub link_faults : Models → List (List ℕ) → ThingPlace → List (List ℕ) → ℕ → ModelLink → List DeriveFault
link_faults models above place earlier number link =
    name_faults place earlier link.index (child_name place.segment number link)
    ++ target_faults place link.index (link_kind models above place.model link.target)

-- ---- all links

-- the Things that the links lead to, of which the first has this number
abbrev pub children_from : ThingPlace → ℕ → List ModelLink → List ThingPlace
children_from place number [] = []
children_from place number (link ∷ links) = link_child place number link ++ children_from place (number + 1) links

abbrev pub segments_of : List ThingPlace → List (List ℕ)
segments_of places = map (λ place. place.segment) places

-- the faults of the links, link by link, where the earlier links lead to Things of these segments
abbrev pub submodel_faults : Models → List (List ℕ) → ThingPlace → List (List ℕ) → ℕ → List ModelLink → List DeriveFault
submodel_faults models above place earlier number [] = []
submodel_faults models above place earlier number (link ∷ links) =
    link_faults models above place earlier number link
    ++ submodel_faults models above place (earlier ++ segments_of (link_child place number link)) (number + 1) links
