-- A Thing Model's value becomes the description of a Thing that this servient serves (Thing Description 1.1, section
-- "Thing Model", derivation) by merge patches (RFC 7396) on it, and by the forms that the servient generates.
use Rattle.std.specs.Prelude.{◌+◌, ◌==◌, not, Bool, ℕ, List, [], ◌∷◌, ◌++◌, map, filter, codes, Option, Some, None, is_none, option_and_then, if◌then◌else◌}
use Rattle.std.specs.List.{list_any, list_all}
use Rattle.wot_json.specs.Tree.{Json, null, string, array, object, elements_of, members_of}
use Rattle.wot_json.specs.Lookup.{element_list, member_list, member_named}
use Rattle.wot_json.specs.Merge.{merge}
use Rattle.wot_json.specs.Texts.{is_text_of}
use Rattle.tm_resolve.specs.ModelLinks.{ModelLink}
use Rattle.wot_forms.specs.Generated.{is_object, generated}
use Rattle.wot_forms.specs.declared.bases.Bases.{Bases}
use Rattle.tm_derive.specs.Changes.{part_under, change_of}
use Rattle.wot_forms.specs.declared.frame.Frame.{Frame}
use Rattle.tm_derive.specs.declared.place.ThingPlace.{ThingPlace}

-- ---- `@type`

-- the type of Thing Models (Thing Description 1.1, section "Thing Model"), which no description has
abbrev pub is_model_type : Json → Bool
is_model_type v = is_text_of (codes "tm:ThingModel") v

-- a list of types; null, which takes the member away, where none is left
abbrev pub types_left : List Json → Json
types_left [] = null
types_left (v ∷ vs) = array (elements_of (v ∷ vs))

abbrev pub type_change : Json → Option Json
type_change (array es) = Some (types_left (filter (λ v. not (is_model_type v)) (element_list es)))
type_change v = if is_model_type v then Some null else None

-- ---- `links`

-- a link of a description (Thing Description 1.1, section 5.3.4.1)
abbrev pub link : List ℕ → List ℕ → List ℕ → Json
link href relation media_type =
    object (members_of ((codes "href", string href) ∷ (codes "rel", string relation) ∷ (codes "type", string media_type) ∷ []))

-- where the description of the Thing of this segment is read
abbrev pub description_url : Bases → List ℕ → List ℕ
description_url bases segment = bases.http ++ codes "/" ++ segment

-- a link to the description of another Thing
abbrev pub thing_link : Bases → List ℕ → List ℕ → Json
thing_link bases relation segment = link (description_url bases segment) relation (codes "application/td+json")

-- the link to the Thing of which this one is a part, where there is one
abbrev pub parent_links : Bases → Option (List ℕ) → List Json
parent_links bases None = []
parent_links bases (Some segment) = thing_link bases (codes "collection") segment ∷ []

-- the links that come: to the model, to the Thing of which this one is a part, and to each part
abbrev pub new_links : Bases → ThingPlace → List (List ℕ) → List Json
new_links bases place parts =
    link place.model (codes "type") (codes "application/tm+json")
    ∷ (parent_links bases place.parent ++ map (thing_link bases (codes "item")) parts)

-- the index is one of these
abbrev pub is_at : ℕ → List ℕ → Bool
is_at index indices = list_any (λ i. i == index) indices

-- The links that stay, of links counted from this index on: all but those at these indices among the model's own. So
-- one that came in by `tm:ref` stays.
abbrev pub staying_links : List ℕ → ℕ → List Json → List Json
staying_links leaving index [] = []
staying_links leaving index (v ∷ vs) = (if is_at index leaving then [] else v ∷ []) ++ staying_links leaving (index + 1) vs

-- A list of links with those that come after those that stay. Another value than a list of objects stays as it is.
abbrev pub changed_links : List ℕ → List Json → Json → Option Json
changed_links leaving added (array es) =
    if list_all is_object (element_list es) then Some (array (elements_of (staying_links leaving 0 (element_list es) ++ added))) else None
changed_links leaving added v = None

abbrev pub links_change : List ℕ → List Json → Option Json → Option Json
links_change leaving added None = Some (array (elements_of added))
links_change leaving added (Some v) = changed_links leaving added v

-- the indices of links
abbrev pub indices_of : List ModelLink → List ℕ
indices_of links = map (λ link. link.index) links

-- ---- `version`

-- the version of the instance, for a `version` that doesn't say it (Thing Description 1.1, section 5.3.1.6)
abbrev pub instance_patch : List ℕ → Json
instance_patch version = object (members_of ((codes "instance", string version) ∷ []))

abbrev pub version_change : List ℕ → Json → Option Json
version_change version (object ms) = if is_none (member_named (codes "instance") (member_list ms)) then Some (instance_patch version) else None
version_change version v = None

-- ---- the description

-- the one security definition: there is no security
abbrev pub security_name : List ℕ
security_name = codes "nosec_sc"

abbrev pub security_definitions : Json
security_definitions =
    object (members_of ((security_name, object (members_of ((codes "scheme", string (codes "nosec")) ∷ []))) ∷ []))

abbrev pub security_names : Json
security_names = array (elements_of (string security_name ∷ []))

-- A patch that takes away the security definitions of the model, so that none of them is merged with the new one: it
-- comes before the patch that has that one.
abbrev pub clearing_patch : List (List ℕ × Json)
clearing_patch = change_of (codes "securityDefinitions") (Some null)

-- The patch that makes a description of the value, with this version of the instance, this id and this change of its
-- links: `@type`, `base`, `id`, `links`, security and `version`.
abbrev pub patch_with : Option (List ℕ) → List ℕ → Option Json → Json → List (List ℕ × Json)
patch_with instance id links value =
    change_of (codes "@type") (option_and_then type_change (part_under (codes "@type") value))
    ++ change_of (codes "base") (Some null)
    ++ change_of (codes "id") (Some (string id))
    ++ change_of (codes "links") links
    ++ change_of (codes "security") (Some security_names)
    ++ change_of (codes "securityDefinitions") (Some security_definitions)
    ++ change_of (codes "version") (option_and_then (λ version. option_and_then (version_change version) (part_under (codes "version") value)) instance)

-- the patch where the links at these indices leave and these come
abbrev pub finishing_patch : Frame → ThingPlace → List ℕ → List Json → Json → List (List ℕ × Json)
finishing_patch frame place leaving added value =
    patch_with frame.instance place.id (links_change leaving added (part_under (codes "links") value)) value

abbrev pub finished_value : Frame → ThingPlace → List ℕ → List Json → Json → Json
finished_value frame place leaving added value =
    merge (merge value (object (members_of clearing_patch))) (object (members_of (finishing_patch frame place leaving added value)))

-- the description of the Thing at this place, of these parts
abbrev pub description : Frame → ThingPlace → List ℕ → List (List ℕ) → Json → Json
description frame place leaving parts value =
    generated (finished_value frame place leaving (new_links frame.bases place parts) value) frame.bases place.segment
