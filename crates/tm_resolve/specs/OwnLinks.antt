-- The links of a resolved model.
use Rattle.std.specs.Prelude.{◌≡◌, ◌++◌, ℕ, suc, List, [], ◌∷◌, map, codes, Some}
use Rattle.wot_json.specs.Tree.{Json, array, elements_of, AreOrdered}
use Rattle.wot_json.specs.Lookup.{member_named}
use Rattle.wot_json.specs.Merge.{members_under}
use Rattle.tm_parts.specs.Sources.{Sources}
use Rattle.tm_parts.specs.declared.reference.Reference.{Reference}
use Rattle.tm_resolve.specs.Value.{part_value, value_within}
use Rattle.tm_resolve.specs.Weight.{entered_part}

-- members are in byte order in each part of these models that may be entered, as they are in each tree of the code
abbrev pub PartsAreOrdered : Sources → Type 0
PartsAreOrdered sources = (chain : List Reference) → (target : Reference) → (part : Json) → entered_part sources chain target ≡ Some part → AreOrdered (members_under part)

-- the value has this list under `links`
abbrev pub HasLinks : Json → List Json → Type 0
HasLinks value links = member_named (codes "links") (members_under value) ≡ Some (array (elements_of links))

-- The links of a target with a list of them are its own, each with its references brought in, at its own index. Those
-- of a model that it extends, or of what a `tm:ref` of the model itself leads to, are not among them.
abbrev pub LinksAreOwn : Sources → ℕ → List Reference → Reference → Type 0
LinksAreOwn sources room chain target =
    (part : Json) → (links : List Json) → entered_part sources chain target ≡ Some part → HasLinks part links
    → HasLinks (value_within (suc room) sources chain target) (map (part_value (value_within room sources) target.url (chain ++ target ∷ [])) links)
