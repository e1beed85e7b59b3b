-- The value of a part of a Thing Model once the models that it extends and the parts that it refers to are brought in
-- (Thing Description 1.1, section "Thing Model"). All parts are of models that have values in place of their
-- placeholders.
--
-- The value is said of each part, also of one with faults, whose value nobody asks for: value and faults are then two
-- functions, and neither repeats the walk of the other.
use Rattle.std.specs.Prelude.{ℕ, zero, suc, List, [], ◌∷◌, ◌++◌, Option, Some, None, if◌then◌else◌}
use Rattle.std.specs.Str.{bytes_eq}
use Rattle.wot_json.specs.Tree.{Json, null, boolean, integer, string, array, object, Elements, no_elements, element, Members, no_members, member}
use Rattle.wot_json.specs.Lookup.{member_list, member_named}
use Rattle.wot_json.specs.Merge.{merge}
use Rattle.tm_parts.specs.Sources.{Sources}
use Rattle.tm_parts.specs.declared.reference.Reference.{Reference}
use Rattle.tm_resolve.specs.Links.{reference_name, reference_of, extensions, linked_model, without_links}
use Rattle.tm_resolve.specs.Weight.{is_whole, entered_part}

-- the value of the target that a step leads to, by the chain before the step and its target
abbrev pub ValueStep : Type 0
ValueStep = List Reference → Reference → Json

-- the values of what a `tm:ref` and a link of the model under `url` lead to
abbrev pub reference_value : ValueStep → List ℕ → List Reference → Json → Json
reference_value step url chain reference = elim (reference_of url reference) [ None ↦ null | Some target ↦ step chain target ]

abbrev pub link_value : ValueStep → List ℕ → List Reference → Json → Json
link_value step url chain link = elim (linked_model url link) [ None ↦ null | Some model ↦ step chain model ]

-- an object with `tm:ref` becomes its other members as a merge patch (RFC 7396) on what that leads to
abbrev pub imported_value : ValueStep → List ℕ → List Reference → Option Json → Json → Json
imported_value step url chain None others = others
imported_value step url chain (Some reference) others = merge (reference_value step url chain reference) others

-- the value of a part of the model under `url`, and those of the elements of a list and of the members of an object,
-- but for `tm:ref`
abbrev mutual
  pub part_value : ValueStep → List ℕ → List Reference → Json → Json
  part_value step url chain null = null
  part_value step url chain (boolean b) = boolean b
  part_value step url chain (integer z) = integer z
  part_value step url chain (string s) = string s
  part_value step url chain (array es) = array (elements_value step url chain es)
  part_value step url chain (object ms) =
      imported_value step url chain (member_named reference_name (member_list ms)) (object (members_value step url chain ms))

  pub elements_value : ValueStep → List ℕ → List Reference → Elements → Elements
  elements_value step url chain no_elements = no_elements
  elements_value step url chain (element v es) = element (part_value step url chain v) (elements_value step url chain es)

  pub members_value : ValueStep → List ℕ → List Reference → Members → Members
  members_value step url chain no_members = no_members
  members_value step url chain (member n v ms) =
      if bytes_eq n reference_name
      then members_value step url chain ms
      else member n (part_value step url chain v) (members_value step url chain ms)

-- a model that extends exactly one is a merge patch on the value of that one, which comes without its links
abbrev pub extended_value : ValueStep → List ℕ → List Reference → List (ℕ × Json) → Json → Json
extended_value step url chain (link ∷ []) own = merge (without_links (link_value step url chain link.1)) own
extended_value step url chain links own = own

-- the value of a target whose part this is, with it in the chain: a whole model comes with the model that it extends
abbrev pub target_value : ValueStep → List Reference → Reference → Json → Json
target_value step chain target part =
    let own = part_value step target.url chain part in
    if is_whole target then extended_value step target.url chain (extensions part) own else own

-- The value of the target of a step, where the chain has room for n more targets. Beyond that room nothing is
-- brought in, and the value is null: the expansion is then too large, and nobody asks.
abbrev pub value_within : ℕ → Sources → ValueStep
value_within zero sources chain target = null
value_within (suc room) sources chain target =
    elim (entered_part sources chain target) [
      | None ↦ null
      | Some part ↦ target_value (value_within room sources) (chain ++ target ∷ []) target part
    ]
