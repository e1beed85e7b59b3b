-- The size of a Thing Model with the models that it extends, the parts that it refers to and its submodels
-- (Thing Description 1.1, section "Thing Model"). It is defined by the visits of its expansion, which is never built:
-- each node of the model is visited, and each node of a part that is brought in, as often as it is. It isn't defined by
-- the walk that makes the value, because submodels are visited and not brought in.
use Rattle.std.specs.Prelude.{◌+◌, ◌==◌, ◌||◌, Bool, ℕ, zero, suc, nat_lt, List, [], ◌∷◌, ◌++◌, length, codes, Option, Some, None, option_and_then, if◌then◌else◌}
use Rattle.std.specs.List.{list_any, flat_map, sum_by}
use Rattle.wot_json.specs.Tree.{Json, null, boolean, integer, string, array, object, Elements, no_elements, element, Members, no_members, member}
use Rattle.wot_json.specs.Json.{json_string}
use Rattle.wot_json.specs.Lookup.{element_list, member_list, member_named}
use Rattle.wot_json.specs.Pointer.{part_of}
use Rattle.tm_parts.specs.Sources.{Sources}
use Rattle.tm_parts.specs.declared.reference.Reference.{Reference}
use Rattle.tm_resolve.specs.Chain.{whole_of, entered_model}
use Rattle.tm_resolve.specs.declared.weight.Role.{Role}
use Rattle.tm_resolve.specs.declared.weight.Role.TheVariants.{Thing, Part}
use Rattle.tm_resolve.specs.Links.{reference_name, reference_of, is_link, links_under, extensions, linked_model}

-- ---- one visit

-- a visit of a node: how deep the node is, how many targets the chain that leads to it has, and what it weighs
pub record Visit : Type 0 where
  pub depth : ℕ
  pub entries : ℕ
  pub weight : ℕ

-- a name weighs as much as it is written with, and 2 for what is around it
abbrev pub name_weight : List ℕ × Json → ℕ
name_weight m = length (json_string m.0) + 2

-- the weight of a node without the nodes in it: about the length of its text (RFC 8259)
abbrev pub own_weight : Json → ℕ
own_weight null = 4
own_weight (boolean b) = 5
own_weight (integer z) = 20
own_weight (string s) = length (json_string s)
own_weight (array es) = 2 + length (element_list es)
own_weight (object ms) = 2 + sum_by name_weight (member_list ms)

-- ---- the visits of an expansion

-- The visits of a step, by the role of its target, the model of a Thing or a part of one, the depth at which it leads
-- there, the chain before it, and its target.
abbrev pub Step : Type 0
Step = Role → ℕ → List Reference → Reference → List Visit

-- the visit of a node itself
abbrev pub own_visit : List Reference → ℕ → Json → Visit
own_visit chain depth v = record { depth = depth; entries = length chain; weight = own_weight v }

-- an object with a `tm:ref` that refers to a target visits that at its own depth
abbrev pub reference_visits : Step → List ℕ → List Reference → ℕ → Option Json → List Visit
reference_visits step url chain depth None = []
reference_visits step url chain depth (Some reference) = elim (reference_of url reference) [ None ↦ [] | Some target ↦ step Part depth chain target ]

-- The visits of a part at this depth of the model under `url`: the part itself, what it refers to, and one deeper what
-- is in it.
abbrev mutual
  pub part_visits : Step → List ℕ → List Reference → ℕ → Json → List Visit
  part_visits step url chain depth null = own_visit chain depth null ∷ []
  part_visits step url chain depth (boolean b) = own_visit chain depth (boolean b) ∷ []
  part_visits step url chain depth (integer z) = own_visit chain depth (integer z) ∷ []
  part_visits step url chain depth (string s) = own_visit chain depth (string s) ∷ []
  part_visits step url chain depth (array es) = own_visit chain depth (array es) ∷ element_visits step url chain (depth + 1) es
  part_visits step url chain depth (object ms) =
      own_visit chain depth (object ms)
      ∷ reference_visits step url chain depth (member_named reference_name (member_list ms))
      ++ member_visits step url chain (depth + 1) ms

  pub element_visits : Step → List ℕ → List Reference → ℕ → Elements → List Visit
  element_visits step url chain depth no_elements = []
  element_visits step url chain depth (element v es) = part_visits step url chain depth v ++ element_visits step url chain depth es

  pub member_visits : Step → List ℕ → List Reference → ℕ → Members → List Visit
  member_visits step url chain depth no_members = []
  member_visits step url chain depth (member n v ms) = part_visits step url chain depth v ++ member_visits step url chain depth ms

-- the target of a link of the model under `url` is visited at depth 0
abbrev pub link_visits : Step → Role → List ℕ → List Reference → Json → List Visit
link_visits step role url chain link = elim (linked_model url link) [ None ↦ [] | Some model ↦ step role 0 chain model ]

-- a model that extends exactly one visits that one
abbrev pub extension_visits : Step → List ℕ → List Reference → List (ℕ × Json) → List Visit
extension_visits step url chain (link ∷ []) = link_visits step Part url chain link.1
extension_visits step url chain links = []

-- a link to a submodel visits that one, which is the model of a Thing
abbrev pub submodel_visits : Step → List ℕ → List Reference → Json → List Visit
submodel_visits step url chain link = if is_link (codes "tm:submodel") link then link_visits step Thing url chain link else []

-- visits that are made from the model of a Thing alone: a model that is extended or referred to isn't one there
abbrev pub of_thing : Role → List Visit → List Visit
of_thing Thing visits = visits
of_thing Part visits = []

-- the visits of the links of a whole model: the model that it extends, and for the model of a Thing its submodels
abbrev pub links_visits : Step → Role → List ℕ → List Reference → Json → List Visit
links_visits step role url chain whole =
    extension_visits step url chain (extensions whole)
    ++ of_thing role (flat_map (submodel_visits step url chain) (links_under whole))

-- the target is a whole model
abbrev pub is_whole : Reference → Bool
is_whole target = length target.pointer == 0

-- the visits of a target whose part this is, with it in the chain: those of the part, and for a
-- whole model of its links
abbrev pub target_visits : Step → Role → ℕ → List Reference → Reference → Json → List Visit
target_visits step role depth chain target part =
    part_visits step target.url chain depth part
    ++ (if is_whole target then links_visits step role target.url chain part else [])

-- the part that a step leads to, where one can be made and the model has a part at the pointer
abbrev pub entered_part : Sources → List Reference → Reference → Option Json
entered_part sources chain target = option_and_then (part_of target.pointer) (entered_model sources chain target)

-- The visits of a step, where the chain has room for n more targets. A step beyond that room visits its part
-- alone, which is enough to make the expansion too large.
abbrev pub visits_within : ℕ → Sources → Step
visits_within zero sources role depth chain target =
    elim (entered_part sources chain target) [ None ↦ [] | Some part ↦ own_visit (chain ++ target ∷ []) depth part ∷ [] ]
visits_within (suc room) sources role depth chain target =
    elim (entered_part sources chain target) [
      | None ↦ []
      | Some part ↦ target_visits (visits_within room sources) role depth (chain ++ target ∷ []) target part
    ]

-- ---- the limits

-- the most that an expansion may weigh
abbrev pub most_weight : ℕ
most_weight = 262144

-- the greatest depth of a node
abbrev pub most_depth : ℕ
most_depth = 64

-- the most targets of a chain
abbrev pub most_entries : ℕ
most_entries = 16

-- the visits of the expansion of the model of a Thing, from its root at depth 0
abbrev pub expansion : Sources → List ℕ → List Visit
expansion sources root = visits_within most_entries sources Thing 0 [] (whole_of root)

-- a visit goes too deep, or by too long a chain
abbrev pub is_too_far : Visit → Bool
is_too_far visit = nat_lt most_depth visit.depth || nat_lt most_entries visit.entries

-- the weight of visits together
abbrev pub weight_of : List Visit → ℕ
weight_of visits = sum_by (λ v. v.weight) visits

-- they weigh too much, or one of them goes too far
abbrev pub is_too_large : List Visit → Bool
is_too_large visits = nat_lt most_weight (weight_of visits) || list_any is_too_far visits
