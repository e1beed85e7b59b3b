-- A root that isn't too large has few Things, since each has a node that is visited.
use Rattle.std.proofs.Common.{◌≡◌, ℕ, zero, suc, ◌+◌, ◌*◌, ◌≤◌, List, [], ◌∷◌, ◌++◌, length, Bool, true, false, arith, length-append, cond}
use Rattle.std.specs.Prelude.{Option, Some, None, option_map, option_and_then, codes, nat_lt}
use Rattle.std.specs.List.{flat_map, list_any}
use Rattle.std.proofs.lemmas.Bool.{or_parts}
use Rattle.std.proofs.lemmas.Bool.Decides.{nat_tests}
use Rattle.std.proofs.lemmas.List.Sums.{sum_by-cons, sum_by-append}
use Rattle.wot_json.specs.Json.{json_string, escaped_byte}
use Rattle.wot_json.specs.Tree.{Json, null, boolean, integer, string, array, object}
use Rattle.wot_json.specs.Lookup.{member_list, member_named}
use Rattle.wot_json.specs.Merge.{members_under}
use Rattle.tm_parts.specs.Sources.{Sources}
use Rattle.tm_parts.specs.declared.reference.Reference.{Reference}
use Rattle.tm_resolve.specs.Chain.{whole_of}
use Rattle.tm_resolve.specs.Links.{reference_name, is_link, links_under, located_url, text_under, extensions}
use Rattle.tm_resolve.specs.Things.{ThingStep, link_things, things_within, root_things, most_things}
use Rattle.tm_resolve.specs.Weight.{Visit, Step, own_weight, own_visit, reference_visits, part_visits, element_visits, member_visits, link_visits, extension_visits, submodel_visits, target_visits, entered_part, visits_within, most_weight, most_entries, expansion, is_too_far, weight_of, is_too_large}
use Rattle.tm_resolve.specs.declared.weight.Role.TheVariants.{Thing}

heavier : (vs ws : List Visit) → weight_of (vs ++ ws) ≡ weight_of vs + weight_of ws
heavier vs ws = sum_by-append (λ (v : Visit). v.weight) vs ws

-- a text is written with quotation marks
quoted : (s : List ℕ) → 2 ≤ length (json_string s)
quoted s = omega (arith, length-append (flat_map escaped_byte s) (codes "\""))

-- each node weighs 2 at least
own_heavy : (v : Json) → 2 ≤ own_weight v
own_heavy null = omega arith
own_heavy (boolean b) = omega arith
own_heavy (integer z) = omega arith
own_heavy (string s) = quoted s
own_heavy (array es) = omega arith
own_heavy (object ms) = omega arith

first_heavy : (chain : List Reference) (depth : ℕ) (v : Json) (vs : List Visit) → 2 ≤ weight_of (own_visit chain depth v ∷ vs)
first_heavy chain depth v vs = omega (arith, own_heavy v, sum_by-cons (λ (u : Visit). u.weight) (own_visit chain depth v) vs)

part_heavy : (step : Step) (url : List ℕ) (chain : List Reference) (depth : ℕ) (v : Json) → 2 ≤ weight_of (part_visits step url chain depth v)
part_heavy step url chain depth null = first_heavy chain depth null []
part_heavy step url chain depth (boolean b) = first_heavy chain depth (boolean b) []
part_heavy step url chain depth (integer z) = first_heavy chain depth (integer z) []
part_heavy step url chain depth (string s) = first_heavy chain depth (string s) []
part_heavy step url chain depth (array es) = first_heavy chain depth (array es) (element_visits step url chain (depth + 1) es)
part_heavy step url chain depth (object ms) =
    first_heavy chain depth (object ms) (reference_visits step url chain depth (member_named reference_name (member_list ms)) ++ member_visits step url chain (depth + 1) ms)

-- steps to whole models weigh twice the number of their Things at least
abbrev pub Outweighs : Step → ThingStep → Type 0
Outweighs step things = (depth : ℕ) → (chain : List Reference) → (url : List ℕ) → 2 * length (things chain (whole_of url)) ≤ weight_of (step Thing depth chain (whole_of url))

led_heavy : (step : Step) (things : ThingStep) (chain : List Reference) (url : Option (List ℕ)) → Outweighs step things
    → 2 * length (elim (option_map whole_of url) as (λ _. List Reference) [ None ↦ [] | Some model ↦ things chain model ]) ≤ weight_of (elim (option_map whole_of url) as (λ _. List Visit) [ None ↦ [] | Some model ↦ step Thing 0 chain model ])
led_heavy step things chain None all = omega arith
led_heavy step things chain (Some url) all = all 0 chain url

either_heavy : (b : Bool) (vs : List Visit) (ts : List Reference) → 2 * length ts ≤ weight_of vs → 2 * length (cond b ts []) ≤ weight_of (cond b vs [])
either_heavy true vs ts heavy = heavy
either_heavy false vs ts heavy = omega arith

link_heavy : (step : Step) (things : ThingStep) (url : List ℕ) (chain : List Reference) (link : Json) → Outweighs step things → 2 * length (link_things things url chain link) ≤ weight_of (submodel_visits step url chain link)
link_heavy step things url chain link all =
    either_heavy (is_link (codes "tm:submodel") link) (link_visits step Thing url chain link) _ (led_heavy step things chain (option_and_then (located_url url) (option_and_then text_under (member_named (codes "href") (members_under link)))) all)

links_heavy : (step : Step) (things : ThingStep) (url : List ℕ) (chain : List Reference) (links : List Json) → Outweighs step things → 2 * length (flat_map (link_things things url chain) links) ≤ weight_of (flat_map (submodel_visits step url chain) links)
links_heavy step things url chain [] all = omega arith
links_heavy step things url chain (link ∷ links) all =
    omega (
      arith,
      link_heavy step things url chain link all,
      links_heavy step things url chain links all,
      length-append (link_things things url chain link) (flat_map (link_things things url chain) links),
      heavier (submodel_visits step url chain link) (flat_map (submodel_visits step url chain) links),
    )

-- ---- steps

target_heavy : (step : Step) (things : ThingStep) (depth : ℕ) (chain : List Reference) (url : List ℕ) (whole : Json) → Outweighs step things
    → 2 * length (whole_of url ∷ flat_map (link_things things url chain) (links_under whole)) ≤ weight_of (target_visits step Thing depth chain (whole_of url) whole)
target_heavy step things depth chain url whole all =
    let own : List Visit = part_visits step url chain depth whole in
    let extension : List Visit = extension_visits step url chain (extensions whole) in
    let submodels : List Visit = flat_map (submodel_visits step url chain) (links_under whole) in
    omega (
      arith,
      part_heavy step url chain depth whole,
      links_heavy step things url chain (links_under whole) all,
      heavier own (extension ++ submodels),
      heavier extension submodels,
    )

entry_heavy_zero : (sources : Sources) (depth : ℕ) (chain : List Reference) (url : List ℕ) (e : Option Json)
    → 2 * length (elim e as (λ _. List Reference) [ None ↦ [] | Some whole ↦ whole_of url ∷ [] ]) ≤ weight_of (elim e as (λ _. List Visit) [ None ↦ [] | Some part ↦ own_visit (chain ++ whole_of url ∷ []) depth part ∷ [] ])
entry_heavy_zero sources depth chain url None = omega arith
entry_heavy_zero sources depth chain url (Some whole) = omega (arith, first_heavy (chain ++ whole_of url ∷ []) depth whole [])

entry_heavy : (step : Step) (things : ThingStep) (depth : ℕ) (chain : List Reference) (url : List ℕ) (e : Option Json) → Outweighs step things
    → 2 * length (elim e as (λ _. List Reference) [ None ↦ [] | Some whole ↦ whole_of url ∷ flat_map (link_things things url (chain ++ whole_of url ∷ [])) (links_under whole) ])
    ≤ weight_of (elim e as (λ _. List Visit) [ None ↦ [] | Some part ↦ target_visits step Thing depth (chain ++ whole_of url ∷ []) (whole_of url) part ])
entry_heavy step things depth chain url None all = omega arith
entry_heavy step things depth chain url (Some whole) all = target_heavy step things depth (chain ++ whole_of url ∷ []) url whole all

steps_heavy : (room : ℕ) (sources : Sources) → Outweighs (visits_within room sources) (things_within room sources)
steps_heavy zero sources depth chain url = entry_heavy_zero sources depth chain url (entered_part sources chain (whole_of url))
steps_heavy (suc room) sources depth chain url =
    entry_heavy (visits_within room sources) (things_within room sources) depth chain url (entered_part sources chain (whole_of url)) (λ deep way to. steps_heavy room sources deep way to)

pub few_things : (sources : Sources) → (root : List ℕ) → is_too_large (expansion sources root) ≡ false → length (root_things sources root) ≤ most_things
few_things sources root within =
    let light : nat_lt most_weight (weight_of (expansion sources root)) ≡ false = (or_parts (nat_lt most_weight (weight_of (expansion sources root))) (list_any is_too_far (expansion sources root)) within).0 in
    let limit : weight_of (expansion sources root) ≤ most_weight = grind (arith, nat_tests, light) in
    omega (arith, limit, steps_heavy most_entries sources 0 [] root)
