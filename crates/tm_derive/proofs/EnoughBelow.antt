-- The room of a derivation is enough: where an expansion isn't too large, its chains have 16 targets at most, so that 17 Things
-- are one below another at most, and as many models extend one another.
use Rattle.std.proofs.Common.{◌≡◌, ◌<◌, ◌≤◌, ◌+◌, ℕ, zero, suc, Bool, true, false, List, [], ◌∷◌, ◌++◌, length, map, refl, sym, ap, ap₂, subst, ◌∙◌, arith, length-append, inl, inr, cond}
use Rattle.std.specs.Prelude.{◌||◌, ◌&&◌, codes, nat_lt, is_none, Option, Some, None, option_map, option_and_then, Result, Ok, Err}
use Rattle.std.specs.List.{list_any, flat_map}
use Rattle.std.specs.Result.{result_ok}
use Rattle.std.specs.Str.{bytes_eq}
use Rattle.std.proofs.lemmas.Bool.{true≢false, cases_Bool, or_parts, or_left, or_right}
use Rattle.std.proofs.lemmas.Bool.Decides.{nat_tests}
use Rattle.std.proofs.lemmas.Grind.{flat_map-append}
use Rattle.std.proofs.lemmas.Option.{same_Some}
use Rattle.std.proofs.lemmas.List.Folds.{list_any-append}
use Rattle.std.proofs.lemmas.Slice.Eq.{bytes_eq-Decides}
use Rattle.wot_json.specs.Tree.{Json}
use Rattle.wot_json.specs.Lookup.{member_named}
use Rattle.wot_json.specs.Pointer.{part_of}
use Rattle.tm_parts.specs.Library.{Models}
use Rattle.tm_parts.specs.References.{reference}
use Rattle.tm_parts.specs.Sources.{Sources, source_named}
use Rattle.tm_parts.specs.declared.reference.Reference.{Reference}
use Rattle.tm_parts.specs.declared.substitution.PartFault.{PartFault}
use Rattle.tm_resolve.specs.Chain.{whole_of, is_target, is_in_chain}
use Rattle.tm_resolve.specs.Faults.{Steps, fault_at, extension_faults, target_faults, part_faults, model_faults, step_faults, faults_within}
use Rattle.tm_resolve.specs.Links.{is_link, links_from, links_under, linked_model, link_place, extensions}
use Rattle.tm_resolve.specs.ModelLinks.{ModelLink, model_link, links_of, model_links, whole_model, optional_part}
use Rattle.tm_resolve.specs.Resolution.{resolved_from, value_or_fault, root_value, root_faults}
use Rattle.tm_resolve.specs.Value.{value_within}
use Rattle.tm_resolve.specs.Weight.{Visit, Step, most_weight, most_entries, weight_of, is_too_far, is_too_large, own_visit, part_visits, extension_visits, submodel_visits, of_thing, links_visits, target_visits, is_whole, entered_part, visits_within, expansion}
use Rattle.tm_resolve.specs.declared.fault.ResolveFault.{ResolveFault}
use Rattle.tm_resolve.specs.declared.fault.ResolveFault.TheVariants.{At}
use Rattle.tm_resolve.specs.declared.fault.ResolveKind.{ResolveKind}
use Rattle.tm_resolve.specs.declared.fault.ResolveKind.TheVariants.{BadHref, MissingModel, Circular, TooLarge}
use Rattle.tm_resolve.specs.declared.weight.Role.{Role}
use Rattle.tm_resolve.specs.declared.weight.Role.TheVariants.{Thing, Part}
use Rattle.tm_derive.specs.Given.{Given, most_below}
use Rattle.tm_derive.specs.Optional.{is_among, base_of, base_url, of_base, optional_texts, optional_faults, part_texts, part_faults as faults_of_part}
use Rattle.tm_derive.specs.Submodels.{child_name, child_place, named_child, link_child, name_faults, target_kind, link_kind, target_faults as faults_of_target, link_faults, children_from, segments_of, submodel_faults}
use Rattle.tm_derive.specs.Derivation.{Outcome, outcome, outcomes, outcomes_within, unless_faulty, thing_faults, choosing_faults, tree_faults, thing_tree, submodels, children, root_place}
use Rattle.tm_derive.specs.declared.fault.DeriveFault.{DeriveFault}
use Rattle.tm_derive.specs.declared.place.ThingPlace.{ThingPlace}
use Rattle.tm_derive.specs.Enough.{MoreThingsChangeNothing, MoreModelsChangeNothing}

-- ---- visits

-- none of these goes too far
abbrev Near : List Visit → Type 0
Near visits = list_any is_too_far visits ≡ false

near_parts : (vs ws : List Visit) → Near (vs ++ ws) → Near vs × Near ws
near_parts vs ws near = or_parts (list_any is_too_far vs) (list_any is_too_far ws) (sym (list_any-append is_too_far vs ws) ∙ near)

-- a visit by a chain beyond the limit goes too far
beyond : (chain : List Reference) (target : Reference) (depth : ℕ) (part : Json) → length chain ≡ most_entries → Near (own_visit (chain ++ target ∷ []) depth part ∷ []) → ⊥
beyond chain target depth part full near =
    let more : most_entries < length (chain ++ target ∷ []) = omega (arith, full, length-append chain (target ∷ [])) in
    let far : nat_lt most_entries (length (chain ++ target ∷ [])) ≡ true = grind (arith, nat_tests, more) in
    true≢false (sym (or_left (is_too_far (own_visit (chain ++ target ∷ []) depth part)) false (or_right _ _ far)) ∙ near)

nothing_left : {A : Type 0} (a b : List A) → a ++ b ≡ [] → a ≡ []
nothing_left [] b none = refl
nothing_left (x ∷ a) b none = absurd cc

nothing_right : {A : Type 0} (a b : List A) → a ++ b ≡ [] → b ≡ []
nothing_right [] b none = none
nothing_right (x ∷ a) b none = absurd cc

-- ---- models that are above

abbrev way : List (List ℕ) → List Reference
way above = map whole_of above

way_on : (above : List (List ℕ)) (url : List ℕ) → way (above ++ url ∷ []) ≡ way above ++ whole_of url ∷ []
way_on [] url = refl
way_on (a ∷ above) url = ap (λ (rest : List Reference). whole_of a ∷ rest) (way_on above url)

other_text : (a b : List ℕ) → bytes_eq a b ≡ false → bytes_eq b a ≡ false
other_text a b differ = elim (cases_Bool (bytes_eq b a)) [
  | inl same ↦ absurd (true≢false (sym ((bytes_eq-Decides a b).1 (sym ((bytes_eq-Decides b a).0 same))) ∙ differ))
  | inr isnt ↦ isnt
]

not_target : (a : List ℕ) (url : List ℕ) → bytes_eq url a ≡ false → is_target (whole_of url) (whole_of a) ≡ false
not_target a url differ = ap (λ (b : Bool). b && bytes_eq [] []) (other_text url a differ)

not_in_way : (above : List (List ℕ)) (url : List ℕ) → is_among url above ≡ false → is_in_chain (whole_of url) (way above) ≡ false
not_in_way [] url new = refl
not_in_way (a ∷ above) url new =
    let parts = or_parts (bytes_eq url a) (is_among url above) new in
    ap₂ (λ (x y : Bool). x || y) (not_target a url parts.0) (not_in_way above url parts.1)

new_below : (above : List (List ℕ)) (model url : List ℕ) → (is_among url above || bytes_eq url model) ≡ false → is_among url (above ++ model ∷ []) ≡ false
new_below above model url new =
    let parts = or_parts (is_among url above) (bytes_eq url model) new in
    list_any-append (bytes_eq url) above (model ∷ []) ∙ ap₂ (λ (x y : Bool). x || (y || false)) parts.0 parts.1

-- the part that is entered of a model that isn't in the chain
entered_is : (sources : Sources) (chain : List Reference) (url : List ℕ) (w : Option Json) → is_in_chain (whole_of url) chain ≡ false → whole_model sources url ≡ w
    → entered_part sources chain (whole_of url) ≡ option_and_then (part_of []) w
entered_is sources chain url w new is =
    ap (λ (b : Bool). option_and_then (part_of []) (cond b None (option_and_then result_ok (source_named url sources)))) new ∙ ap (λ (o : Option Json). option_and_then (part_of []) o) is

-- ---- Things

-- the outcomes of a Thing are the same at both rooms, wherever its model isn't above and its visits stay near
abbrev Agree : ℕ → ℕ → Given → List (List ℕ) → Step → Type 0
Agree a b given above step =
    (place : ThingPlace) → is_among place.model above ≡ false → Near (step Thing 0 (way above) (whole_of place.model))
    → outcomes_within a given above place ≡ outcomes_within b given above place

abbrev linked_visits : Step → List Reference → Option Reference → List Visit
linked_visits step chain model = elim model as (λ _. List Visit) [ None ↦ [] | Some m ↦ step Thing 0 chain m ]

-- a link that has no fault leads to a model that isn't above
leads_on : (models : Models) (above : List (List ℕ)) (place : ThingPlace) (index : ℕ) (url : List ℕ)
    → faults_of_target place index (target_kind models above place.model url) ≡ [] → (is_among url above || bytes_eq url place.model) ≡ false
leads_on models above place index url none = by (is_none (member_named url models)) (is_among url above || bytes_eq url place.model) none
  where
    by : (missing old : Bool) → faults_of_target place index (cond missing (Some MissingModel) (cond old (Some Circular) None)) ≡ [] → old ≡ false
    by true old none = absurd cc
    by false true none = absurd cc
    by false false none = refl

child_agrees : (a b : ℕ) (given : Given) (above : List (List ℕ)) (place : ThingPlace) (step : Step) (index : ℕ) (name : Option (List ℕ)) (url : Option (List ℕ))
    → Agree a b given (above ++ place.model ∷ []) step → Near (linked_visits step (way (above ++ place.model ∷ [])) (option_map whole_of url))
    → faults_of_target place index (link_kind given.models above place.model (option_map (λ (m : Reference). m.url) (option_map whole_of url))) ≡ []
    → flat_map (outcomes_within a given (above ++ place.model ∷ [])) (named_child place name (option_map (λ (m : Reference). m.url) (option_map whole_of url)))
    ≡ flat_map (outcomes_within b given (above ++ place.model ∷ [])) (named_child place name (option_map (λ (m : Reference). m.url) (option_map whole_of url)))
child_agrees a b given above place step index None None agree near none = refl
child_agrees a b given above place step index None (Some url) agree near none = refl
child_agrees a b given above place step index (Some name) None agree near none = refl
child_agrees a b given above place step index (Some name) (Some url) agree near none =
    ap (λ (os : List Outcome). os ++ []) (agree (child_place place name url) (new_below above place.model url (leads_on given.models above place index url none)) near)

abbrev submodel_text : List ℕ
submodel_text = codes "tm:submodel"

abbrev links_among : List ℕ → ℕ → List Json → List ModelLink
links_among url index vs = map (model_link url) (links_from submodel_text index vs)

abbrev things_under : ℕ → Given → List (List ℕ) → ThingPlace → ℕ → List ModelLink → List Outcome
things_under room given above place number links = flat_map (outcomes_within room given (above ++ place.model ∷ [])) (children_from place number links)

-- one link, and then the others
first_agrees : (c : Bool) (a b : ℕ) (given : Given) (above : List (List ℕ)) (place : ThingPlace) (step : Step) (index number : ℕ) (earlier : List (List ℕ)) (v : Json) (more : List (ℕ × Json)) (rest : List Visit)
    → Agree a b given (above ++ place.model ∷ []) step
    → Near (cond c (linked_visits step (way (above ++ place.model ∷ [])) (linked_model place.model v)) [] ++ rest)
    → ((n : ℕ) (before : List (List ℕ)) → Near rest → submodel_faults given.models above place before n (map (model_link place.model) more) ≡ []
    → things_under a given above place n (map (model_link place.model) more) ≡ things_under b given above place n (map (model_link place.model) more))
    → submodel_faults given.models above place earlier number (map (model_link place.model) (cond c ((index, v) ∷ more) more)) ≡ []
    → things_under a given above place number (map (model_link place.model) (cond c ((index, v) ∷ more) more))
    ≡ things_under b given above place number (map (model_link place.model) (cond c ((index, v) ∷ more) more))
first_agrees false a b given above place step index number earlier v more rest agree near others none = others number earlier near none
first_agrees true a b given above place step index number earlier v more rest agree near others none =
    let link : ModelLink = model_link place.model (index, v) in
    let parts = near_parts (linked_visits step (way (above ++ place.model ∷ [])) (linked_model place.model v)) rest near in
    let own : link_faults given.models above place earlier number link ≡ [] =
    nothing_left (link_faults given.models above place earlier number link)
    (submodel_faults given.models above place (earlier ++ segments_of (link_child place number link)) (number + 1) (map (model_link place.model) more)) none in
    let after : submodel_faults given.models above place (earlier ++ segments_of (link_child place number link)) (number + 1) (map (model_link place.model) more) ≡ [] =
    nothing_right (link_faults given.models above place earlier number link)
    (submodel_faults given.models above place (earlier ++ segments_of (link_child place number link)) (number + 1) (map (model_link place.model) more)) none in
    let leads = nothing_right (name_faults place earlier link.index (child_name place.segment number link)) (faults_of_target place link.index (link_kind given.models above place.model link.target)) own in
    let first = child_agrees a b given above place step index (child_name place.segment number link) _ agree parts.0 leads in
    let then = others (number + 1) (earlier ++ segments_of (link_child place number link)) parts.1 after in
    flat_map-append (outcomes_within a given (above ++ place.model ∷ [])) (link_child place number link) (children_from place (number + 1) (map (model_link place.model) more))
    ∙ (ap₂ (λ (x y : List Outcome). x ++ y) first then
    ∙ sym (flat_map-append (outcomes_within b given (above ++ place.model ∷ [])) (link_child place number link) (children_from place (number + 1) (map (model_link place.model) more))))

links_agree : (a b : ℕ) (given : Given) (above : List (List ℕ)) (place : ThingPlace) (step : Step) (index number : ℕ) (earlier : List (List ℕ)) (vs : List Json) → Agree a b given (above ++ place.model ∷ []) step
    → Near (flat_map (submodel_visits step place.model (way (above ++ place.model ∷ []))) vs) → submodel_faults given.models above place earlier number (links_among place.model index vs) ≡ []
    → things_under a given above place number (links_among place.model index vs) ≡ things_under b given above place number (links_among place.model index vs)
links_agree a b given above place step index number earlier [] agree near none = refl
links_agree a b given above place step index number earlier (v ∷ vs) agree near none =
    first_agrees (is_link submodel_text v) a b given above place step index number earlier v (links_from submodel_text (index + 1) vs) (flat_map (submodel_visits step place.model (way (above ++ place.model ∷ []))) vs) agree near
    (λ n before visits faultless. links_agree a b given above place step (index + 1) n before vs agree visits faultless) none

-- no fault of a Thing is one of its links
no_links_fault : (given : Given) (above : List (List ℕ)) (place : ThingPlace) (r : Result Json ResolveFault) → thing_faults given above place r ≡ [] → submodel_faults given.models above place [] 1 (submodels given place) ≡ []
no_links_fault given above place (Err e) none = absurd cc
no_links_fault given above place (Ok value) none =
    nothing_left (submodel_faults given.models above place [] 1 (submodels given place)) (tree_faults place.segment (thing_tree given place value))
    (nothing_right (choosing_faults given place) (submodel_faults given.models above place [] 1 (submodels given place) ++ tree_faults place.segment (thing_tree given place value)) none)

unless : (faults : List DeriveFault) (xs ys : List Outcome) → (faults ≡ [] → xs ≡ ys) → unless_faulty faults xs ≡ unless_faulty faults ys
unless [] xs ys same = same refl
unless (e ∷ es) xs ys same = refl

-- the links to submodels of a model, if there is one
abbrev links_in : List ℕ → Option Json → List ModelLink
links_in url w = elim w as (λ _. List ModelLink) [ None ↦ [] | Some whole ↦ links_of submodel_text url whole ]

abbrev at_end : Sources → List Reference → Reference → Option Json → List Visit
at_end sources chain target e = elim e as (λ _. List Visit) [ None ↦ [] | Some part ↦ own_visit (chain ++ target ∷ []) 0 part ∷ [] ]

abbrev within : ℕ → Sources → Role → List Reference → Reference → Option Json → List Visit
within room sources role chain target e = elim e as (λ _. List Visit) [ None ↦ [] | Some part ↦ target_visits (visits_within room sources) role 0 (chain ++ target ∷ []) target part ]

last_agrees : (a b : ℕ) (given : Given) (above : List (List ℕ)) (place : ThingPlace) (w : Option Json) → length (way above) ≡ most_entries
    → Near (at_end given.sources (way above) (whole_of place.model) (option_and_then (part_of []) w))
    → things_under a given above place 1 (links_in place.model w) ≡ things_under b given above place 1 (links_in place.model w)
last_agrees a b given above place None full near = refl
last_agrees a b given above place (Some whole) full near = absurd (beyond (way above) (whole_of place.model) 0 whole full near)

more_agree : (room a b : ℕ) (given : Given) (above : List (List ℕ)) (place : ThingPlace) (w : Option Json) → Agree a b given (above ++ place.model ∷ []) (visits_within room given.sources)
    → Near (within room given.sources Thing (way above) (whole_of place.model) (option_and_then (part_of []) w)) → submodel_faults given.models above place [] 1 (links_in place.model w) ≡ []
    → things_under a given above place 1 (links_in place.model w) ≡ things_under b given above place 1 (links_in place.model w)
more_agree room a b given above place None agree near none = refl
more_agree room a b given above place (Some whole) agree near none =
    let step : Step = visits_within room given.sources in
    let chain : List Reference = way above ++ whole_of place.model ∷ [] in
    let links = near_parts (part_visits step place.model chain 0 whole) (links_visits step Thing place.model chain whole) near in
    let subs = near_parts (extension_visits step place.model chain (extensions whole)) (flat_map (submodel_visits step place.model chain) (links_under whole)) links.1 in
    links_agree a b given above place step 0 1 [] (links_under whole) agree
    (subst (λ (c : List Reference). Near (flat_map (submodel_visits step place.model c) (links_under whole))) (sym (way_on above place.model)) subs.1) none

things_agree : (room a b : ℕ) (given : Given) (above : List (List ℕ)) → room + length (way above) ≡ most_entries → room ≤ a → room ≤ b → Agree (suc a) (suc b) given above (visits_within room given.sources)
things_agree zero a b given above fits less small place new near =
    ap (λ (os : List Outcome). outcome given above place ∷ os)
    (unless (outcome given above place).faults (things_under a given above place 1 (submodels given place)) (things_under b given above place 1 (submodels given place))
    (λ faultless. last_agrees a b given above place (whole_model given.sources place.model) (omega (arith, fits))
    (subst (λ (e : Option Json). Near (at_end given.sources (way above) (whole_of place.model) e))
    (entered_is given.sources (way above) place.model (whole_model given.sources place.model) (not_in_way above place.model new) refl) near)))
things_agree (suc room) zero b given above fits less small place new near = absurd (omega (arith, less))
things_agree (suc room) (suc a) zero given above fits less small place new near = absurd (omega (arith, small))
things_agree (suc room) (suc a) (suc b) given above fits less small place new near =
    ap (λ (os : List Outcome). outcome given above place ∷ os)
    (unless (outcome given above place).faults (things_under (suc a) given above place 1 (submodels given place)) (things_under (suc b) given above place 1 (submodels given place))
    (λ faultless. more_agree room (suc a) (suc b) given above place (whole_model given.sources place.model)
    (things_agree room a b given (above ++ place.model ∷ []) (omega (arith, fits, ap length (way_on above place.model), length-append (way above) (whole_of place.model ∷ []))) (omega (arith, less)) (omega (arith, small)))
    (subst (λ (e : Option Json). Near (within room given.sources Thing (way above) (whole_of place.model) e))
    (entered_is given.sources (way above) place.model (whole_model given.sources place.model) (not_in_way above place.model new) refl) near)
    (no_links_fault given above place (resolved_from given.sources place.model) faultless)))

-- a root that is too large has a fault, and no Things below it
root_agrees : (large : Bool) (a b : ℕ) (given : Given) (root : List ℕ) → is_too_large (expansion given.sources root) ≡ large → most_entries ≤ a → most_entries ≤ b
    → outcomes_within (suc a) given [] (root_place given.frame root) ≡ outcomes_within (suc b) given [] (root_place given.frame root)
root_agrees true a b given root is less small =
    ap (λ (os : List Outcome). outcome given [] (root_place given.frame root) ∷ os)
    (unless (outcome given [] (root_place given.frame root)).faults (things_under a given [] (root_place given.frame root) 1 (submodels given (root_place given.frame root)))
    (things_under b given [] (root_place given.frame root) 1 (submodels given (root_place given.frame root)))
    (λ faultless. absurd (refused (resolved_from given.sources root) (ap (λ (c : Bool). cond c (Err (At TooLarge root [])) (value_or_fault (root_value given.sources root) (root_faults given.sources root))) is) faultless)))
  where
    refused : (r : Result Json ResolveFault) → r ≡ Err (At TooLarge root []) → thing_faults given [] (root_place given.frame root) r ≡ [] → ⊥
    refused (Ok value) is none = absurd cc
    refused (Err e) is none = absurd cc
root_agrees false a b given root is less small =
    things_agree most_entries a b given [] (omega arith) less small (root_place given.frame root) refl
    (or_parts (nat_lt most_weight (weight_of (expansion given.sources root))) (list_any is_too_far (expansion given.sources root)) is).1

pub more_things_change_nothing : MoreThingsChangeNothing
unfolding most_below
more_things_change_nothing given root zero more = absurd (omega (arith, more))
more_things_change_nothing given root (suc room) more =
    root_agrees (is_too_large (expansion given.sources root)) room most_entries given root refl (omega (arith, more)) (omega arith)

-- ---- what is optional

-- both lists are the same at both rooms
abbrev Same : ℕ → ℕ → Sources → List ℕ → Type 0
Same a b sources url = (optional_texts a sources url ≡ optional_texts b sources url) × (optional_faults a sources url ≡ optional_faults b sources url)

-- of a model, by that which it extends
same_by : (a b : ℕ) (sources : Sources) (url : List ℕ) (base : Option (List ℕ)) → base_url sources url ≡ base → ((u : List ℕ) → base ≡ Some u → Same a b sources u) → Same (suc a) (suc b) sources url
same_by a b sources url base is each =
    let both = by base each in (
      ap (λ (o : Option (List ℕ)). of_base (optional_texts a sources) o ++ part_texts (optional_part sources url)) is
          ∙ (ap (λ (ts : List (List ℕ)). ts ++ part_texts (optional_part sources url)) both.0
          ∙ sym (ap (λ (o : Option (List ℕ)). of_base (optional_texts b sources) o ++ part_texts (optional_part sources url)) is)),
      ap (λ (o : Option (List ℕ)). of_base (optional_faults a sources) o ++ faults_of_part (optional_part sources url)) is
          ∙ (ap (λ (ts : List (List ℕ)). ts ++ faults_of_part (optional_part sources url)) both.1
          ∙ sym (ap (λ (o : Option (List ℕ)). of_base (optional_faults b sources) o ++ faults_of_part (optional_part sources url)) is)),
    )
  where
    by : (o : Option (List ℕ)) → ((u : List ℕ) → o ≡ Some u → Same a b sources u)
        → (of_base (optional_texts a sources) o ≡ of_base (optional_texts b sources) o) × (of_base (optional_faults a sources) o ≡ of_base (optional_faults b sources) o)
    by None each = (refl, refl)
    by (Some u) each = each u refl

-- the model that a model extends, if there is one
abbrev base_in : List ℕ → Option Json → Option (List ℕ)
base_in url w = base_of (elim w as (λ _. List ModelLink) [ None ↦ [] | Some whole ↦ links_of (codes "tm:extends") url whole ])

-- a step without fault is to a model that isn't in the chain, and nothing inside has one
record GoesInside (inside : Json → List ResolveFault) (chain : List Reference) (target : Reference) (whole : Json) : Type 0 where
  new : is_in_chain target chain ≡ false
  faultless : inside whole ≡ []

goes_inside : (inside : Json → List ResolveFault) (from : Reference) (chain : List Reference) (url : List ℕ) (source : Option (Result Json PartFault)) (whole : Json)
    → option_and_then result_ok source ≡ Some whole → step_faults inside from chain (whole_of url) source ≡ [] → GoesInside inside chain (whole_of url) whole
goes_inside inside from chain url None whole is none = absurd cc
goes_inside inside from chain url (Some (Err fault)) whole is none = absurd cc
goes_inside inside from chain url (Some (Ok found)) whole is none =
    let same : found ≡ whole = cc in
    by (is_in_chain (whole_of url) chain) refl none same
  where
    by : (old : Bool) → is_in_chain (whole_of url) chain ≡ old → cond old (fault_at Circular from ∷ []) (inside found) ≡ [] → found ≡ whole → GoesInside inside chain (whole_of url) whole
    by true is none same = absurd cc
    by false is none same = record { new = is; faultless = subst (λ (v : Json). inside v ≡ []) same none }

-- the model that a model extends is gone through in the same way
abbrev Extends : ℕ → ℕ → Sources → Step → (Reference → List Reference → Reference → List ResolveFault) → List Reference → Type 0
Extends a b sources step faults chain = (from : Reference) (url : List ℕ) → Near (step Part 0 chain (whole_of url)) → faults from chain (whole_of url) ≡ [] → Same a b sources url

based : (a b : ℕ) (sources : Sources) (step : Step) (f : Steps) (chain : List Reference) (url : List ℕ) (links : List (ℕ × Json)) → Extends a b sources step f.faults chain
    → Near (extension_visits step url chain links) → extension_faults f chain url links ≡ [] → (u : List ℕ) → base_of (map (model_link url) links) ≡ Some u → Same a b sources u
based a b sources step f chain url [] extends near none u is = absurd cc
based a b sources step f chain url (link ∷ next ∷ links) extends near none u is = absurd cc
based a b sources step f chain url (link ∷ []) extends near none u is = by _ is near none
  where
    by : (x : Option (List ℕ)) → option_map (λ (r : Reference). r.url) (option_map whole_of x) ≡ Some u
        → Near (elim (option_map whole_of x) as (λ _. List Visit) [ None ↦ [] | Some r ↦ step Part 0 chain r ])
        → elim (option_map whole_of x) as (λ _. List ResolveFault) [ None ↦ At BadHref url (link_place link.0) ∷ [] | Some r ↦ f.faults (reference url (link_place link.0)) chain r ] ≡ []
        → Same a b sources u
    by None named visits faultless = absurd cc
    by (Some v) named visits faultless = subst (λ (t : List ℕ). Same a b sources t) (same_Some v u named) (extends (reference url (link_place link.0)) v visits faultless)

-- of a model that isn't there nothing is said
nothing_same : (a b : ℕ) (sources : Sources) (url : List ℕ) → whole_model sources url ≡ None → Same (suc a) (suc b) sources url
nothing_same a b sources url is = same_by a b sources url None (ap (base_in url) is) (λ u some. absurd cc)

last_same : (a b : ℕ) (sources : Sources) (role : Role) (chain : List Reference) (from : Reference) (url : List ℕ) (w : Option Json) → length chain ≡ most_entries → whole_model sources url ≡ w
    → Near (visits_within zero sources role 0 chain (whole_of url)) → faults_within zero sources from chain (whole_of url) ≡ [] → Same (suc a) (suc b) sources url
last_same a b sources role chain from url None full is near none = nothing_same a b sources url is
last_same a b sources role chain from url (Some whole) full is near none =
    let goes = goes_inside (λ part. []) from chain url (source_named url sources) whole is none in
    absurd (beyond chain (whole_of url) 0 whole full (subst (λ (e : Option Json). Near (at_end sources chain (whole_of url) e)) (entered_is sources chain url (Some whole) goes.new is) near))

more_same : (room a b : ℕ) (sources : Sources) (role : Role) (chain : List Reference) (from : Reference) (url : List ℕ) (w : Option Json) → whole_model sources url ≡ w
    → Extends a b sources (visits_within room sources) (faults_within room sources) (chain ++ whole_of url ∷ [])
    → Near (visits_within (suc room) sources role 0 chain (whole_of url)) → faults_within (suc room) sources from chain (whole_of url) ≡ [] → Same (suc a) (suc b) sources url
more_same room a b sources role chain from url None is extends near none = nothing_same a b sources url is
more_same room a b sources role chain from url (Some whole) is extends near none =
    let longer : List Reference = chain ++ whole_of url ∷ [] in
    let step : Step = visits_within room sources in
    let f : Steps = record { value = value_within room sources; faults = faults_within room sources } in
    let goes = goes_inside (target_faults f longer (whole_of url)) from chain url (source_named url sources) whole is none in
    let visits : Near (within room sources role chain (whole_of url) (Some whole)) =
    subst (λ (e : Option Json). Near (within room sources role chain (whole_of url) e)) (entered_is sources chain url (Some whole) goes.new is) near in
    let links = near_parts (part_visits step url longer 0 whole) (links_visits step role url longer whole) visits in
    let bases = near_parts (extension_visits step url longer (extensions whole)) (of_thing role (flat_map (submodel_visits step url longer) (links_under whole))) links.1 in
    let faultless = nothing_left (extension_faults f longer url (extensions whole)) (part_faults f longer (whole_of url) whole) goes.faultless in
    same_by a b sources url (base_in url (Some whole)) (ap (base_in url) is) (based a b sources step f longer url (extensions whole) extends bases.0 faultless)

models_agree : (room a b : ℕ) (sources : Sources) (role : Role) (chain : List Reference) (from : Reference) (url : List ℕ) → room + length chain ≡ most_entries → room ≤ a → room ≤ b
    → Near (visits_within room sources role 0 chain (whole_of url)) → faults_within room sources from chain (whole_of url) ≡ [] → Same (suc a) (suc b) sources url
models_agree zero a b sources role chain from url fits less small near none = last_same a b sources role chain from url (whole_model sources url) (omega (arith, fits)) refl near none
models_agree (suc room) zero b sources role chain from url fits less small near none = absurd (omega (arith, less))
models_agree (suc room) (suc a) zero sources role chain from url fits less small near none = absurd (omega (arith, small))
models_agree (suc room) (suc a) (suc b) sources role chain from url fits less small near none =
    more_same room (suc a) (suc b) sources role chain from url (whole_model sources url) refl
    (λ place next visits faultless. models_agree room a b sources Part (chain ++ whole_of url ∷ []) place next (omega (arith, fits, length-append chain (whole_of url ∷ []))) (omega (arith, less)) (omega (arith, small)) visits faultless)
    near none

-- a model with a value isn't too large, and has no fault
record HasValue (sources : Sources) (url : List ℕ) : Type 0 where
  near : Near (expansion sources url)
  faultless : root_faults sources url ≡ []

has_value : (sources : Sources) (url : List ℕ) (value : Json) → resolved_from sources url ≡ Ok value → HasValue sources url
has_value sources url value is = by_size (is_too_large (expansion sources url)) refl is
  where
    none_of : (faults : List ResolveFault) (v : Json) → value_or_fault v faults ≡ Ok value → faults ≡ []
    none_of [] v ok = refl
    none_of (fault ∷ faults) v ok = absurd cc

    by_size : (large : Bool) → is_too_large (expansion sources url) ≡ large → cond large (Err (At TooLarge url [])) (value_or_fault (root_value sources url) (root_faults sources url)) ≡ Ok value → HasValue sources url
    by_size true size ok = absurd cc
    by_size false size ok = record {
      near = (or_parts (nat_lt most_weight (weight_of (expansion sources url))) (list_any is_too_far (expansion sources url)) size).1;
      faultless = none_of (root_faults sources url) (root_value sources url) ok;
    }

pub more_models_change_nothing : MoreModelsChangeNothing
unfolding most_below
more_models_change_nothing sources url value zero more is = absurd (omega (arith, more))
more_models_change_nothing sources url value (suc room) more is =
    let has = has_value sources url value is in
    models_agree most_entries room most_entries sources Thing [] (whole_of url) url (omega arith) (omega (arith, more)) (omega arith) has.near has.faultless
