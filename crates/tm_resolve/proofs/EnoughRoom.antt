-- Where nothing goes too far, a chain with more room gives the same.
use Rattle.std.proofs.Common.{◌≡◌, ℕ, zero, suc, ◌+◌, ◌<◌, ◌≤◌, List, [], ◌∷◌, ◌++◌, length, Bool, true, false, refl, sym, ap, subst, ◌∙◌, arith, length-append, cond}
use Rattle.std.specs.Prelude.{Option, Some, None, Result, Ok, Err, option_and_then, nat_lt}
use Rattle.std.specs.List.{list_any, flat_map}
use Rattle.std.specs.Result.{result_ok}
use Rattle.std.specs.Str.{bytes_eq}
use Rattle.std.proofs.lemmas.Bool.{true≢false, or_parts, or_left, or_right}
use Rattle.std.proofs.lemmas.Bool.Decides.{nat_tests}
use Rattle.std.proofs.lemmas.List.Folds.{list_any-append}
use Rattle.wot_json.specs.Tree.{Json, null, boolean, integer, string, array, object, Elements, no_elements, element, Members, no_members, member}
use Rattle.wot_json.specs.Lookup.{member_list, member_named}
use Rattle.wot_json.specs.Merge.{merge}
use Rattle.wot_json.specs.Places.{step_text, element_step_text}
use Rattle.wot_json.specs.Pointer.{part_of}
use Rattle.tm_parts.specs.References.{reference}
use Rattle.tm_parts.specs.Sources.{Sources, source_named}
use Rattle.tm_parts.specs.declared.reference.Reference.{Reference}
use Rattle.tm_parts.specs.declared.substitution.PartFault.{PartFault}
use Rattle.tm_resolve.specs.Chain.{is_in_chain, whole_of}
use Rattle.tm_resolve.specs.Links.{reference_name, reference_of, extensions, link_place, linked_model, links_under, without_links}
use Rattle.tm_resolve.specs.Value.{imported_value, part_value, elements_value, members_value, extended_value, target_value, value_within}
use Rattle.tm_resolve.specs.Faults.{Steps, fault_at, part_below, import_faults, reference_faults, part_faults, element_faults, member_faults, extension_faults, target_faults, model_faults, step_faults, faults_within}
use Rattle.tm_resolve.specs.Room.{SaysTheSame}
use Rattle.tm_resolve.specs.Weight.{Visit, Step, most_weight, most_entries, weight_of, is_too_far, is_too_large, own_visit, reference_visits, part_visits, element_visits, member_visits, extension_visits, submodel_visits, of_thing, links_visits, target_visits, is_whole, entered_part, visits_within, expansion}
use Rattle.tm_resolve.specs.declared.fault.ResolveFault.{ResolveFault}
use Rattle.tm_resolve.specs.declared.fault.ResolveFault.TheVariants.{At}
use Rattle.tm_resolve.specs.declared.fault.ResolveKind.TheVariants.{BadRef, BadHref, MissingNode, Circular}
use Rattle.tm_resolve.specs.declared.weight.Role.{Role}
use Rattle.tm_resolve.specs.declared.weight.Role.TheVariants.{Thing, Part}
use Rattle.tm_resolve.proofs.StepsInto.{entered_there}

-- none of these visits goes too far
abbrev Near : List Visit → Type 0
Near visits = list_any is_too_far visits ≡ false

near_parts : (vs ws : List Visit) → Near (vs ++ ws) → Near vs × Near ws
near_parts vs ws near = or_parts (list_any is_too_far vs) (list_any is_too_far ws) (sym (list_any-append is_too_far vs ws) ∙ near)

near_after : (v : Visit) (vs : List Visit) → Near (v ∷ vs) → Near vs
near_after v vs near = (or_parts (is_too_far v) (list_any is_too_far vs) near).1

-- the two give the same for each step from this chain that goes nowhere too far
abbrev Agree : Step → Steps → Steps → List Reference → Type 0
Agree step f g chain = (depth : ℕ) → (from target : Reference) → Near (step Part depth chain target) → (f.value chain target ≡ g.value chain target) × (f.faults from chain target ≡ g.faults from chain target)

-- ---- parts

led_agree : (step : Step) (f g : Steps) (chain : List Reference) (from : Reference) (depth : ℕ) (target : Option Reference) → Agree step f g chain
    → Near (elim target as (λ _. List Visit) [ None ↦ [] | Some t ↦ step Part depth chain t ])
    → (elim target as (λ _. Json) [ None ↦ null | Some t ↦ f.value chain t ] ≡ elim target as (λ _. Json) [ None ↦ null | Some t ↦ g.value chain t ])
    × (elim target as (λ _. List ResolveFault) [ None ↦ fault_at BadRef from ∷ [] | Some t ↦ import_faults from (f.value chain t) (f.faults from chain t) ]
    ≡ elim target as (λ _. List ResolveFault) [ None ↦ fault_at BadRef from ∷ [] | Some t ↦ import_faults from (g.value chain t) (g.faults from chain t) ])
led_agree step f g chain from depth None agree near = (refl, refl)
led_agree step f g chain from depth (Some target) agree near =
    let same = agree depth from target near in
    (same.0, λ i. import_faults from (same.0 i) (same.1 i))

imports_agree : (step : Step) (f g : Steps) (chain : List Reference) (from : Reference) (depth : ℕ) (r : Option Json) (a b : Json) → Agree step f g chain → a ≡ b → Near (reference_visits step from.url chain depth r)
    → (imported_value f.value from.url chain r a ≡ imported_value g.value from.url chain r b) × (reference_faults f chain from r ≡ reference_faults g chain from r)
imports_agree step f g chain from depth None a b agree others near = (others, refl)
imports_agree step f g chain from depth (Some value) a b agree others near =
    let led = led_agree step f g chain from depth (reference_of from.url value) agree near in
    (λ i. merge (led.0 i) (others i), led.1)

mutual
  part_agrees : (step : Step) (f g : Steps) (chain : List Reference) (from : Reference) (depth : ℕ) (v : Json) → Agree step f g chain → Near (part_visits step from.url chain depth v)
      → (part_value f.value from.url chain v ≡ part_value g.value from.url chain v) × (part_faults f chain from v ≡ part_faults g chain from v)
  part_agrees step f g chain from depth null agree near = (refl, refl)
  part_agrees step f g chain from depth (boolean b) agree near = (refl, refl)
  part_agrees step f g chain from depth (integer z) agree near = (refl, refl)
  part_agrees step f g chain from depth (string s) agree near = (refl, refl)
  part_agrees step f g chain from depth (array es) agree near =
      let each = elements_agree step f g chain from (depth + 1) 0 es agree (near_after (own_visit chain depth (array es)) (element_visits step from.url chain (depth + 1) es) near) in
      (ap array each.0, each.1)
  part_agrees step f g chain from depth (object ms) agree near =
      let r = member_named reference_name (member_list ms) in
      let parts = near_parts (reference_visits step from.url chain depth r) (member_visits step from.url chain (depth + 1) ms)
      (near_after (own_visit chain depth (object ms)) (reference_visits step from.url chain depth r ++ member_visits step from.url chain (depth + 1) ms) near) in
      let others = members_agree step f g chain from (depth + 1) ms agree parts.1 in
      let imports = imports_agree step f g chain from depth r (object (members_value f.value from.url chain ms)) (object (members_value g.value from.url chain ms)) agree (ap object others.0) parts.0 in
      (imports.0, λ i. imports.1 i ++ others.1 i)

  elements_agree : (step : Step) (f g : Steps) (chain : List Reference) (from : Reference) (depth index : ℕ) (es : Elements) → Agree step f g chain → Near (element_visits step from.url chain depth es)
      → (elements_value f.value from.url chain es ≡ elements_value g.value from.url chain es) × (element_faults f chain from index es ≡ element_faults g chain from index es)
  elements_agree step f g chain from depth index no_elements agree near = (refl, refl)
  elements_agree step f g chain from depth index (element v es) agree near =
      let parts = near_parts (part_visits step from.url chain depth v) (element_visits step from.url chain depth es) near in
      let first = part_agrees step f g chain (part_below from (element_step_text index)) depth v agree parts.0 in
      let rest = elements_agree step f g chain from depth (index + 1) es agree parts.1 in
      (λ i. element (first.0 i) (rest.0 i), λ i. first.1 i ++ rest.1 i)

  members_agree : (step : Step) (f g : Steps) (chain : List Reference) (from : Reference) (depth : ℕ) (ms : Members) → Agree step f g chain → Near (member_visits step from.url chain depth ms)
      → (members_value f.value from.url chain ms ≡ members_value g.value from.url chain ms) × (member_faults f chain from ms ≡ member_faults g chain from ms)
  members_agree step f g chain from depth no_members agree near = (refl, refl)
  members_agree step f g chain from depth (member n v ms) agree near =
      let parts = near_parts (part_visits step from.url chain depth v) (member_visits step from.url chain depth ms) near in
      let first = part_agrees step f g chain (part_below from (step_text n)) depth v agree parts.0 in
      let rest = members_agree step f g chain from depth ms agree parts.1 in
      (λ i. cond (bytes_eq n reference_name) (rest.0 i) (member n (first.0 i) (rest.0 i)), λ i. cond (bytes_eq n reference_name) (rest.1 i) (first.1 i ++ rest.1 i))

-- ---- whole models

linked_agree : (step : Step) (f g : Steps) (chain : List Reference) (url place : List ℕ) (model : Option Reference) → Agree step f g chain
    → Near (elim model as (λ _. List Visit) [ None ↦ [] | Some m ↦ step Part 0 chain m ])
    → (elim model as (λ _. Json) [ None ↦ null | Some m ↦ f.value chain m ] ≡ elim model as (λ _. Json) [ None ↦ null | Some m ↦ g.value chain m ])
    × (elim model as (λ _. List ResolveFault) [ None ↦ At BadHref url place ∷ [] | Some m ↦ f.faults (reference url place) chain m ]
    ≡ elim model as (λ _. List ResolveFault) [ None ↦ At BadHref url place ∷ [] | Some m ↦ g.faults (reference url place) chain m ])
linked_agree step f g chain url place None agree near = (refl, refl)
linked_agree step f g chain url place (Some model) agree near = agree 0 (reference url place) model near

extensions_agree : (step : Step) (f g : Steps) (chain : List Reference) (url : List ℕ) (links : List (ℕ × Json)) (a b : Json) → Agree step f g chain → a ≡ b → Near (extension_visits step url chain links)
    → (extended_value f.value url chain links a ≡ extended_value g.value url chain links b) × (extension_faults f chain url links ≡ extension_faults g chain url links)
extensions_agree step f g chain url [] a b agree own near = (own, refl)
extensions_agree step f g chain url (link ∷ []) a b agree own near =
    let base = linked_agree step f g chain url (link_place link.0) (linked_model url link.1) agree near in
    (λ i. merge (without_links (base.0 i)) (own i), base.1)
extensions_agree step f g chain url (link ∷ next ∷ links) a b agree own near = (own, refl)

chosen_agree : (whole : Bool) (step : Step) (f g : Steps) (role : Role) (chain : List Reference) (target : Reference) (part : Json) → Agree step f g chain
    → Near (cond whole (links_visits step role target.url chain part) []) → (part_value f.value target.url chain part ≡ part_value g.value target.url chain part) × (part_faults f chain target part ≡ part_faults g chain target part)
    → (cond whole (extended_value f.value target.url chain (extensions part) (part_value f.value target.url chain part)) (part_value f.value target.url chain part)
    ≡ cond whole (extended_value g.value target.url chain (extensions part) (part_value g.value target.url chain part)) (part_value g.value target.url chain part))
    × (cond whole (extension_faults f chain target.url (extensions part)) [] ++ part_faults f chain target part ≡ cond whole (extension_faults g chain target.url (extensions part)) [] ++ part_faults g chain target part)
chosen_agree true step f g role chain target part agree near own =
    let links = near_parts (extension_visits step target.url chain (extensions part)) (of_thing role (flat_map (submodel_visits step target.url chain) (links_under part))) near in
    let both = extensions_agree step f g chain target.url (extensions part) (part_value f.value target.url chain part) (part_value g.value target.url chain part) agree own.0 links.0 in
    (both.0, λ i. both.1 i ++ own.1 i)
chosen_agree false step f g role chain target part agree near own = own

target_agrees : (step : Step) (f g : Steps) (role : Role) (depth : ℕ) (chain : List Reference) (target : Reference) (part : Json) → Agree step f g chain → Near (target_visits step role depth chain target part)
    → (target_value f.value chain target part ≡ target_value g.value chain target part) × (target_faults f chain target part ≡ target_faults g chain target part)
target_agrees step f g role depth chain target part agree near =
    let parts = near_parts (part_visits step target.url chain depth part) (cond (is_whole target) (links_visits step role target.url chain part) []) near in
    chosen_agree (is_whole target) step f g role chain target part agree parts.1 (part_agrees step f g chain target depth part agree parts.0)

-- ---- steps that can't be made give the same at any room

place_agrees : (inside other : Json → List ResolveFault) (from : Reference) (found : Option Json) → found ≡ None
    → elim found as (λ _. List ResolveFault) [ None ↦ fault_at MissingNode from ∷ [] | Some v ↦ inside v ] ≡ elim found as (λ _. List ResolveFault) [ None ↦ fault_at MissingNode from ∷ [] | Some v ↦ other v ]
place_agrees inside other from None is = refl
place_agrees inside other from (Some v) is = absurd (cc)

nowhere_agrees : (inside other : Json → List ResolveFault) (from target : Reference) (source : Option (Result Json PartFault)) (old : Bool) → option_and_then (part_of target.pointer) (cond old None (option_and_then result_ok source)) ≡ None
    → elim source as (λ _. List ResolveFault) [ None ↦ fault_at MissingNode from ∷ [] | Some s ↦ cond old (fault_at Circular from ∷ []) (model_faults inside from target s) ]
    ≡ elim source as (λ _. List ResolveFault) [ None ↦ fault_at MissingNode from ∷ [] | Some s ↦ cond old (fault_at Circular from ∷ []) (model_faults other from target s) ]
nowhere_agrees inside other from target None old is = refl
nowhere_agrees inside other from target (Some source) true is = refl
nowhere_agrees inside other from target (Some (Err fault)) false is = refl
nowhere_agrees inside other from target (Some (Ok whole)) false is = place_agrees inside other from (part_of target.pointer whole) is

stopped_agrees : (inside other : Json → List ResolveFault) (from : Reference) (chain : List Reference) (target : Reference) (source : Option (Result Json PartFault)) (old : Bool) → is_in_chain target chain ≡ old
    → option_and_then (part_of target.pointer) (cond old None (option_and_then result_ok source)) ≡ None → step_faults inside from chain target source ≡ step_faults other from chain target source
stopped_agrees inside other from chain target None old is none = refl
stopped_agrees inside other from chain target (Some source) old is none =
    ap (λ (b : Bool). cond b (fault_at Circular from ∷ []) (model_faults inside from target source)) is
    ∙ nowhere_agrees inside other from target (Some source) old none
    ∙ ap (λ (b : Bool). cond b (fault_at Circular from ∷ []) (model_faults other from target source)) (sym is)

-- the faults inside a step at a room
abbrev inside_at : ℕ → Sources → List Reference → Reference → Json → List ResolveFault
inside_at zero sources chain target = λ part. []
inside_at (suc room) sources chain target = target_faults (record { value = value_within room sources; faults = faults_within room sources }) (chain ++ target ∷ []) target

faults_at_room : (room : ℕ) (sources : Sources) (from : Reference) (chain : List Reference) (target : Reference) → faults_within room sources from chain target ≡ step_faults (inside_at room sources chain target) from chain target (source_named target.url sources)
faults_at_room zero sources from chain target = refl
faults_at_room (suc room) sources from chain target = refl

value_nowhere : (room : ℕ) (sources : Sources) (chain : List Reference) (target : Reference) → entered_part sources chain target ≡ None → value_within room sources chain target ≡ null
value_nowhere zero sources chain target none = refl
value_nowhere (suc room) sources chain target none =
    ap (λ (o : Option Json). elim o as (λ _. Json) [ None ↦ null | Some v ↦ target_value (value_within room sources) (chain ++ target ∷ []) target v ]) none

-- ---- any step

-- a visit by a chain beyond the limit goes too far
beyond : (chain : List Reference) (target : Reference) (depth : ℕ) (part : Json) → length chain ≡ most_entries → Near (own_visit (chain ++ target ∷ []) depth part ∷ []) → ⊥
beyond chain target depth part full near =
    let more : most_entries < length (chain ++ target ∷ []) = omega (arith, full, length-append chain (target ∷ [])) in
    let far : nat_lt most_entries (length (chain ++ target ∷ [])) ≡ true = grind (arith, nat_tests, more) in
    true≢false (sym (or_left (is_too_far (own_visit (chain ++ target ∷ []) depth part)) false (or_right _ _ far)) ∙ near)

steps_agree : (room wider : ℕ) (sources : Sources) (role : Role) (depth : ℕ) (from : Reference) (chain : List Reference) (target : Reference) (e : Option Json) → room ≤ wider → room + length chain ≡ most_entries → entered_part sources chain target ≡ e
    → Near (visits_within room sources role depth chain target)
    → (value_within room sources chain target ≡ value_within wider sources chain target) × (faults_within room sources from chain target ≡ faults_within wider sources from chain target)
steps_agree room wider sources role depth from chain target None less fits is near = (
  value_nowhere room sources chain target is ∙ sym (value_nowhere wider sources chain target is),
  faults_at_room room sources from chain target
      ∙ stopped_agrees (inside_at room sources chain target) (inside_at wider sources chain target) from chain target (source_named target.url sources) (is_in_chain target chain) refl is
      ∙ sym (faults_at_room wider sources from chain target),
)
steps_agree zero wider sources role depth from chain target (Some part) less fits is near =
    absurd (beyond chain target depth part (omega (arith, fits))
    (subst (λ (o : Option Json). Near (elim o as (λ _. List Visit) [ None ↦ [] | Some v ↦ own_visit (chain ++ target ∷ []) depth v ∷ [] ])) is near))
steps_agree (suc room) zero sources role depth from chain target (Some part) less fits is near = absurd (omega (arith, less))
steps_agree (suc room) (suc wider) sources role depth from chain target (Some part) less fits is near =
    let longer : List Reference = chain ++ target ∷ [] in
    let room_left : room + length longer ≡ most_entries = omega (arith, fits, length-append chain (target ∷ [])) in
    let f : Steps = record { value = value_within room sources; faults = faults_within room sources } in
    let g : Steps = record { value = value_within wider sources; faults = faults_within wider sources } in
    let inside = target_agrees (visits_within room sources) f g role depth longer target part
    (λ deep place next visits. steps_agree room wider sources Part deep place longer next (entered_part sources longer next) (omega (arith, less)) room_left refl visits)
    (subst (λ (o : Option Json). Near (elim o as (λ _. List Visit) [ None ↦ [] | Some v ↦ target_visits (visits_within room sources) role depth longer target v ])) is near) in (
      ap (λ (o : Option Json). elim o as (λ _. Json) [ None ↦ null | Some v ↦ target_value f.value longer target v ]) is
          ∙ inside.0
          ∙ sym (ap (λ (o : Option Json). elim o as (λ _. Json) [ None ↦ null | Some v ↦ target_value g.value longer target v ]) is),
      entered_there sources from chain target part is (target_faults f longer target)
          ∙ inside.1
          ∙ sym (entered_there sources from chain target part is (target_faults g longer target)),
    )

pub room_is_enough : (sources : Sources) → (root : List ℕ) → is_too_large (expansion sources root) ≡ false → (room : ℕ) → most_entries ≤ room → SaysTheSame sources root room
room_is_enough sources root within room more =
    let near = (or_parts (nat_lt most_weight (weight_of (expansion sources root))) (list_any is_too_far (expansion sources root)) within).1 in
    let same = steps_agree most_entries room sources Thing 0 (whole_of root) [] (whole_of root) (entered_part sources [] (whole_of root)) more (omega arith) refl near in
    record { value = sym same.0; faults = sym same.1 }
