-- Counting visits, one list of them after another.
use Rattle.std.proofs.Common.{◌≡◌, ℕ, zero, suc, ◌+◌, ◌-◌, ◌<◌, ◌≤◌, List, [], ◌∷◌, ◌++◌, length, map, drop, get_or, true, false, refl, sym, ap, subst, inl, inr, ◌∙◌, arith, length-append}
use Rattle.std.proofs.lemmas.Bool.Decides.{nat_tests}
use Rattle.std.proofs.lemmas.List.{drop_all}
use Rattle.std.specs.Prelude.{◌||◌, Option, Some, None, Result, Ok, Err, nat_lt}
use Rattle.std.proofs.lemmas.List.Sums.{sum_by-cons, sum_by-append}
use Rattle.std.proofs.lemmas.List.Folds.{list_any-append}
use Rattle.std.proofs.lemmas.Bool.{or_from, or_left, or_right}
use Rattle.std.specs.List.{list_any, flat_map, sum_by}
use Rattle.wot_json.specs.Tree.{Json, array, object, Elements, elements_of, Members, members_of}
use Rattle.wot_json.specs.Lookup.{element_list, member_list, member_named}
use Rattle.wot_json.specs.Meaning.{json_items, json_member, json_members}
use Rattle.wot_json.specs.declared.tree.Tree.{Tree}
use Rattle.tm_parts.specs.Sources.{Sources}
use Rattle.tm_parts.specs.Substitution.{Values, substituted_value, substituted_elements, substituted_members}
use Rattle.tm_parts.specs.declared.reference.Reference.{Reference}
use Rattle.tm_resolve.specs.Links.{reference_name, links_under, extensions}
use Rattle.tm_resolve.specs.Weight.{Visit, Step, name_weight, own_weight, most_weight, most_entries, own_visit, reference_visits, part_visits, element_visits, member_visits, extension_visits, submodel_visits, links_visits, is_too_far, weight_of, is_too_large, entered_part, target_visits, visits_within}
use Rattle.tm_resolve.specs.Counting.{step_from, Spends, Weighs}
use Rattle.tm_resolve.specs.declared.weight.Role.{Role}
use Rattle.tm_resolve.specs.declared.weight.Role.TheVariants.{Thing}
use Rattle.tm_resolve.specs.declared.weight.Stop.{Stop}
use Rattle.tm_resolve.specs.declared.weight.Stop.TheVariants.{TooLarge, NoMemory}
use Rattle.tm_resolve.proofs.Loops.{left_at}
use Rattle.tm_resolve.proofs.SeenParts.{named_by}

weight_both : (vs ws : List Visit) → weight_of (vs ++ ws) ≡ weight_of vs + weight_of ws
weight_both vs ws = sum_by-append (λ (v : Visit). v.weight) vs ws

far_both : (vs ws : List Visit) → list_any is_too_far (vs ++ ws) ≡ (list_any is_too_far vs || list_any is_too_far ws)
far_both vs ws = list_any-append is_too_far vs ws

-- no visits take nothing
pub weighs_none : (left : ℕ) → Weighs [] left (Ok left)
weighs_none left = (omega arith, refl)

-- visits after visits that were counted
pub weighs_then : (vs ws : List Visit) (left mid : ℕ) (r : Result ℕ Stop) → Weighs vs left (Ok mid) → Weighs ws mid r → Weighs (vs ++ ws) left r
weighs_then vs ws left mid (Ok rest) first second =
    (omega (arith, weight_both vs ws, first.0, second.0), far_both vs ws ∙ or_from (list_any is_too_far vs) (list_any is_too_far ws) first.1 second.1)
weighs_then vs ws left mid (Err TooLarge) first (inl more) = inl (omega (arith, weight_both vs ws, first.0, more))
weighs_then vs ws left mid (Err TooLarge) first (inr far) = inr (far_both vs ws ∙ or_right (list_any is_too_far vs) (list_any is_too_far ws) far)
weighs_then vs ws left mid (Err NoMemory) first second = tt

-- where counting stops it stops for what comes after too
pub weighs_stop : (vs ws : List Visit) (left : ℕ) (stop : Stop) → Weighs vs left (Err stop) → Weighs (vs ++ ws) left (Err stop)
weighs_stop vs ws left TooLarge (inl more) = inl (omega (arith, weight_both vs ws, more))
weighs_stop vs ws left TooLarge (inr far) = inr (far_both vs ws ∙ or_left (list_any is_too_far vs) (list_any is_too_far ws) far)
weighs_stop vs ws left NoMemory stops = tt

-- visits before visits that were counted
pub weighs_before : (vs ws : List Visit) (left mid : ℕ) (r : Result ℕ Stop) → Weighs ws left (Ok mid) → Weighs vs mid r → Weighs (vs ++ ws) left r
weighs_before vs ws left mid (Ok rest) later first =
    (omega (arith, weight_both vs ws, first.0, later.0), far_both vs ws ∙ or_from (list_any is_too_far vs) (list_any is_too_far ws) first.1 later.1)
weighs_before vs ws left mid (Err TooLarge) later (inl more) = inl (omega (arith, weight_both vs ws, later.0, more))
weighs_before vs ws left mid (Err TooLarge) later (inr far) = inr (far_both vs ws ∙ or_left (list_any is_too_far vs) (list_any is_too_far ws) far)
weighs_before vs ws left mid (Err NoMemory) later first = tt

pub weighs_stop_before : (vs ws : List Visit) (left : ℕ) (stop : Stop) → Weighs ws left (Err stop) → Weighs (vs ++ ws) left (Err stop)
weighs_stop_before vs ws left TooLarge (inl more) = inl (omega (arith, weight_both vs ws, more))
weighs_stop_before vs ws left TooLarge (inr far) = inr (far_both vs ws ∙ or_right (list_any is_too_far vs) (list_any is_too_far ws) far)
weighs_stop_before vs ws left NoMemory stops = tt

-- ---- loops

-- counting says the same of all visits as of those that are left
abbrev pub CountsOn : List Visit → ℕ → List Visit → ℕ → Type 0
CountsOn all before rest left = (r : Result ℕ Stop) → Weighs rest left r → Weighs all before r

pub counts_more : (all : List Visit) (before : ℕ) (rest vs more : List Visit) (left mid : ℕ) → rest ≡ vs ++ more → CountsOn all before rest left → Weighs vs left (Ok mid) → CountsOn all before more mid
counts_more all before rest vs more left mid is so_far counted r weighs =
    so_far r (subst (λ (us : List Visit). Weighs us left r) (sym is) (weighs_then vs more left mid r counted weighs))

pub counts_stop : (all : List Visit) (before : ℕ) (rest vs more : List Visit) (left : ℕ) (stop : Stop) → rest ≡ vs ++ more → CountsOn all before rest left → Weighs vs left (Err stop) → Weighs all before (Err stop)
counts_stop all before rest vs more left stop is so_far stops =
    so_far (Err stop) (subst (λ (us : List Visit). Weighs us left (Err stop)) (sym is) (weighs_stop vs more left stop stops))

pub counts_end : (all : List Visit) (before : ℕ) (rest : List Visit) (left : ℕ) → rest ≡ [] → CountsOn all before rest left → Weighs all before (Ok left)
counts_end all before rest left is so_far = so_far (Ok left) (subst (λ (us : List Visit). Weighs us left (Ok left)) (sym is) (weighs_none left))

-- A loop that counts the visits of one thing after another, each by a chain that is left as it was: of the list, a part
-- of it was counted, and of the thing at the place now the visits are the first of what is left.
pub loop_more : {X : Type 0} (visits : List X → List Visit) (part : List Reference → X → List Visit) (chain es : List Reference) → ((x : X) (xs : List X) → visits (x ∷ xs) ≡ part chain x ++ visits xs)
    → (list : List X) (index : ℕ) (x : X) (before left mid : ℕ) → index < length list → x ≡ get_or list index x → es ≡ chain
    → CountsOn (visits list) before (visits (drop index list)) left → Weighs (part es x) left (Ok mid) → CountsOn (visits list) before (visits (drop (index + 1) list)) mid
loop_more {X} visits part chain es splits list index x before left mid within is at_chain so_far counted =
    counts_more (visits list) before (visits (drop index list)) (part chain x) (visits (drop (index + 1) list)) left mid
    (ap visits (left_at list index x within is) ∙ splits x (drop (index + 1) list)) so_far
    (subst (λ (c : List Reference). Weighs (part c x) left (Ok mid)) at_chain counted)

pub loop_stop : {X : Type 0} (visits : List X → List Visit) (part : List Reference → X → List Visit) (chain es : List Reference) → ((x : X) (xs : List X) → visits (x ∷ xs) ≡ part chain x ++ visits xs)
    → (list : List X) (index : ℕ) (x : X) (before left : ℕ) (stop : Stop) → index < length list → x ≡ get_or list index x → es ≡ chain
    → CountsOn (visits list) before (visits (drop index list)) left → Weighs (part es x) left (Err stop) → Weighs (visits list) before (Err stop)
loop_stop {X} visits part chain es splits list index x before left stop within is at_chain so_far stops =
    counts_stop (visits list) before (visits (drop index list)) (part chain x) (visits (drop (index + 1) list)) left stop
    (ap visits (left_at list index x within is) ∙ splits x (drop (index + 1) list)) so_far
    (subst (λ (c : List Reference). Weighs (part c x) left (Err stop)) at_chain stops)

pub loop_end : {X : Type 0} (visits : List X → List Visit) (list : List X) (index before left : ℕ) → visits [] ≡ [] → length list ≤ index
    → CountsOn (visits list) before (visits (drop index list)) left → Weighs (visits list) before (Ok left)
loop_end {X} visits list index before left none past so_far =
    counts_end (visits list) before (visits (drop index list)) left (ap visits (drop_all index list past) ∙ none) so_far

-- the visits of links, of the elements of a list and of the members of an object, by the code's
-- values and what they mean
abbrev pub submodels_list : (Tree → Json) → Sources → List ℕ → List Reference → List Tree → List Visit
submodels_list meaning sources url chain links = flat_map (submodel_visits (step_from sources chain) url chain) (map meaning links)

abbrev pub elements_list : (Tree → Json) → Sources → List ℕ → ℕ → List Reference → List Tree → List Visit
elements_list meaning sources url depth chain items = element_visits (step_from sources chain) url chain depth (elements_of (map meaning items))

abbrev pub members_list : (Tree → Json) → Sources → List ℕ → ℕ → List Reference → List (List ℕ × Tree) → List Visit
members_list meaning sources url depth chain members = member_visits (step_from sources chain) url chain depth (members_of (map (named_by meaning) members))

-- the names of members from a place on
pub names_left : (ms : List (List ℕ × Tree)) (index : ℕ) (m : List ℕ × Tree) → index < length ms → m ≡ get_or ms index m
    → sum_by name_weight (json_members (drop index ms)) ≡ name_weight (json_member m) + sum_by name_weight (json_members (drop (index + 1) ms))
names_left ms index m within is =
    ap (λ (ns : List (List ℕ × Tree)). sum_by name_weight (json_members ns)) (left_at ms index m within is)
    ∙ sum_by-cons name_weight (json_member m) (json_members (drop (index + 1) ms))

-- the rest after two amounts
spends_both : (first second left mid : ℕ) (rest : Option ℕ) → mid + first ≡ left → Spends second mid rest → Spends (first + second) left rest
spends_both first second left mid None is less = omega (arith, is, less)
spends_both first second left mid (Some n) is less = omega (arith, is, less)

-- as many elements are seen as there are
elements_counted : (values : Values) (ts : List Tree) → length (element_list (substituted_elements (elements_of (json_items ts)) values)) ≡ length ts
elements_counted values [] = refl
elements_counted values (t ∷ ts) = ap suc (elements_counted values ts)

-- names are as they are written
names_seen : (values : Values) (ms : List (List ℕ × Json)) → sum_by name_weight (member_list (substituted_members (members_of ms) values)) ≡ sum_by name_weight ms
names_seen values [] = refl
names_seen values (m ∷ ms) =
    sum_by-cons name_weight (m.0, substituted_value m.1 values) (member_list (substituted_members (members_of ms) values))
    ∙ ap (λ (n : ℕ). name_weight m + n) (names_seen values ms)
    ∙ sym (sum_by-cons name_weight m ms)

-- the rest after a list, and after an object
pub spends_list : (values : Values) (ts : List Tree) (left mid : ℕ) (rest : Option ℕ) → mid + 2 ≡ left → Spends (length ts) mid rest
    → Spends (own_weight (array (substituted_elements (elements_of (json_items ts)) values))) left rest
spends_list values ts left mid rest begins spends =
    subst (λ (n : ℕ). Spends (2 + n) left rest) (sym (elements_counted values ts)) (spends_both 2 (length ts) left mid rest begins spends)

pub spends_object : (values : Values) (ms ns : List (List ℕ × Json)) (left mid : ℕ) (rest : Option ℕ) → ns ≡ ms → mid + 2 ≡ left → Spends (sum_by name_weight ns) mid rest
    → Spends (own_weight (object (substituted_members (members_of ms) values))) left rest
spends_object values ms ns left mid rest same begins spends =
    subst (λ (n : ℕ). Spends (2 + n) left rest) (ap (λ (os : List (List ℕ × Json)). sum_by name_weight os) same ∙ sym (names_seen values ms))
    (spends_both 2 (sum_by name_weight ns) left mid rest begins spends)

-- ---- parts

-- a list: itself, and what is in it
pub list_part : (step : Step) (url : List ℕ) (chain : List Reference) (depth : ℕ) (v : Json) (es : Elements) (left mid : ℕ) (r : Result ℕ Stop) → array es ≡ v → Weighs (own_visit chain depth (array es) ∷ []) left (Ok mid)
    → Weighs (element_visits step url chain (depth + 1) es) mid r → Weighs (part_visits step url chain depth v) left r
list_part step url chain depth v es left mid r is own inside =
    subst (λ (w : Json). Weighs (part_visits step url chain depth w) left r) is
    (weighs_then (own_visit chain depth (array es) ∷ []) (element_visits step url chain (depth + 1) es) left mid r own inside)

-- an object: itself, and what it refers to and has in it
pub object_part : (step : Step) (url : List ℕ) (chain : List Reference) (depth : ℕ) (v : Json) (ms : Members) (left mid : ℕ) (r : Result ℕ Stop) → object ms ≡ v → Weighs (own_visit chain depth (object ms) ∷ []) left (Ok mid)
    → Weighs (reference_visits step url chain depth (member_named reference_name (member_list ms)) ++ member_visits step url chain (depth + 1) ms) mid r → Weighs (part_visits step url chain depth v) left r
object_part step url chain depth v ms left mid r is own inside =
    subst (λ (w : Json). Weighs (part_visits step url chain depth w) left r) is
    (weighs_then (own_visit chain depth (object ms) ∷ []) (reference_visits step url chain depth (member_named reference_name (member_list ms)) ++ member_visits step url chain (depth + 1) ms) left mid r own inside)

-- the target of an object may be counted after its members
pub object_counts : (sources : Sources) (url : List ℕ) (chain es : List Reference) (depth : ℕ) (found : Option Json) (ms : Members) (left mid : ℕ) (r : Result ℕ Stop) → es ≡ chain
    → Weighs (member_visits (step_from sources chain) url chain (depth + 1) ms) left (Ok mid) → Weighs (reference_visits (step_from sources es) url es depth found) mid r
    → Weighs (reference_visits (step_from sources chain) url chain depth found ++ member_visits (step_from sources chain) url chain (depth + 1) ms) left r
object_counts sources url chain es depth found ms left mid r at_chain first further =
    let here : Weighs (reference_visits (step_from sources chain) url chain depth found) mid r = subst (λ (cs : List Reference). Weighs (reference_visits (step_from sources cs) url cs depth found) mid r) at_chain further in
    weighs_before (reference_visits (step_from sources chain) url chain depth found) (member_visits (step_from sources chain) url chain (depth + 1) ms) left mid r first here

-- the links of the model of a Thing: the model that it extends, and its submodels
pub links_of_thing : (sources : Sources) (role : Role) (url : List ℕ) (chain es : List Reference) (whole : Json) (links : List Json) (left mid : ℕ) (r : Result ℕ Stop) → role ≡ Thing → links ≡ links_under whole → es ≡ chain
    → Weighs (extension_visits (step_from sources chain) url chain (extensions whole)) left (Ok mid) → Weighs (flat_map (submodel_visits (step_from sources es) url es) links) mid r
    → Weighs (links_visits (step_from sources chain) role url chain whole) left r
links_of_thing sources role url chain es whole links left mid r thing same at_chain first further =
    let here : Weighs (flat_map (submodel_visits (step_from sources chain) url chain) links) mid r = subst (λ (cs : List Reference). Weighs (flat_map (submodel_visits (step_from sources cs) url cs) links) mid r) at_chain further in
    let all : Weighs (flat_map (submodel_visits (step_from sources chain) url chain) (links_under whole)) mid r = subst (λ (vs : List Json). Weighs (flat_map (submodel_visits (step_from sources chain) url chain) vs) mid r) same here in
    subst (λ (b : Role). Weighs (links_visits (step_from sources chain) b url chain whole) left r) (sym thing)
    (weighs_then (extension_visits (step_from sources chain) url chain (extensions whole)) (flat_map (submodel_visits (step_from sources chain) url chain) (links_under whole)) left mid r first all)

-- ---- the limits

-- visits that leave something of the limit aren't too large, and others are
within_limits : (visits : List Visit) (rest : ℕ) → Weighs visits most_weight (Ok rest) → is_too_large visits ≡ false
within_limits visits rest weighs =
    let light : nat_lt most_weight (weight_of visits) ≡ false = grind (arith, nat_tests, weighs.0) in
    or_from (nat_lt most_weight (weight_of visits)) (list_any is_too_far visits) light weighs.1

beyond_limits : (visits : List Visit) → Weighs visits most_weight (Err TooLarge) → is_too_large visits ≡ true
beyond_limits visits (inl more) =
    let heavy : nat_lt most_weight (weight_of visits) ≡ true = grind (arith, nat_tests, more) in
    or_left (nat_lt most_weight (weight_of visits)) (list_any is_too_far visits) heavy
beyond_limits visits (inr far) = or_right (nat_lt most_weight (weight_of visits)) (list_any is_too_far visits) far

-- ---- a step

-- the visits of an option that is there, or isn't
seen_none : (room : ℕ) (sources : Sources) (role : Role) (depth : ℕ) (chain : List Reference) (target : Reference) → entered_part sources chain target ≡ None → visits_within room sources role depth chain target ≡ []
seen_none zero sources role depth chain target none = ap (λ (o : Option Json). elim o as (λ _. List Visit) [ None ↦ [] | Some part ↦ own_visit (chain ++ target ∷ []) depth part ∷ [] ]) none
seen_none (suc room) sources role depth chain target none = ap (λ (o : Option Json). elim o as (λ _. List Visit) [ None ↦ [] | Some part ↦ target_visits (visits_within room sources) role depth (chain ++ target ∷ []) target part ]) none

pub step_nowhere : (sources : Sources) (role : Role) (depth : ℕ) (chain : List Reference) (target : Reference) (left : ℕ) → entered_part sources chain target ≡ None → Weighs (step_from sources chain role depth chain target) left (Ok left)
step_nowhere sources role depth chain target left none =
    subst (λ (us : List Visit). Weighs us left (Ok left)) (sym (seen_none (most_entries - length chain) sources role depth chain target none)) (weighs_none left)

room_is : (room : ℕ) (n : ℕ) (sources : Sources) (role : Role) (depth : ℕ) (chain : List Reference) (target : Reference) → room ≡ n → visits_within room sources role depth chain target ≡ visits_within n sources role depth chain target
room_is room n sources role depth chain target is = ap (λ (k : ℕ). visits_within k sources role depth chain target) is

-- a step beyond the room of a chain
pub step_past : (sources : Sources) (role : Role) (depth : ℕ) (chain : List Reference) (target : Reference) (part : Json) (left : ℕ) → entered_part sources chain target ≡ Some part → most_entries ≤ length chain
    → Weighs (step_from sources chain role depth chain target) left (Err TooLarge)
step_past sources role depth chain target part left found past =
    let none_left : most_entries - length chain ≡ 0 = omega (arith, past) in
    let longer : length (chain ++ target ∷ []) ≡ length chain + 1 = length-append chain (target ∷ []) in
    let visits = room_is (most_entries - length chain) 0 sources role depth chain target none_left
    ∙ ap (λ (o : Option Json). elim o as (λ _. List Visit) [ None ↦ [] | Some v ↦ own_visit (chain ++ target ∷ []) depth v ∷ [] ]) found in
    let more : most_entries < length (chain ++ target ∷ []) = omega (arith, longer, past) in
    let far : nat_lt most_entries (length (chain ++ target ∷ [])) ≡ true = grind (arith, nat_tests, more) in
    inr (ap (λ (us : List Visit). list_any is_too_far us) visits ∙ or_left (is_too_far (own_visit (chain ++ target ∷ []) depth part)) false (or_right _ _ far))

-- a step within it
pub step_into : (sources : Sources) (role : Role) (depth : ℕ) (chain longer : List Reference) (target : Reference) (part : Json) (left : ℕ) (r : Result ℕ Stop) → entered_part sources chain target ≡ Some part → length chain < most_entries
    → longer ≡ chain ++ target ∷ [] → Weighs (target_visits (step_from sources longer) role depth longer target part) left r → Weighs (step_from sources chain role depth chain target) left r
step_into sources role depth chain longer target part left r found within is weighs =
    let one_more : length (chain ++ target ∷ []) ≡ length chain + 1 = length-append chain (target ∷ []) in
    let room : most_entries - length chain ≡ suc (most_entries - length (chain ++ target ∷ [])) = omega (arith, one_more, within) in
    let visits = room_is (most_entries - length chain) (suc (most_entries - length (chain ++ target ∷ []))) sources role depth chain target room
    ∙ ap (λ (o : Option Json). elim o as (λ _. List Visit) [ None ↦ [] | Some v ↦ target_visits (step_from sources (chain ++ target ∷ [])) role depth (chain ++ target ∷ []) target v ]) found in
    subst (λ (us : List Visit). Weighs us left r) (sym visits)
    (subst (λ (es : List Reference). Weighs (target_visits (step_from sources es) role depth es target part) left r) is weighs)

-- ---- the first step

pub first_within : (sources : Sources) (chain : List Reference) (target : Reference) (rest : ℕ) → chain ≡ [] → Weighs (step_from sources chain Thing 0 chain target) most_weight (Ok rest) → false ≡ is_too_large (visits_within most_entries sources Thing 0 [] target)
first_within sources chain target rest empty weighs =
    sym (within_limits (visits_within most_entries sources Thing 0 [] target) rest
    (subst (λ (es : List Reference). Weighs (step_from sources es Thing 0 es target) most_weight (Ok rest)) empty weighs))

pub first_beyond : (sources : Sources) (chain : List Reference) (target : Reference) → chain ≡ [] → Weighs (step_from sources chain Thing 0 chain target) most_weight (Err TooLarge) → true ≡ is_too_large (visits_within most_entries sources Thing 0 [] target)
first_beyond sources chain target empty weighs =
    sym (beyond_limits (visits_within most_entries sources Thing 0 [] target)
    (subst (λ (es : List Reference). Weighs (step_from sources es Thing 0 es target) most_weight (Err TooLarge)) empty weighs))
