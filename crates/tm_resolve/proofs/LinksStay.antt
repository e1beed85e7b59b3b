-- The links of a model that is resolved are its own.
use Rattle.std.proofs.Common.{◌≡◌, ℕ, zero, suc, List, [], ◌∷◌, ◌++◌, true, false, refl, sym, ap, subst, ◌∙◌, inl, inr}
use Rattle.std.specs.Prelude.{Option, Some, None, option_map, codes}
use Rattle.std.specs.Str.{bytes_eq}
use Rattle.std.proofs.lemmas.Bool.{cases_Bool}
use Rattle.std.proofs.lemmas.Slice.Eq.{bytes_eq-Decides}
use Rattle.wot_json.specs.Tree.{Json, null, boolean, integer, string, array, object, Elements, elements_of, Members, no_members, member, AreOrdered}
use Rattle.wot_json.specs.Cutting.{IsBeforeAll}
use Rattle.wot_json.specs.Lookup.{member_list, member_named}
use Rattle.wot_json.specs.Merge.{members_under, merged_members, merge, patched_member}
use Rattle.wot_json.proofs.EqualTrees.{listed_members_lem}
use Rattle.wot_json.proofs.MemberOrder.{before_others, rest_ordered, ordered_with}
use Rattle.wot_json.proofs.MergeLaws.{merged_ordered}
use Rattle.wot_json.proofs.MergeMembers.{named_merged}
use Rattle.tm_parts.specs.Sources.{Sources}
use Rattle.tm_parts.specs.declared.reference.Reference.{Reference}
use Rattle.tm_resolve.specs.Links.{reference_name, reference_of, extensions, linked_model, without_links}
use Rattle.tm_resolve.specs.OwnLinks.{PartsAreOrdered, LinksAreOwn}
use Rattle.tm_resolve.specs.Value.{ValueStep, reference_value, link_value, imported_value, part_value, elements_value, members_value, extended_value, target_value, value_within}
use Rattle.tm_resolve.specs.Weight.{is_whole, entered_part}
use Rattle.tm_resolve.proofs.Loops.{elements_mapped}

-- ---- the members of an object, each by its value

-- a name before all members is before all values
before_values : (step : ValueStep) (url : List ℕ) (chain : List Reference) (name : List ℕ) (ms : Members) → IsBeforeAll name (member_list ms) → IsBeforeAll name (member_list (members_value step url chain ms))
before_values step url chain name no_members before = tt
before_values step url chain name (member n v ms) before =
    let rest = before_values step url chain name ms before.1 in
    elim (cases_Bool (bytes_eq n reference_name)) [
      | inl same ↦ rw same rest
      | inr other ↦ rw other (before.0, rest)
    ]

values_ordered : (step : ValueStep) (url : List ℕ) (chain : List Reference) (ms : Members) → AreOrdered (member_list ms) → AreOrdered (member_list (members_value step url chain ms))
values_ordered step url chain no_members ordered = tt
values_ordered step url chain (member n v ms) ordered =
    let rest = values_ordered step url chain ms (rest_ordered (n, v) (member_list ms) ordered) in
    let before = before_values step url chain n ms (before_others (n, v) (member_list ms) ordered) in
    elim (cases_Bool (bytes_eq n reference_name)) [
      | inl same ↦ rw same rest
      | inr other ↦ rw other (ordered_with (n, part_value step url chain v) (member_list (members_value step url chain ms)) before rest)
    ]

-- a name that isn't `tm:ref` isn't one that is
not_reference : (name n : List ℕ) → bytes_eq name reference_name ≡ false → bytes_eq n reference_name ≡ true → bytes_eq name n ≡ false
not_reference name n other same = ap (λ (x : List ℕ). bytes_eq name x) ((bytes_eq-Decides n reference_name).0 same) ∙ other

-- the value under a name is that of the member
named_value : (step : ValueStep) (url : List ℕ) (chain : List Reference) (name : List ℕ) (ms : Members) → bytes_eq name reference_name ≡ false
    → member_named name (member_list (members_value step url chain ms)) ≡ option_map (part_value step url chain) (member_named name (member_list ms))
named_value step url chain name no_members other = refl
named_value step url chain name (member n v ms) other =
    let rest = named_value step url chain name ms other in
    elim (cases_Bool (bytes_eq n reference_name)) [
      | inl same ↦ rw same (rw (not_reference name n other same) rest)
      | inr differs ↦ rw differs (elim (cases_Bool (bytes_eq name n)) [ inl here ↦ rw here refl | inr there ↦ rw there rest ])
    ]

-- ---- merges

-- a list of the patch is that of the result
patched : (target : Json) (changes : Members) (es : Elements) → AreOrdered (member_list changes) → member_named (codes "links") (member_list changes) ≡ Some (array es)
    → member_named (codes "links") (members_under (merge target (object changes))) ≡ Some (array es)
patched target changes es ordered is =
    ap (λ (ms : List (List ℕ × Json)). member_named (codes "links") ms) (listed_members_lem (merged_members (members_under target) changes))
    ∙ named_merged (codes "links") (members_under target) changes ordered
    ∙ ap (λ (o : Option Json). patched_member (member_named (codes "links") (members_under target)) o) is

merge_ordered : (target : Json) (changes : Members) → AreOrdered (members_under target) → AreOrdered (members_under (merge target (object changes)))
merge_ordered target changes ordered =
    subst (λ (ms : List (List ℕ × Json)). AreOrdered ms) (sym (listed_members_lem (merged_members (members_under target) changes))) (merged_ordered (members_under target) changes ordered)

-- ---- a part

-- steps that give values with members in order
abbrev StepIsOrdered : ValueStep → Type 0
StepIsOrdered step = (chain : List Reference) → (target : Reference) → AreOrdered (members_under (step chain target))

led_ordered : (step : ValueStep) (chain : List Reference) (target : Option Reference) → StepIsOrdered step → AreOrdered (members_under (elim target as (λ _. Json) [ None ↦ null | Some t ↦ step chain t ]))
led_ordered step chain None all = tt
led_ordered step chain (Some target) all = all chain target

imported_ordered : (step : ValueStep) (url : List ℕ) (chain : List Reference) (reference : Option Json) (ms : Members) → StepIsOrdered step → AreOrdered (member_list ms)
    → AreOrdered (members_under (imported_value step url chain reference (object (members_value step url chain ms))))
imported_ordered step url chain None ms all ordered = values_ordered step url chain ms ordered
imported_ordered step url chain (Some reference) ms all ordered =
    merge_ordered (reference_value step url chain reference) (members_value step url chain ms) (led_ordered step chain (reference_of url reference) all)

part_ordered : (step : ValueStep) (url : List ℕ) (chain : List Reference) (v : Json) → StepIsOrdered step → AreOrdered (members_under v) → AreOrdered (members_under (part_value step url chain v))
part_ordered step url chain null all ordered = tt
part_ordered step url chain (boolean b) all ordered = tt
part_ordered step url chain (integer z) all ordered = tt
part_ordered step url chain (string s) all ordered = tt
part_ordered step url chain (array es) all ordered = tt
part_ordered step url chain (object ms) all ordered = imported_ordered step url chain (member_named reference_name (member_list ms)) ms all ordered

imported_links : (step : ValueStep) (url : List ℕ) (chain : List Reference) (reference : Option Json) (ms : Members) (es : Elements) → AreOrdered (member_list ms) → member_named (codes "links") (member_list ms) ≡ Some (array es)
    → member_named (codes "links") (members_under (imported_value step url chain reference (object (members_value step url chain ms)))) ≡ Some (array (elements_value step url chain es))
imported_links step url chain None ms es ordered is = named_value step url chain (codes "links") ms refl ∙ ap (λ (o : Option Json). option_map (part_value step url chain) o) is
imported_links step url chain (Some reference) ms es ordered is =
    patched (reference_value step url chain reference) (members_value step url chain ms) (elements_value step url chain es) (values_ordered step url chain ms ordered)
    (named_value step url chain (codes "links") ms refl ∙ ap (λ (o : Option Json). option_map (part_value step url chain) o) is)

part_links : (step : ValueStep) (url : List ℕ) (chain : List Reference) (v : Json) (es : Elements) → AreOrdered (members_under v) → member_named (codes "links") (members_under v) ≡ Some (array es)
    → member_named (codes "links") (members_under (part_value step url chain v)) ≡ Some (array (elements_value step url chain es))
part_links step url chain null es ordered is = absurd (cc)
part_links step url chain (boolean b) es ordered is = absurd (cc)
part_links step url chain (integer z) es ordered is = absurd (cc)
part_links step url chain (string s) es ordered is = absurd (cc)
part_links step url chain (array fs) es ordered is = absurd (cc)
part_links step url chain (object ms) es ordered is = imported_links step url chain (member_named reference_name (member_list ms)) ms es ordered is

-- ---- an extension

base_patched : (base own : Json) (es : Elements) → AreOrdered (members_under own) → member_named (codes "links") (members_under own) ≡ Some (array es) → member_named (codes "links") (members_under (merge base own)) ≡ Some (array es)
base_patched base null es ordered is = absurd (cc)
base_patched base (boolean b) es ordered is = absurd (cc)
base_patched base (integer z) es ordered is = absurd (cc)
base_patched base (string s) es ordered is = absurd (cc)
base_patched base (array fs) es ordered is = absurd (cc)
base_patched base (object ms) es ordered is = patched base ms es ordered is

extended_links : (step : ValueStep) (url : List ℕ) (chain : List Reference) (links : List (ℕ × Json)) (own : Json) (es : Elements) → AreOrdered (members_under own) → member_named (codes "links") (members_under own) ≡ Some (array es)
    → member_named (codes "links") (members_under (extended_value step url chain links own)) ≡ Some (array es)
extended_links step url chain [] own es ordered is = is
extended_links step url chain (link ∷ []) own es ordered is = base_patched (without_links (link_value step url chain link.1)) own es ordered is
extended_links step url chain (link ∷ next ∷ links) own es ordered is = is

base_ordered : (base own : Json) → AreOrdered (members_under base) → AreOrdered (members_under own) → AreOrdered (members_under (merge base own))
base_ordered base null before ordered = tt
base_ordered base (boolean b) before ordered = tt
base_ordered base (integer z) before ordered = tt
base_ordered base (string s) before ordered = tt
base_ordered base (array es) before ordered = tt
base_ordered base (object ms) before ordered = merge_ordered base ms before

-- to take the links away is to merge with null under their name
without_ordered : (model : Json) → AreOrdered (members_under model) → AreOrdered (members_under (without_links model))
without_ordered model ordered = merge_ordered model (member (codes "links") null no_members) ordered

extended_ordered : (step : ValueStep) (url : List ℕ) (chain : List Reference) (links : List (ℕ × Json)) (own : Json) → StepIsOrdered step → AreOrdered (members_under own) → AreOrdered (members_under (extended_value step url chain links own))
extended_ordered step url chain [] own all ordered = ordered
extended_ordered step url chain (link ∷ []) own all ordered =
    base_ordered (without_links (link_value step url chain link.1)) own (without_ordered (link_value step url chain link.1) (led_ordered step chain (linked_model url link.1) all)) ordered
extended_ordered step url chain (link ∷ next ∷ links) own all ordered = ordered

-- ---- a target

target_ordered : (step : ValueStep) (chain : List Reference) (target : Reference) (part : Json) → StepIsOrdered step → AreOrdered (members_under part) → AreOrdered (members_under (target_value step chain target part))
target_ordered step chain target part all ordered =
    let own = part_ordered step target.url chain part all ordered in
    elim (cases_Bool (is_whole target)) [
      | inl whole ↦ rw whole (extended_ordered step target.url chain (extensions part) (part_value step target.url chain part) all own)
      | inr other ↦ rw other own
    ]

target_links : (step : ValueStep) (chain : List Reference) (target : Reference) (part : Json) (es : Elements) → StepIsOrdered step → AreOrdered (members_under part) → member_named (codes "links") (members_under part) ≡ Some (array es)
    → member_named (codes "links") (members_under (target_value step chain target part)) ≡ Some (array (elements_value step target.url chain es))
target_links step chain target part es all ordered is =
    let own = part_links step target.url chain part es ordered is in
    elim (cases_Bool (is_whole target)) [
      | inl whole ↦ rw whole (extended_links step target.url chain (extensions part) (part_value step target.url chain part) (elements_value step target.url chain es) (part_ordered step target.url chain part all ordered) own)
      | inr other ↦ rw other own
    ]

entry_ordered : (room : ℕ) (sources : Sources) (chain : List Reference) (target : Reference) (e : Option Json) → PartsAreOrdered sources → entered_part sources chain target ≡ e → StepIsOrdered (value_within room sources)
    → AreOrdered (members_under (elim e as (λ _. Json) [ None ↦ null | Some part ↦ target_value (value_within room sources) (chain ++ target ∷ []) target part ]))
entry_ordered room sources chain target None parts is all = tt
entry_ordered room sources chain target (Some part) parts is all = target_ordered (value_within room sources) (chain ++ target ∷ []) target part all (parts chain target part is)

values_within_ordered : (room : ℕ) (sources : Sources) → PartsAreOrdered sources → StepIsOrdered (value_within room sources)
values_within_ordered zero sources parts chain target = tt
values_within_ordered (suc room) sources parts chain target =
    entry_ordered room sources chain target (entered_part sources chain target) parts refl (λ way to. values_within_ordered room sources parts way to)

pub links_stay : (sources : Sources) → PartsAreOrdered sources → (room : ℕ) → (chain : List Reference) → (target : Reference) → LinksAreOwn sources room chain target
links_stay sources parts room chain target part links enters is =
    let step : ValueStep = value_within room sources in
    let longer : List Reference = chain ++ target ∷ [] in
    ap (λ (o : Option Json). member_named (codes "links") (members_under (elim o as (λ _. Json) [ None ↦ null | Some v ↦ target_value step longer target v ]))) enters
    ∙ target_links step longer target part (elements_of links) (values_within_ordered room sources parts) (parts chain target part enters) is
    ∙ ap (λ (es : Elements). Some (array es)) (sym (elements_mapped step target.url longer links))
