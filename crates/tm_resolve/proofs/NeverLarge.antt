-- No fault of a part says that a model is too large.
use Rattle.std.proofs.Common.{◌≡◌, ℕ, zero, suc, ◌+◌, List, [], ◌∷◌, ◌++◌, Bool, true, false, refl, sym, ap, ◌∙◌, inl, inr, cond}
use Rattle.std.specs.Prelude.{◌↔◌, Option, Some, None, Result, Ok, Err}
use Rattle.std.specs.List.{list_all}
use Rattle.std.specs.Str.{bytes_eq}
use Rattle.std.proofs.lemmas.Bool.{true≢false, cases_Bool, and_from}
use Rattle.std.proofs.lemmas.List.Folds.{list_all-append}
use Rattle.wot_json.specs.Tree.{Json, null, boolean, integer, string, array, object, Elements, no_elements, element, Members, no_members, member}
use Rattle.wot_json.specs.Lookup.{member_list, member_named}
use Rattle.wot_json.specs.Places.{step_text, element_step_text}
use Rattle.wot_json.specs.Pointer.{part_of}
use Rattle.tm_parts.specs.Library.{Models}
use Rattle.tm_parts.specs.Sources.{Sources, sources_of, source_named}
use Rattle.tm_parts.specs.Substitution.{Values}
use Rattle.tm_parts.specs.declared.reference.Reference.{Reference}
use Rattle.tm_parts.specs.declared.substitution.PartFault.{PartFault}
use Rattle.tm_parts.specs.declared.substitution.PartFault.TheVariants as part
use Rattle.tm_resolve.specs.Chain.{is_in_chain, whole_of}
use Rattle.tm_resolve.specs.Links.{reference_name, reference_of, extensions, linked_model}
use Rattle.tm_resolve.specs.Value.{value_within}
use Rattle.tm_resolve.specs.Faults.{Steps, fault_at, fault_in, part_below, is_object, import_faults, reference_faults, part_faults, element_faults, member_faults, extension_faults, target_faults, model_faults, step_faults, faults_within}
use Rattle.tm_resolve.specs.Resolution.{root_value, root_faults, value_or_fault, resolved_model}
use Rattle.tm_resolve.specs.Weight.{most_entries, is_whole, expansion, is_too_large}
use Rattle.tm_resolve.specs.declared.fault.ResolveFault.{ResolveFault}
use Rattle.tm_resolve.specs.declared.fault.ResolveFault.TheVariants.{At, NoMemory}
use Rattle.tm_resolve.specs.declared.fault.ResolveKind.{ResolveKind}
use Rattle.tm_resolve.specs.declared.fault.ResolveKind.TheVariants as kind

-- a kind of fault that a part may have
abbrev pub is_of_part : ResolveKind → Bool
is_of_part kind.TooLarge = false
is_of_part kind.BadRef = true
is_of_part kind.BadHref = true
is_of_part kind.MissingModel = true
is_of_part kind.MissingNode = true
is_of_part kind.NotObject = true
is_of_part kind.Circular = true
is_of_part kind.TwoExtends = true
is_of_part kind.NotText = true
is_of_part kind.InName = true

abbrev pub is_part_fault : ResolveFault → Bool
is_part_fault (At k url place) = is_of_part k
is_part_fault NoMemory = true

-- all of these are such faults
abbrev pub OfParts : List ResolveFault → Type 0
OfParts faults = list_all is_part_fault faults ≡ true

both : (faults more : List ResolveFault) → OfParts faults → OfParts more → OfParts (faults ++ more)
both faults more these those = list_all-append is_part_fault faults more ∙ and_from (list_all is_part_fault faults) (list_all is_part_fault more) these those

either : (b : Bool) (faults others : List ResolveFault) → OfParts faults → OfParts others → OfParts (cond b faults others)
either true faults others these those = these
either false faults others these those = those

-- steps that have such faults alone
abbrev pub StepsOfParts : Steps → Type 0
StepsOfParts steps = (from : Reference) → (chain : List Reference) → (target : Reference) → OfParts (steps.faults from chain target)

in_imports : (from : Reference) (value : Json) (faults : List ResolveFault) → OfParts faults → OfParts (import_faults from value faults)
in_imports from value [] these = either (is_object value) [] (fault_at kind.NotObject from ∷ []) refl refl
in_imports from value (fault ∷ faults) these = these

in_target : (steps : Steps) (chain : List Reference) (from : Reference) (target : Option Reference) → StepsOfParts steps
    → OfParts (elim target as (λ _. List ResolveFault) [ None ↦ fault_at kind.BadRef from ∷ [] | Some t ↦ import_faults from (steps.value chain t) (steps.faults from chain t) ])
in_target steps chain from None all = refl
in_target steps chain from (Some target) all = in_imports from (steps.value chain target) (steps.faults from chain target) (all from chain target)

in_reference : (steps : Steps) (chain : List Reference) (from : Reference) (value : Option Json) → StepsOfParts steps → OfParts (reference_faults steps chain from value)
in_reference steps chain from None all = refl
in_reference steps chain from (Some value) all = in_target steps chain from (reference_of from.url value) all

mutual
  in_part : (steps : Steps) (chain : List Reference) (from : Reference) (v : Json) → StepsOfParts steps → OfParts (part_faults steps chain from v)
  in_part steps chain from null all = refl
  in_part steps chain from (boolean b) all = refl
  in_part steps chain from (integer z) all = refl
  in_part steps chain from (string s) all = refl
  in_part steps chain from (array es) all = in_elements steps chain from 0 es all
  in_part steps chain from (object ms) all =
      both (reference_faults steps chain from (member_named reference_name (member_list ms))) (member_faults steps chain from ms)
      (in_reference steps chain from (member_named reference_name (member_list ms)) all) (in_members steps chain from ms all)

  in_elements : (steps : Steps) (chain : List Reference) (from : Reference) (index : ℕ) (es : Elements) → StepsOfParts steps → OfParts (element_faults steps chain from index es)
  in_elements steps chain from index no_elements all = refl
  in_elements steps chain from index (element v es) all =
      both (part_faults steps chain (part_below from (element_step_text index)) v) (element_faults steps chain from (index + 1) es)
      (in_part steps chain (part_below from (element_step_text index)) v all) (in_elements steps chain from (index + 1) es all)

  in_members : (steps : Steps) (chain : List Reference) (from : Reference) (ms : Members) → StepsOfParts steps → OfParts (member_faults steps chain from ms)
  in_members steps chain from no_members all = refl
  in_members steps chain from (member n v ms) all =
      either (bytes_eq n reference_name) (member_faults steps chain from ms) (part_faults steps chain (part_below from (step_text n)) v ++ member_faults steps chain from ms)
      (in_members steps chain from ms all)
      (both (part_faults steps chain (part_below from (step_text n)) v) (member_faults steps chain from ms) (in_part steps chain (part_below from (step_text n)) v all) (in_members steps chain from ms all))

in_link : (steps : Steps) (chain : List Reference) (url : List ℕ) (place : List ℕ) (from : Reference) (base : Option Reference) → StepsOfParts steps
    → OfParts (elim base as (λ _. List ResolveFault) [ None ↦ At kind.BadHref url place ∷ [] | Some b ↦ steps.faults from chain b ])
in_link steps chain url place from None all = refl
in_link steps chain url place from (Some base) all = all from chain base

in_extension : (steps : Steps) (chain : List Reference) (url : List ℕ) (links : List (ℕ × Json)) → StepsOfParts steps → OfParts (extension_faults steps chain url links)
in_extension steps chain url [] all = refl
in_extension steps chain url (link ∷ []) all = in_link steps chain url _ _ (linked_model url link.1) all
in_extension steps chain url (link ∷ next ∷ links) all = refl

in_inside : (steps : Steps) (chain : List Reference) (target : Reference) (part : Json) → StepsOfParts steps → OfParts (target_faults steps chain target part)
in_inside steps chain target part all =
    both (cond (is_whole target) (extension_faults steps chain target.url (extensions part)) []) (part_faults steps chain target part)
    (either (is_whole target) (extension_faults steps chain target.url (extensions part)) [] (in_extension steps chain target.url (extensions part) all) refl)
    (in_part steps chain target part all)

in_substitution : (url : List ℕ) (fault : PartFault) → OfParts (fault_in url fault ∷ [])
in_substitution url (part.InName pointer) = refl
in_substitution url (part.NotText name) = refl
in_substitution url part.NoMemory = refl

in_place : (inside : Json → List ResolveFault) (from : Reference) (found : Option Json) → ((v : Json) → OfParts (inside v)) → OfParts (elim found as (λ _. List ResolveFault) [ None ↦ fault_at kind.MissingNode from ∷ [] | Some v ↦ inside v ])
in_place inside from None all = refl
in_place inside from (Some v) all = all v

in_model : (inside : Json → List ResolveFault) (from target : Reference) (source : Result Json PartFault) → ((v : Json) → OfParts (inside v)) → OfParts (model_faults inside from target source)
in_model inside from target (Err fault) all = in_substitution target.url fault
in_model inside from target (Ok whole) all = in_place inside from (part_of target.pointer whole) all

in_step : (inside : Json → List ResolveFault) (from : Reference) (chain : List Reference) (target : Reference) (source : Option (Result Json PartFault)) → ((v : Json) → OfParts (inside v)) → OfParts (step_faults inside from chain target source)
in_step inside from chain target None all = refl
in_step inside from chain target (Some source) all = either (is_in_chain target chain) (fault_at kind.Circular from ∷ []) (model_faults inside from target source) refl (in_model inside from target source all)

in_steps : (room : ℕ) (sources : Sources) (from : Reference) (chain : List Reference) (target : Reference) → OfParts (faults_within room sources from chain target)
in_steps zero sources from chain target = in_step (λ v. []) from chain target (source_named target.url sources) (λ v. refl)
in_steps (suc room) sources from chain target =
    let steps : Steps = record { value = value_within room sources; faults = faults_within room sources } in
    in_step (target_faults steps (chain ++ target ∷ []) target) from chain target (source_named target.url sources)
    (λ v. in_inside steps (chain ++ target ∷ []) target v (λ place way to. in_steps room sources place way to))

-- faults of parts aren't that a model is too large
not_large : (value : Json) (faults : List ResolveFault) (url place : List ℕ) → OfParts faults → value_or_fault value faults ≡ Err (At kind.TooLarge url place) → ⊥
not_large value [] url place all is = absurd (cc)
not_large value (fault ∷ faults) url place all is =
    let same : fault ≡ At kind.TooLarge url place = cc in
    absurd (cc)

-- too large is the outcome exactly where the expansion is, of the root model and with the empty pointer
pub large_exactly : (models : Models) (values : Values) (root url place : List ℕ)
    → (resolved_model models values root ≡ Err (At kind.TooLarge url place)) ↔ ((is_too_large (expansion (sources_of models values) root) ≡ true) × (url ≡ root) × (place ≡ []))
large_exactly models values root url place =
    let sources = sources_of models values in
    let otherwise = value_or_fault (root_value sources root) (root_faults sources root) in
    elim (cases_Bool (is_too_large (expansion sources root))) as (λ _. (resolved_model models values root ≡ Err (At kind.TooLarge url place)) ↔ ((is_too_large (expansion sources root) ≡ true) × (url ≡ root) × (place ≡ []))) [
      | inl large ↦
          let is : resolved_model models values root ≡ Err (At kind.TooLarge root []) = ap (λ (b : Bool). cond b (Err (At kind.TooLarge root [])) otherwise) large in (
            λ same.
                let both_are : ◌≡◌ {A = Result Json ResolveFault} (Err (At kind.TooLarge root [])) (Err (At kind.TooLarge url place)) = sym is ∙ same in
                (large, cc, cc),
            λ all. is ∙ (λ i. Err (At kind.TooLarge (sym all.1 i) (sym all.2 i))),
          )
      | inr within ↦
          let is : resolved_model models values root ≡ otherwise = ap (λ (b : Bool). cond b (Err (At kind.TooLarge root [])) otherwise) within in (
            λ same. absurd (not_large (root_value sources root) (root_faults sources root) url place (in_steps most_entries sources (whole_of root) [] (whole_of root)) (sym is ∙ same)),
            λ all. absurd (true≢false (sym all.0 ∙ within)),
          )
    ]
