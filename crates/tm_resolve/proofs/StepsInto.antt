-- Steps into targets.
use Rattle.std.proofs.Common.{◌≡◌, ◌≢◌, ℕ, zero, suc, ◌+◌, ◌-◌, ◌<◌, ◌≤◌, List, [], ◌∷◌, ◌++◌, length, Bool, true, false, refl, sym, ap, subst, ◌∙◌, arith, length-append, cond}
use Rattle.std.specs.Prelude.{◌==◌, Option, Some, None, Result, Ok}
use Rattle.std.proofs.lemmas.Bool.Decides.{nat_tests}
use Rattle.wot_json.specs.Tree.{Json, null}
use Rattle.wot_json.specs.Meaning.{json_of}
use Rattle.wot_json.specs.Pointer.{part_of}
use Rattle.wot_json.specs.declared.tree.Tree.{Tree}
use Rattle.tm_parts.specs.References.{reference}
use Rattle.tm_parts.specs.Sources.{Sources, source_named}
use Rattle.tm_parts.specs.declared.reference.Reference.{Reference}
use Rattle.tm_parts.specs.declared.substitution.PartFault.{PartFault}
use Rattle.tm_resolve.specs.Chain.{is_in_chain}
use Rattle.tm_resolve.specs.Links.{extensions}
use Rattle.tm_resolve.specs.Value.{part_value, extended_value, target_value, value_within}
use Rattle.tm_resolve.specs.Faults.{Steps, fault_at, part_faults, extension_faults, target_faults, model_faults, step_faults, faults_within}
use Rattle.tm_resolve.specs.Walking.{steps_from, Gives, IsRefusal}
use Rattle.tm_resolve.specs.Weight.{most_entries, entered_part, is_whole}
use Rattle.tm_resolve.specs.declared.fault.ResolveFault.{ResolveFault}
use Rattle.tm_resolve.specs.declared.fault.ResolveKind.TheVariants.{MissingNode, Circular}
use Rattle.tm_resolve.proofs.Falls.{model_parts, entered_parts}
use Rattle.tm_resolve.proofs.Outcomes.{refused_before}

-- ---- whether a step can be made

-- the statement on a step, for all faults inside
abbrev pub StepFaults : Sources → Reference → List Reference → Reference → (Json → List ResolveFault) → List ResolveFault
StepFaults sources from chain target inside = step_faults inside from chain target (source_named target.url sources)

-- a step whose target isn't in the chain
new_target : (sources : Sources) (from : Reference) (chain : List Reference) (target : Reference) (source : Result Json PartFault) → source_named target.url sources ≡ Some source → is_in_chain target chain ≡ false
    → (inside : Json → List ResolveFault) → StepFaults sources from chain target inside ≡ model_faults inside from target source
new_target sources from chain target source found new inside =
    ap (λ (s : Option (Result Json PartFault)). step_faults inside from chain target s) found ∙ ap (λ (b : Bool). cond b (fault_at Circular from ∷ []) (model_faults inside from target source)) new

-- a part that is there has the faults inside alone
pub there : (sources : Sources) (from : Reference) (chain : List Reference) (target : Reference) (whole part : Json) → source_named target.url sources ≡ Some (Ok whole) → is_in_chain target chain ≡ false → part_of target.pointer whole ≡ Some part
    → (inside : Json → List ResolveFault) → StepFaults sources from chain target inside ≡ inside part
there sources from chain target whole part found new some inside =
    new_target sources from chain target (Ok whole) found new inside
    ∙ ap (λ (p : Option Json). elim p as (λ _. List ResolveFault) [ None ↦ fault_at MissingNode from ∷ [] | Some v ↦ inside v ]) some

-- a part that is entered is there
pub entered_there : (sources : Sources) (from : Reference) (chain : List Reference) (target : Reference) (part : Json) → entered_part sources chain target ≡ Some part
    → (inside : Json → List ResolveFault) → StepFaults sources from chain target inside ≡ inside part
entered_there sources from chain target part enters inside =
    let parts = entered_parts sources chain target part enters in
    let model = model_parts sources chain target parts.0 parts.1 in
    there sources from chain target parts.0 part model.0 model.1 parts.2 inside

-- ---- a step, where the chain has room and where it hasn't

-- a refusal for all that comes inside is one at any room
pub refused_step : (room : ℕ) (sources : Sources) (from : Reference) (chain : List Reference) (target : Reference) (e : ResolveFault) → ((inside : Json → List ResolveFault) → IsRefusal e (StepFaults sources from chain target inside))
    → IsRefusal e (faults_within room sources from chain target)
refused_step zero sources from chain target e refused = refused (λ part. [])
refused_step (suc room) sources from chain target e refused = refused (target_faults (record { value = value_within room sources; faults = faults_within room sources }) (chain ++ target ∷ []) target)

-- a step beyond the room of a chain brings in nothing
pub step_past : (sources : Sources) (from : Reference) (chain : List Reference) (target : Reference) (part : Json) (t : Tree) → entered_part sources chain target ≡ Some part → most_entries ≤ length chain → json_of t ≡ null
    → Gives ((steps_from sources chain).value chain target) ((steps_from sources chain).faults from chain target) (Ok t)
step_past sources from chain target part t enters past is =
    let none_left : most_entries - length chain ≡ 0 = omega (arith, past) in (
      is ∙ sym (ap (λ (k : ℕ). value_within k sources chain target) none_left),
      ap (λ (k : ℕ). faults_within k sources from chain target) none_left ∙ entered_there sources from chain target part enters (λ v. []),
    )

-- a step within it gives what its part gives
pub step_into : (sources : Sources) (from : Reference) (chain longer : List Reference) (target : Reference) (part : Json) (r : Result Tree ResolveFault) → entered_part sources chain target ≡ Some part → length chain < most_entries → longer ≡ chain ++ target ∷ []
    → Gives (target_value (steps_from sources longer).value longer target part) (target_faults (steps_from sources longer) longer target part) r
    → Gives ((steps_from sources chain).value chain target) ((steps_from sources chain).faults from chain target) r
step_into sources from chain longer target part r enters within is gives =
    let one_more : length (chain ++ target ∷ []) ≡ length chain + 1 = length-append chain (target ∷ []) in
    let room : most_entries - length chain ≡ suc (most_entries - length (chain ++ target ∷ [])) = omega (arith, one_more, within) in
    let value = ap (λ (k : ℕ). value_within k sources chain target) room
    ∙ ap (λ (o : Option Json). elim o as (λ _. Json) [ None ↦ null | Some v ↦ target_value (steps_from sources (chain ++ target ∷ [])).value (chain ++ target ∷ []) target v ]) enters in
    let faults = ap (λ (k : ℕ). faults_within k sources from chain target) room
    ∙ entered_there sources from chain target part enters (target_faults (steps_from sources (chain ++ target ∷ [])) (chain ++ target ∷ []) target) in
    subst (λ (v : Json). Gives v ((steps_from sources chain).faults from chain target) r) (sym value)
    (subst (λ (fs : List ResolveFault). Gives (target_value (steps_from sources (chain ++ target ∷ [])).value (chain ++ target ∷ []) target part) fs r) (sym faults)
    (subst (λ (es : List Reference). Gives (target_value (steps_from sources es).value es target part) (target_faults (steps_from sources es) es target part) r) is gives))

-- ---- whole models and parts of them

-- a pointer that isn't empty
some_pointer : (pointer : List ℕ) → pointer ≢ [] → (length pointer == 0) ≡ false
some_pointer [] some = absurd (some refl)
some_pointer (b ∷ bs) some = grind (arith, nat_tests)

-- a whole model gives the same as a target that is one
pub whole_gives : (steps : Steps) (chain : List Reference) (target : Reference) (part : Json) (r : Result Tree ResolveFault) → target.pointer ≡ []
    → Gives (extended_value steps.value target.url chain (extensions part) (part_value steps.value target.url chain part)) (extension_faults steps chain target.url (extensions part) ++ part_faults steps chain (reference target.url []) part) r
    → Gives (target_value steps.value chain target part) (target_faults steps chain target part) r
whole_gives steps chain target part r empty gives =
    let whole : is_whole target ≡ true = ap (λ (p : List ℕ). length p == 0) empty in
    let own : Json = part_value steps.value target.url chain part in
    subst (λ (b : Bool). Gives (cond b (extended_value steps.value target.url chain (extensions part) own) own) (cond b (extension_faults steps chain target.url (extensions part)) [] ++ part_faults steps chain target part) r) (sym whole)
    (subst (λ (p : List ℕ). Gives (extended_value steps.value target.url chain (extensions part) own) (extension_faults steps chain target.url (extensions part) ++ part_faults steps chain (reference target.url p) part) r) (sym empty) gives)

-- and so it is with a part of one
pub part_gives : (steps : Steps) (chain : List Reference) (target : Reference) (pointer : List ℕ) (part : Json) (r : Result Tree ResolveFault) → target.pointer ≢ [] → pointer ≡ target.pointer
    → Gives (part_value steps.value target.url chain part) (part_faults steps chain (reference target.url pointer) part) r
    → Gives (target_value steps.value chain target part) (target_faults steps chain target part) r
part_gives steps chain target pointer part r some same gives =
    let whole : is_whole target ≡ false = some_pointer target.pointer some in
    let own : Json = part_value steps.value target.url chain part in
    subst (λ (b : Bool). Gives (cond b (extended_value steps.value target.url chain (extensions part) own) own) (cond b (extension_faults steps chain target.url (extensions part)) [] ++ part_faults steps chain target part) r) (sym whole)
    (subst (λ (p : List ℕ). Gives own (part_faults steps chain (reference target.url p) part) r) same gives)

-- the only link to a model that is extended has the faults of the extension
pub extension_refused : (steps : Steps) (chain : List Reference) (url : List ℕ) (whole : Json) (link : ℕ × Json) (own : List ResolveFault) (e : ResolveFault) → extensions whole ≡ link ∷ []
    → IsRefusal e (extension_faults steps chain url (link ∷ [])) → IsRefusal e (extension_faults steps chain url (extensions whole) ++ own)
extension_refused steps chain url whole link own e is refused =
    subst (λ (links : List (ℕ × Json)). IsRefusal e (extension_faults steps chain url links ++ own)) (sym is) (refused_before e (extension_faults steps chain url (link ∷ [])) own refused)
