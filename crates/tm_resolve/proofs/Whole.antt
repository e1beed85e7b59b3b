-- The outcome of a whole model, by what the code finds.
use Rattle.std.proofs.Common.{◌≡◌, ◌⊎◌, ℕ, List, [], Bool, true, false, sym, ap, subst, inl, inr, ◌∙◌, cond}
use Rattle.std.specs.Prelude.{Option, Some, None, Result, Ok, Err, IfOk, IfErr}
use Rattle.wot_json.specs.Tree.{Json}
use Rattle.wot_json.specs.Meaning.{json_of}
use Rattle.wot_json.specs.declared.tree.Tree.{Tree}
use Rattle.tm_parts.specs.Sources.{Sources}
use Rattle.tm_parts.specs.References.{reference}
use Rattle.tm_parts.specs.declared.reference.Reference.{Reference}
use Rattle.tm_resolve.specs.Resolution.{value_or_fault, root_value, root_faults, resolved_from}
use Rattle.tm_resolve.specs.Walking.{steps_from, Gives, IsRefusal}
use Rattle.tm_resolve.specs.Weight.{most_entries, visits_within, is_too_large, expansion}
use Rattle.tm_resolve.specs.declared.weight.Role.TheVariants.{Thing}
use Rattle.tm_resolve.specs.declared.fault.ResolveFault.{ResolveFault}
use Rattle.tm_resolve.specs.declared.fault.ResolveFault.TheVariants.{At, NoMemory}
use Rattle.tm_resolve.specs.declared.fault.ResolveKind.TheVariants.{TooLarge}

-- the size of the expansion, of the target that the code has
as_expanded : (s : Sources) (root url pointer : List ℕ) (large : Bool) → url ≡ root → pointer ≡ []
    → large ≡ is_too_large (visits_within most_entries s Thing 0 [] (reference url pointer)) → is_too_large (expansion s root) ≡ large
as_expanded s root url pointer large named empty is =
    sym (is
    ∙ ap (λ (u : List ℕ). is_too_large (visits_within most_entries s Thing 0 [] (reference u pointer))) named
    ∙ ap (λ (p : List ℕ). is_too_large (visits_within most_entries s Thing 0 [] (reference root p))) empty)

-- the result for a model that isn't too large
abbrev otherwise : Sources → List ℕ → Result Json ResolveFault
otherwise s root = value_or_fault (root_value s root) (root_faults s root)

by_size : (s : Sources) (root : List ℕ) (large : Bool) → is_too_large (expansion s root) ≡ large → resolved_from s root ≡ cond large (Err (At TooLarge root [])) (otherwise s root)
by_size s root large is = ap (λ (b : Bool). cond b (Err (At TooLarge root [])) (otherwise s root)) is

-- a model that is too large
pub large_model : (s : Sources) (root url pointer : List ℕ) (large : Bool) (e : ResolveFault) → url ≡ root → pointer ≡ []
    → large ≡ is_too_large (visits_within most_entries s Thing 0 [] (reference url pointer)) → large ≡ true → (e ≡ NoMemory) ⊎ (e ≡ At TooLarge root []) → (e ≡ NoMemory) ⊎ (resolved_from s root ≡ Err e)
large_model s root url pointer large e named empty is too_large (inl memory) = inl memory
large_model s root url pointer large e named empty is too_large (inr at) =
    inr (by_size s root true (as_expanded s root url pointer large named empty is ∙ too_large) ∙ ap (λ (f : ResolveFault). Err f) (sym at))

-- the result of the first step, of the target that the code has
as_stepped : (s : Sources) (root url pointer : List ℕ) (chain : List Reference) (r : Result Tree ResolveFault) → url ≡ root → pointer ≡ [] → chain ≡ []
    → Gives ((steps_from s chain).value chain (reference url pointer)) ((steps_from s chain).faults (reference root []) chain (reference url pointer)) r → Gives (root_value s root) (root_faults s root) r
as_stepped s root url pointer chain r named empty none gives =
    subst (λ (p : List ℕ). Gives ((steps_from s []).value [] (reference root p)) ((steps_from s []).faults (reference root []) [] (reference root p)) r) empty
    (subst (λ (u : List ℕ). Gives ((steps_from s []).value [] (reference u pointer)) ((steps_from s []).faults (reference root []) [] (reference u pointer)) r) named
    (subst (λ (es : List Reference). Gives ((steps_from s es).value es (reference url pointer)) ((steps_from s es).faults (reference root []) es (reference url pointer)) r) none gives))

-- a value, and a refusal, of a model that isn't too large
ok_of : (s : Sources) (root : List ℕ) (r : Result Tree ResolveFault) → resolved_from s root ≡ otherwise s root → Gives (root_value s root) (root_faults s root) r → IfOk r (λ t. resolved_from s root ≡ Ok (json_of t))
ok_of s root (Ok t) is gives = is ∙ ap (λ (fs : List ResolveFault). value_or_fault (root_value s root) fs) gives.1 ∙ ap (λ (v : Json). Ok v) (sym gives.0)
ok_of s root (Err e) is gives = tt

refusal_of : (s : Sources) (root : List ℕ) (e : ResolveFault) → resolved_from s root ≡ otherwise s root → IsRefusal e (root_faults s root) → (e ≡ NoMemory) ⊎ (resolved_from s root ≡ Err e)
refusal_of s root e is (inl memory) = inl memory
refusal_of s root e is (inr first) =
    inr (is ∙ ap (λ (o : Option ResolveFault). elim o as (λ _. Result Json ResolveFault) [ None ↦ Ok (root_value s root) | Some fault ↦ Err fault ]) first)

fault_of : (s : Sources) (root : List ℕ) (r : Result Tree ResolveFault) → resolved_from s root ≡ otherwise s root → Gives (root_value s root) (root_faults s root) r → IfErr r (λ e. (e ≡ NoMemory) ⊎ (resolved_from s root ≡ Err e))
fault_of s root (Ok t) is gives = tt
fault_of s root (Err e) is gives = refusal_of s root e is gives

pub model_ok : (s : Sources) (root url pointer : List ℕ) (large : Bool) (chain : List Reference) (r : Result Tree ResolveFault) → url ≡ root → pointer ≡ []
    → large ≡ is_too_large (visits_within most_entries s Thing 0 [] (reference url pointer)) → large ≡ false → chain ≡ []
    → Gives ((steps_from s chain).value chain (reference url pointer)) ((steps_from s chain).faults (reference root []) chain (reference url pointer)) r → IfOk r (λ t. resolved_from s root ≡ Ok (json_of t))
model_ok s root url pointer large chain r named empty is not_large none gives =
    ok_of s root r (by_size s root false (as_expanded s root url pointer large named empty is ∙ not_large)) (as_stepped s root url pointer chain r named empty none gives)

pub model_fault : (s : Sources) (root url pointer : List ℕ) (large : Bool) (chain : List Reference) (r : Result Tree ResolveFault) → url ≡ root → pointer ≡ []
    → large ≡ is_too_large (visits_within most_entries s Thing 0 [] (reference url pointer)) → large ≡ false → chain ≡ []
    → Gives ((steps_from s chain).value chain (reference url pointer)) ((steps_from s chain).faults (reference root []) chain (reference url pointer)) r → IfErr r (λ e. (e ≡ NoMemory) ⊎ (resolved_from s root ≡ Err e))
model_fault s root url pointer large chain r named empty is not_large none gives =
    fault_of s root r (by_size s root false (as_expanded s root url pointer large named empty is ∙ not_large)) (as_stepped s root url pointer chain r named empty none gives)
