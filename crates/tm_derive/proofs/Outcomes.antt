-- Refusals, put together from those of parts.
use Rattle.std.proofs.Common.{◌≡◌, ◌⊎◌, List, [], ◌∷◌, ◌++◌, sym, ap, subst, inl, inr, ◌∙◌}
use Rattle.std.specs.Prelude.{Some}
use Rattle.tm_parts.specs.Placeholders.{first_of}
use Rattle.tm_derive.specs.Refusals.{IsRefusal}
use Rattle.tm_derive.specs.declared.fault.DeriveFault.{DeriveFault}
use Rattle.tm_derive.specs.declared.fault.DeriveFault.TheVariants.{NoMemory}

-- the first of some faults is the first of these and more
first_stays : (faults more : List DeriveFault) (e : DeriveFault) → first_of faults ≡ Some e → first_of (faults ++ more) ≡ Some e
first_stays [] more e is = absurd (cc)
first_stays (fault ∷ faults) more e is = is

-- a refusal by the first faults is one by all
pub refused_before : (e : DeriveFault) (faults more : List DeriveFault) → IsRefusal e faults → IsRefusal e (faults ++ more)
refused_before e faults more (inl memory) = inl memory
refused_before e faults more (inr first) = inr (first_stays faults more e first)

-- and so is one by later faults, where there are no earlier ones
pub refused_after : (e : DeriveFault) (faults more : List DeriveFault) → faults ≡ [] → IsRefusal e more → IsRefusal e (faults ++ more)
refused_after e faults more none refused = subst (λ (fs : List DeriveFault). IsRefusal e (fs ++ more)) (sym none) refused

-- no faults, and then none
pub none_then_none : (faults more : List DeriveFault) → faults ≡ [] → more ≡ [] → faults ++ more ≡ []
none_then_none faults more none no_more = ap (λ (fs : List DeriveFault). fs ++ more) none ∙ no_more

-- a refusal by the only fault
pub refused_by : (e fault : DeriveFault) (faults : List DeriveFault) → faults ≡ fault ∷ [] → (e ≡ NoMemory) ⊎ (e ≡ fault) → IsRefusal e faults
refused_by e fault faults sole (inl memory) = inl memory
refused_by e fault faults sole (inr same) = inr (ap (λ (fs : List DeriveFault). first_of fs) sole ∙ ap (λ (f : DeriveFault). Some f) (sym same))

-- a refusal by the first of several
pub refused_first : (e fault : DeriveFault) (faults more : List DeriveFault) → faults ≡ fault ∷ more → (e ≡ NoMemory) ⊎ (e ≡ fault) → IsRefusal e faults
refused_first e fault faults more are (inl memory) = inl memory
refused_first e fault faults more are (inr same) = inr (ap (λ (fs : List DeriveFault). first_of fs) are ∙ ap (λ (f : DeriveFault). Some f) (sym same))

-- a refusal by faults that are these
pub refused_same : (e : DeriveFault) (faults same : List DeriveFault) → faults ≡ same → IsRefusal e same → IsRefusal e faults
refused_same e faults same is refused = subst (λ (fs : List DeriveFault). IsRefusal e fs) (sym is) refused
