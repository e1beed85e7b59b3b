use Rattle.std.proofs.Common.{◌≡◌, ◌∙◌, ◌⊎◌, List, ℕ, refl, ap, sym, subst}
use Rattle.std.specs.Prelude.{Err}
use Rattle.tm_derive.specs.Derivation.{derived}
use Rattle.tm_derive.specs.declared.fault.DeriveFault.TheVariants.{NoMemory}
use Rattle.command_stages.specs.Deriving.{Derives, is_derived}
use Rattle.command_stages.proofs.StageLaws.{goes_quietly}
use Rattle.command_stages.proofs.ModelStages.{refused_ends}
use Rattle.command_stages.proofs.derivation.derive_things.Goals as goal

pub returns-in-Ok-clause-stage : goal.returns-in-Ok-clause-stage
returns-in-Ok-clause-stage c = λ a.
    let p = c.args.planned.now in
    let root = ap (λ (r : List ℕ). derived p.library p.plan.bindings p.plan.choices p.plan.frame r) (sym c.as_str-root.ensures) in
    goes_quietly (Derives p) a c.in-Ok.things (is_derived c.in-Ok.things (root ∙ c.in-Ok.ensures.ok) refl refl)

pub returns-in-Err-clause-stage : goal.returns-in-Err-clause-stage
returns-in-Err-clause-stage c = λ a.
    let p = c.args.planned.now in
    refused_ends p a c.refused.result c.in-Err.fault c.end_with.result c.refused.ensures.line c.refused.ensures.known c.end_with.ensures
    (subst (λ (r : List ℕ). (c.in-Err.fault ≡ NoMemory) ⊎ (derived p.library p.plan.bindings p.plan.choices p.plan.frame r ≡ Err c.in-Err.fault)) c.as_str-root.ensures c.in-Err.ensures.fault)
