use Rattle.std.proofs.Common.{◌≡◌, ◌⊎◌, sym, ap, ◌∙◌, subst, List, ℕ}
use Rattle.std.specs.Prelude.{Err}
use Rattle.tm_resolve.specs.Resolution.{resolved_from}
use Rattle.tm_resolve.specs.Resolver.{resolver_models}
use Rattle.tm_resolve.specs.declared.fault.ResolveFault.TheVariants.{NoMemory}
use Rattle.tm_derive.specs.Kept.{given_of}
use Rattle.tm_derive.proofs.OneThing.{no_value_is}
use Rattle.tm_derive.proofs.making.resolved.Goals as goal

pub returns-in-Ok : goal.returns-in-Ok
returns-in-Ok c = ap (λ (u : List ℕ). resolved_from (resolver_models c.args.common.now.resolver) u) (sym c.as_str.ensures) ∙ c.in-Ok.ensures.ok

pub returns-in-Err : goal.returns-in-Err
returns-in-Err c =
    no_value_is (given_of c.args.common.now) c.args.place.now c.no_value.result c.in-Err.fault c.no_value.ensures.memory c.no_value.ensures.fault
    (subst (λ (u : List ℕ). (c.in-Err.fault ≡ NoMemory) ⊎ (resolved_from (resolver_models c.args.common.now.resolver) u ≡ Err c.in-Err.fault)) c.as_str.ensures c.in-Err.ensures.fault)
