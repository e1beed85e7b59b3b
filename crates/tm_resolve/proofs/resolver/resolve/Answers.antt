use Rattle.std.proofs.Common.{◌≡◌, ◌⊎◌, subst}
use Rattle.std.specs.Prelude.{Ok, Err, IfOk, IfErr}
use Rattle.wot_json.specs.Meaning.{json_of}
use Rattle.tm_parts.specs.Sources.{Sources}
use Rattle.tm_resolve.specs.Resolution.{resolved_from}
use Rattle.tm_resolve.specs.declared.fault.ResolveFault.TheVariants.{NoMemory}
use Rattle.tm_resolve.proofs.resolver.resolve.Goals as goal

pub returns-clause-ok : goal.returns-clause-ok
returns-clause-ok c =
    subst (λ (s : Sources). IfOk c.resolve.result (λ t. resolved_from s c.args.root.now ≡ Ok (json_of t))) c.in_ok-resolver.ensures c.resolve.ensures.ok

pub returns-clause-fault : goal.returns-clause-fault
returns-clause-fault c =
    subst (λ (s : Sources). IfErr c.resolve.result (λ e. (e ≡ NoMemory) ⊎ (resolved_from s c.args.root.now ≡ Err e))) c.in_ok-resolver.ensures c.resolve.ensures.fault
