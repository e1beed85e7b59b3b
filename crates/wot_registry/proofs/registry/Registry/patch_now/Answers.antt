use Rattle.std.proofs.Common.{ap}
use Rattle.std.proofs.lemmas.Result.{err_from_is_err_and}
use Rattle.wot_json.specs.Meaning.{json_of}
use Rattle.wot_registry.specs.Registry.{Registered}
use Rattle.wot_registry.proofs.CallLaws.{patch_refused}
use Rattle.wot_registry.proofs.registry.Registry.patch_now.Goals as goal

pub returns-in_err-may_replace-clause-fault : goal.returns-in_err-may_replace-clause-fault
returns-in_err-may_replace-clause-fault c =
    let p = err_from_is_err_and c.from_residual-in_err-may_replace.result c.from_residual-in_err-may_replace.ensures.1 in
    rw (p.1, p.2)
    (patch_refused c.args.id.now (json_of c.args.patch.now) (json_of c.in_ok-description.description) (json_of c.without_registration-kept.result) c.in_ok-ttl.ttl c.args.now
    c.self.inside.directory c.args.self.now c.in_ok-description.ensures.ok c.in_ok-ttl.ensures.ok c.without_registration-kept.ensures (ap (λ (r : Registered). r.contents) c.self.view_is)
    c.in_err-may_replace.field-0.0 c.in_err-may_replace.ensures.fault)
