use Rattle.std.proofs.Common.{refl, ap, subst}
use Rattle.servient_core.specs.Machine.{Site}
use Rattle.command_stages.specs.Stages.{goes_on}
use Rattle.thing_site.specs.Site.{expose_faults}
use Rattle.thing_site.specs.Exposing.{kinds_of}
use Rattle.servient_core.specs.declared.servient.OpenFault.{OpenFault}
use Rattle.servient_core.specs.Serving.{IsOpenFault}
use Rattle.servient_cli.specs.Opening.{Exposes, is_exposed, expose_memory}
use Rattle.command_stages.proofs.StageLaws.{ends_memory, goes_quietly}
use Rattle.servient_cli.proofs.OpeningStages.{misfit_ends}
use Rattle.servient_cli.proofs.opening.expose.Goals as goal

pub returns-in-Err-Expose-clause-stage : goal.returns-in-Err-Expose-clause-stage
returns-in-Err-Expose-clause-stage g c = λ a.
    let kinds = kinds_of (g.R.Handlers.slots c.args.rack.now) in
    let faults = expose_faults kinds c.args.plan.now.slots c.args.things in
    let arm = c.in-Err-Expose in
    misfit_ends c.args.name.now kinds c.args.plan.now c.args.things a c.misfit.result arm.fault c.end_with.result c.misfit.ensures.line c.misfit.ensures.known c.end_with.ensures
    (subst (λ (f : OpenFault). IsOpenFault faults f) arm.field-0-is arm.ensures.fault)

pub returns-in-Err-NoMemory-clause-stage : goal.returns-in-Err-NoMemory-clause-stage
returns-in-Err-NoMemory-clause-stage g c = λ a.
    ends_memory (Exposes c.args.name.now (kinds_of (g.R.Handlers.slots c.args.rack.now)) c.args.plan.now c.args.things) a (expose_memory (refl, refl))

pub returns-in-Ok-clause-stage : goal.returns-in-Ok-clause-stage
returns-in-Ok-clause-stage g c = λ a.
    goes_quietly (Exposes c.args.name.now (kinds_of (g.R.Handlers.slots c.args.rack.now)) c.args.plan.now c.args.things) a c.in-Ok.servient.exposed.site
    (is_exposed c.in-Ok.ensures.faultless refl (ap (λ (x : Site). goes_on x) c.in-Ok.ensures.site))
