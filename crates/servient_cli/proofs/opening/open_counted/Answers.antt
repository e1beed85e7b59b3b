use Rattle.std.proofs.lemmas.Result.{err_from_is_err_and}
use Rattle.std.specs.Prelude.{Ok, Err}
use Rattle.thing_site.specs.Exposing.{kinds_of}
use Rattle.command_stages.specs.Deriving.{Derives}
use Rattle.servient_cli.specs.Opening.{Exposes, site_in}
use Rattle.command_stages.proofs.StageLaws.{then_performs, error_performs}
use Rattle.servient_cli.proofs.opening.open_counted.Goals as goal

pub returns-in_err-derived-clause-stage : goal.returns-in_err-derived-clause-stage
returns-in_err-derived-clause-stage g c = λ a.
    let p = c.args.planned.now in
    let kinds = kinds_of (g.R.Handlers.slots c.args.rack.now) in
    let error = err_from_is_err_and c.from_residual.result c.from_residual.ensures.1 in
    rw (error.1, error.2) (error_performs (Derives p) (Exposes c.args.name.now kinds p.plan) a a c.in_err-derived.field-0.0 (c.in_err-derived.ensures.stage a))

pub returns-in_err-servient-clause-stage : goal.returns-in_err-servient-clause-stage
returns-in_err-servient-clause-stage g c = λ a.
    let p = c.args.planned.now in
    let kinds = kinds_of (g.R.Handlers.slots c.args.rack.now) in
    let e = c.in_err-servient.field-0.0 in
    let error = err_from_is_err_and c.from_residual-in_err-servient.result c.from_residual-in_err-servient.ensures.1 in
    rw (error.1, error.2) (then_performs (Derives p) (Exposes c.args.name.now kinds p.plan) a a a c.in_ok-derived.derived (Err e) (c.in_ok-derived.ensures.stage a) (c.in_err-servient.ensures.stage a))

pub returns-clause-stage : goal.returns-clause-stage
returns-clause-stage g c = λ a.
    let p = c.args.planned.now in
    let kinds = kinds_of (g.R.Handlers.slots c.args.rack.now) in
    then_performs (Derives p) (Exposes c.args.name.now kinds p.plan) a a a c.in_ok-derived.derived (Ok c.in_ok-servient.servient.exposed.site) (c.in_ok-derived.ensures.stage a) (c.in_ok-servient.ensures.stage a)

pub expose-requires-clause-plain : goal.expose-requires-clause-plain
expose-requires-clause-plain g c = c.in_ok-derived.ensures.plain c.requires.served.2
