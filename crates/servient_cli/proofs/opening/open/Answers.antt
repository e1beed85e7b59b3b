use Rattle.std.proofs.lemmas.Result.{err_from_is_err_and}
use Rattle.thing_site.specs.Exposing.{kinds_of}
use Rattle.command_stages.specs.Deriving.{Derives}
use Rattle.servient_cli.specs.Opening.{Exposes, site_in}
use Rattle.command_stages.proofs.StageLaws.{then_performs, error_performs}
use Rattle.servient_cli.proofs.opening.open.Goals as goal

pub returns-in_err-things-clause-stage : goal.returns-in_err-things-clause-stage
returns-in_err-things-clause-stage g c = λ a.
    let p = c.args.planned.now in
    let kinds = kinds_of (g.R.Handlers.slots c.args.rack.now) in
    let error = err_from_is_err_and c.from_residual.result c.from_residual.ensures.1 in
    rw (error.1, error.2) (error_performs (Derives p) (Exposes c.args.name.now kinds p.plan) a a c.in_err-things.field-0.0 (c.in_err-things.ensures.stage a))

pub returns-clause-stage : goal.returns-clause-stage
returns-clause-stage g c = λ a.
    let p = c.args.planned.now in
    let kinds = kinds_of (g.R.Handlers.slots c.args.rack.now) in
    then_performs (Derives p) (Exposes c.args.name.now kinds p.plan) a a a c.in_ok-things.things (site_in c.expose.result) (c.in_ok-things.ensures.stage a) (c.expose.ensures.stage a)

pub expose-requires-clause-plain : goal.expose-requires-clause-plain
expose-requires-clause-plain g c = c.in_ok-things.ensures.plain c.requires.served.2
