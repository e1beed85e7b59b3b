use Rattle.std.proofs.Common.{◌*◌}
use Rattle.std.specs.Prelude.{Err}
use Rattle.std.proofs.lemmas.Result.{err_from_is_err_and}
use Rattle.thing_site.specs.Exposing.{kinds_of}
use Rattle.servient_plan.specs.Plan.{place_of}
use Rattle.servient_trace.specs.Trace.{outside}
use Rattle.command_stages.specs.Stages.{AndThen, around}
use Rattle.servient_cli.specs.Opening.{Opens}
use Rattle.servient_cli.specs.Listening.{Listens, ServesBy}
use Rattle.command_stages.proofs.StageLaws.{then_ends, error_ends}
use Rattle.servient_cli.proofs.listening.serve_planned.Goals as goal

pub returns-in_err-servient : goal.returns-in_err-servient
returns-in_err-servient g c = λ files.
    let slots = g.R.Handlers.slots c.args.rack.now in
    let b = around files (outside (g.N.Net.seen c.args.net.now) slots) in
    let q = c.args.request in
    let p = c.args.planned.now in
    let e = c.in_err-servient.field-0.0 in
    let listens = Listens (place_of p.plan (q.idle * 1000)) in
    let error = err_from_is_err_and c.from_residual.result c.from_residual.ensures.1 in
    rw (error.1, error.2) (error_ends (Opens q.plan.now (kinds_of slots) p) (λ site. AndThen listens (λ _. ServesBy q.budget p.plan.exchanges p.plan.epoch site)) b b e (c.in_err-servient.ensures.stage b))

pub returns-in_err-listen : goal.returns-in_err-listen
returns-in_err-listen g c = λ files.
    let slots = g.R.Handlers.slots c.args.rack.now in
    let b = around files (outside (g.N.Net.seen c.args.net.now) slots) in
    let d = around files (outside (g.N.Net.seen c.listen.new.net) slots) in
    let q = c.args.request in
    let p = c.args.planned.now in
    let site = c.in_ok-servient.servient.exposed.site in
    let e = c.in_err-listen.field-0.0 in
    let listens = Listens (place_of p.plan (q.idle * 1000)) in
    let error = err_from_is_err_and c.from_residual-in_err-listen.result c.from_residual-in_err-listen.ensures.1 in
    rw (error.1, error.2) (then_ends (Opens q.plan.now (kinds_of slots) p) (λ s. AndThen listens (λ _. ServesBy q.budget p.plan.exchanges p.plan.epoch s)) b b d site (Err e) (c.in_ok-servient.ensures.stage b)
    (error_ends listens (λ _. ServesBy q.budget p.plan.exchanges p.plan.epoch site) b d e (c.in_err-listen.ensures files slots)))

pub returns : goal.returns
returns g c = λ files.
    let slots = g.R.Handlers.slots c.args.rack.now in
    let b = around files (outside (g.N.Net.seen c.args.net.now) slots) in
    let d = around files (outside (g.N.Net.seen c.listen.new.net) slots) in
    let f = around files (outside (g.N.Net.seen c.serve_by.new.net) (g.R.Handlers.slots c.serve_by.new.rack)) in
    let q = c.args.request in
    let p = c.args.planned.now in
    let site = c.in_ok-servient.servient.exposed.site in
    let r = c.serve_by.result in
    let listens = Listens (place_of p.plan (q.idle * 1000)) in
    then_ends (Opens q.plan.now (kinds_of slots) p) (λ s. AndThen listens (λ _. ServesBy q.budget p.plan.exchanges p.plan.epoch s)) b b f site r (c.in_ok-servient.ensures.stage b)
    (then_ends listens (λ _. ServesBy q.budget p.plan.exchanges p.plan.epoch site) b d f tt r (c.in_ok-listen.ensures files slots)
    (c.serve_by.ensures files p.plan.exchanges p.plan.epoch c.in_ok-servient.ensures.start))
