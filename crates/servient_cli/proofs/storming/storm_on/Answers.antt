use Rattle.std.specs.Prelude.{None}
use Rattle.std.proofs.lemmas.Result.{err_from_is_err_and}
use Rattle.thing_site.specs.Exposing.{kinds_of}
use Rattle.servient_trace.specs.Trace.{outside}
use Rattle.command_stages.specs.Stages.{around}
use Rattle.servient_cli.specs.Opening.{Opens}
use Rattle.command_stages.specs.Inputs.{plan_name}
use Rattle.servient_cli.specs.Storming.{RunsStorm}
use Rattle.command_stages.proofs.StageLaws.{then_ends, error_ends}
use Rattle.servient_cli.proofs.storming.storm_on.Goals as goal

pub returns-in_err-servient : goal.returns-in_err-servient
returns-in_err-servient g c = λ files net.
    let p = c.args.planned.now in
    let slots = g.R.Handlers.slots c.args.rack.now in
    let a = around files (outside net slots) in
    let error = err_from_is_err_and c.from_residual.result c.from_residual.ensures.1 in
    rw (error.1, error.2) (error_ends (Opens (plan_name None) (kinds_of slots) p) (RunsStorm c.args.seed c.args.count p.plan.exchanges p.plan.epoch) a a c.in_err-servient.field-0.0 (c.in_err-servient.ensures.stage a))

pub returns : goal.returns
returns g c = λ files net.
    let p = c.args.planned.now in
    let slots = g.R.Handlers.slots c.args.rack.now in
    let a = around files (outside net slots) in
    let b = around files (outside net (g.R.Handlers.slots c.run_storm.new.rack)) in
    let site = c.in_ok-servient.servient.exposed.site in
    then_ends (Opens (plan_name None) (kinds_of slots) p) (RunsStorm c.args.seed c.args.count p.plan.exchanges p.plan.epoch) a a b site c.run_storm.result
    (c.in_ok-servient.ensures.stage a) (c.run_storm.ensures files net p.plan.exchanges p.plan.epoch c.in_ok-servient.ensures.start)
