use Rattle.std.proofs.lemmas.Result.{err_from_is_err_and}
use Rattle.thing_site.specs.Exposing.{kinds_of}
use Rattle.servient_trace.specs.Trace.{outside}
use Rattle.command_stages.specs.Stages.{around}
use Rattle.servient_cli.specs.Opening.{Opens}
use Rattle.servient_cli.specs.Replaying.{RunsScript}
use Rattle.command_stages.proofs.StageLaws.{then_ends, error_ends}
use Rattle.servient_cli.proofs.replay.run_inputs.Goals as goal

pub returns-in_err-servient : goal.returns-in_err-servient
returns-in_err-servient g c = λ files net.
    let p = c.args.inputs.planned in
    let slots = g.R.Handlers.slots c.args.rack.now in
    let a = around files (outside net slots) in
    let error = err_from_is_err_and c.from_residual.result c.from_residual.ensures.1 in
    rw (error.1, error.2) (error_ends (Opens c.args.name.now (kinds_of slots) p) (RunsScript c.args.budget c.args.inputs.events p.plan.exchanges p.plan.epoch) a a c.in_err-servient.field-0.0 (c.in_err-servient.ensures.stage a))

pub returns : goal.returns
returns g c = λ files net.
    let p = c.args.inputs.planned in
    let slots = g.R.Handlers.slots c.args.rack.now in
    let a = around files (outside net slots) in
    let b = around files (outside net (g.R.Handlers.slots c.run_script.new.rack)) in
    let site = c.in_ok-servient.servient.exposed.site in
    then_ends (Opens c.args.name.now (kinds_of slots) p) (RunsScript c.args.budget c.args.inputs.events p.plan.exchanges p.plan.epoch) a a b site c.run_script.result
    (c.in_ok-servient.ensures.stage a) (c.run_script.ensures files net p.plan.exchanges p.plan.epoch c.in_ok-servient.ensures.start)
