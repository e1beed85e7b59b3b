use Rattle.std.proofs.lemmas.Result.{err_from_is_err_and}
use Rattle.servient_trace.specs.Trace.{outside}
use Rattle.command_stages.specs.Stages.{around}
use Rattle.servient_cli.proofs.ConsumingStages.{form_error, form_then}
use Rattle.servient_cli.proofs.consumption.operate_by_form.Goals as goal

pub returns-in_err-chosen : goal.returns-in_err-chosen
returns-in_err-chosen g c = λ files slots k tree input only asked.
    let a = around files (outside (g.N.Net.seen c.args.net.now) slots) in
    let error = err_from_is_err_and c.from_residual.result c.from_residual.ensures.1 in
    rw (error.1, error.2) (form_error k tree input _ c.args.only a (g.O.Out.seen c.args.out.now) c.in_err-chosen.field-0.0 only asked (c.in_err-chosen.ensures.stage a))

pub returns : goal.returns
returns g c = λ files slots k tree input only asked.
    let a = around files (outside (g.N.Net.seen c.args.net.now) slots) in
    let b = around files (outside (g.N.Net.seen c.operate.new.net) slots) in
    form_then k tree input _ c.args.only a b (g.O.Out.seen c.args.out.now) (g.O.Out.seen c.operate.new.out) c.in_ok-chosen.chosen c.operate.result only asked (c.in_ok-chosen.ensures.stage a) (c.operate.ensures files slots k tree input asked)
