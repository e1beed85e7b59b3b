use Rattle.thing_site.specs.Exposing.{kinds_of}
use Rattle.servient_trace.specs.Trace.{outside}
use Rattle.command_stages.specs.Stages.{around}
use Rattle.std.specs.Prelude.{Some}
use Rattle.servient_cli.specs.Command.{is_logging, Does}
use Rattle.servient_cli.proofs.ConsumingStages.{printing_reported, printing_failed}
use Rattle.servient_cli.proofs.main_call.work_and_report.Goals as goal

pub returns-clause-ends : goal.returns-clause-ends
returns-clause-ends g c =
    let before = g.F.Files.seen c.args.files.now in
    let now = g.F.Files.seen c.work-ended.new.files in
    let slots = g.R.Handlers.slots c.args.rack.now in
    printing_reported (is_logging (Some c.args.command.now)) (Does before.held (kinds_of slots) c.args.command.now)
    (around before (outside (g.N.Net.seen c.args.net.now) slots)) (around now (outside (g.N.Net.seen c.work-ended.new.net) (g.R.Handlers.slots c.work-ended.new.rack)))
    (g.O.Out.seen c.args.out.now) (g.O.Out.seen c.work-ended.new.out) (g.O.Out.seen c.report.new.out)
    c.work-ended.result c.report.result c.work-ended.ensures.ends.0 c.work-ended.ensures.ends.1 c.report.ensures.reported c.report.ensures.faults c.report.ensures.no_failure

pub returns-clause-output : goal.returns-clause-output
returns-clause-output g c = λ seven.
    let before = g.F.Files.seen c.args.files.now in
    let now = g.F.Files.seen c.work-ended.new.files in
    let slots = g.R.Handlers.slots c.args.rack.now in
    printing_failed (Does before.held (kinds_of slots) c.args.command.now)
    (around before (outside (g.N.Net.seen c.args.net.now) slots)) (around now (outside (g.N.Net.seen c.work-ended.new.net) (g.R.Handlers.slots c.work-ended.new.rack)))
    (g.O.Out.seen c.args.out.now) (g.O.Out.seen c.work-ended.new.out) (g.O.Out.seen c.report.new.out)
    c.work-ended.result c.report.result c.work-ended.ensures.ends.0 c.report.ensures.reported c.report.ensures.faults seven
