use Rattle.std.proofs.lemmas.Result.{err_from_is_err_and}
use Rattle.thing_site.specs.Exposing.{kinds_of}
use Rattle.servient_trace.specs.Trace.{outside}
use Rattle.command_stages.specs.Stages.{around}
use Rattle.command_stages.specs.Deriving.{ReadsPlanned}
use Rattle.servient_cli.specs.LoggedServing.{LogsPlanned}
use Rattle.servient_cli.proofs.ConsumingStages.{error_in_turn, then_in_turn}
use Rattle.servient_cli.proofs.UsageStages.{planned_not}
use Rattle.servient_cli.proofs.UnseenStages.{planned_unseen, untaken}
use Rattle.servient_cli.proofs.logging.log_plan.Goals as goal

pub returns-in_err-planned : goal.returns-in_err-planned
returns-in_err-planned g c =
    let held = (g.F.Files.seen c.args.files.now).held in
    let w = outside (g.N.Net.seen c.args.net.now) (g.R.Handlers.slots c.args.rack.now) in
    let a = around (g.F.Files.seen c.args.files.now) w in
    let b = around (g.F.Files.seen c.read_planned.new.files) w in
    let q = c.args.request in
    let kinds = kinds_of w.slots in
    let error = err_from_is_err_and c.from_residual.result c.from_residual.ensures.1 in
    rw (error.1, error.2) (error_in_turn (ReadsPlanned held q.plan.now) (LogsPlanned q.plan.now kinds q.budget q.idle) a b (g.O.Out.seen c.args.out.now) c.in_err-planned.field-0.0 (planned_not held q.plan.now) (λ s r st. untaken s (planned_unseen held q.plan.now s r st)) (c.in_err-planned.ensures.stage w))

pub returns : goal.returns
returns g c =
    let held = (g.F.Files.seen c.args.files.now).held in
    let slots = g.R.Handlers.slots c.args.rack.now in
    let w = outside (g.N.Net.seen c.args.net.now) slots in
    let now = g.F.Files.seen c.read_planned.new.files in
    let a = around (g.F.Files.seen c.args.files.now) w in
    let b = around now w in
    let f = around now (outside (g.N.Net.seen c.log_planned.new.net) (g.R.Handlers.slots c.log_planned.new.rack)) in
    let q = c.args.request in
    let kinds = kinds_of slots in
    then_in_turn (ReadsPlanned held q.plan.now) (LogsPlanned q.plan.now kinds q.budget q.idle) a b f (g.O.Out.seen c.args.out.now) (g.O.Out.seen c.log_planned.new.out) c.in_ok-planned.planned c.log_planned.result (c.in_ok-planned.ensures.stage w)
    (c.log_planned.ensures now)
