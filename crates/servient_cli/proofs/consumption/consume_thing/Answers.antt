use Rattle.std.specs.Prelude.{Err}
use Rattle.std.proofs.lemmas.Result.{err_from_is_err_and}
use Rattle.servient_trace.specs.Trace.{outside}
use Rattle.command_stages.specs.Stages.{around}
use Rattle.command_stages.specs.Describing.{ReadsInput}
use Rattle.servient_cli.specs.Consuming.{OperatesOn}
use Rattle.servient_cli.proofs.ConsumingStages.{described_error, described_then, error_prints, then_prints}
use Rattle.servient_cli.proofs.UsageStages.{input_not}
use Rattle.servient_cli.proofs.consumption.consume_thing.Goals as goal

pub returns-in_err-tree : goal.returns-in_err-tree
returns-in_err-tree g c = λ slots.
    let held = (g.F.Files.seen c.args.files.now).held in
    let w = outside (g.N.Net.seen c.args.net.now) slots in
    let error = err_from_is_err_and c.from_residual.result c.from_residual.ensures.1 in
    rw (error.1, error.2) (described_error held c.args.consumption.now c.as_str.result.now (around (g.F.Files.seen c.args.files.now) w) (around (g.F.Files.seen c.read_description.new.files) w) (g.O.Out.seen c.args.out.now) c.in_err-tree.field-0.0 c.as_str.ensures (c.in_err-tree.ensures.stage w))

pub returns-in_err-input : goal.returns-in_err-input
returns-in_err-input g c = λ slots.
    let held = (g.F.Files.seen c.args.files.now).held in
    let later = (g.F.Files.seen c.read_description.new.files).held in
    let k = c.args.consumption.now in
    let tree = c.in_ok-tree.tree in
    let w = outside (g.N.Net.seen c.args.net.now) slots in
    let a = around (g.F.Files.seen c.args.files.now) w in
    let b = around (g.F.Files.seen c.read_description.new.files) w in
    let d = around (g.F.Files.seen c.read_input.new.files) w in
    let out = g.O.Out.seen c.args.out.now in
    let e = c.in_err-input.field-0.0 in
    let error = err_from_is_err_and c.from_residual-in_err-input.result c.from_residual-in_err-input.ensures.1 in
    rw (error.1, error.2) (described_then held later k c.as_str.result.now a b d out out tree (Err e) c.as_str.ensures c.in_ok-tree.ensures.held (c.in_ok-tree.ensures.stage w)
    (error_prints (ReadsInput later k.input) (OperatesOn k tree) b d out e (input_not later k.input) (c.in_err-input.ensures w)))

pub returns : goal.returns
returns g c = λ slots.
    let held = (g.F.Files.seen c.args.files.now).held in
    let later = (g.F.Files.seen c.read_description.new.files).held in
    let k = c.args.consumption.now in
    let tree = c.in_ok-tree.tree in
    let input = c.in_ok-input.input in
    let files = g.F.Files.seen c.read_input.new.files in
    let w = outside (g.N.Net.seen c.args.net.now) slots in
    let v = outside (g.N.Net.seen c.consume_described.new.net) slots in
    let a = around (g.F.Files.seen c.args.files.now) w in
    let b = around (g.F.Files.seen c.read_description.new.files) w in
    let out = g.O.Out.seen c.args.out.now in
    let out_now = g.O.Out.seen c.consume_described.new.out in
    let r = c.consume_described.result in
    described_then held later k c.as_str.result.now a b (around files v) out out_now tree r c.as_str.ensures c.in_ok-tree.ensures.held (c.in_ok-tree.ensures.stage w)
    (then_prints (ReadsInput later k.input) (OperatesOn k tree) b (around files w) (around files v) out out_now input r (c.in_ok-input.ensures w) (c.consume_described.ensures files slots))
