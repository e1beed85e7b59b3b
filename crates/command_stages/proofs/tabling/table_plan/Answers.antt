use Rattle.std.proofs.lemmas.Result.{err_from_is_err_and}
use Rattle.thing_site.specs.Exposing.{kinds_of}
use Rattle.command_stages.specs.Stages.{around}
use Rattle.command_stages.specs.Deriving.{ReadsPlanned}
use Rattle.command_stages.specs.Tabling.{Tables}
use Rattle.command_stages.proofs.StageLaws.{then_ends, error_ends}
use Rattle.command_stages.proofs.tabling.table_plan.Goals as goal

pub returns-in_err-planned : goal.returns-in_err-planned
returns-in_err-planned g c = λ w.
    let name = c.args.name.now in
    let held = (g.F.Files.seen c.args.files.now).held in
    let kinds = kinds_of (g.R.Handlers.slots c.args.rack.now) in
    let a = around (g.F.Files.seen c.args.files.now) w in
    let b = around (g.F.Files.seen c.read_planned.new.files) w in
    let error = err_from_is_err_and c.from_residual.result c.from_residual.ensures.1 in
    rw (error.1, error.2) (error_ends (ReadsPlanned held name) (Tables name kinds) a b c.in_err-planned.field-0.0 (c.in_err-planned.ensures.stage w))

pub returns : goal.returns
returns g c = λ w.
    let name = c.args.name.now in
    let held = (g.F.Files.seen c.args.files.now).held in
    let kinds = kinds_of (g.R.Handlers.slots c.args.rack.now) in
    let a = around (g.F.Files.seen c.args.files.now) w in
    let b = around (g.F.Files.seen c.read_planned.new.files) w in
    then_ends (ReadsPlanned held name) (Tables name kinds) a b b c.in_ok-planned.planned c.derive_and_table.result (c.in_ok-planned.ensures.stage w) (c.derive_and_table.ensures b)
