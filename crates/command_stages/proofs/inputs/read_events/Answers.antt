use Rattle.std.proofs.Common.{List, ℕ, subst}
use Rattle.std.proofs.lemmas.Result.{err_from_is_err_and}
use Rattle.servient_outside.specs.declared.net.EventWithBytes.{EventWithBytes}
use Rattle.command_stages.specs.Stages.{around}
use Rattle.command_stages.specs.Ending.{Performs}
use Rattle.command_stages.specs.Reading.{ReadsFile}
use Rattle.servient_script.specs.Script.{longest_script}
use Rattle.command_stages.specs.Inputs.{ReadsScript}
use Rattle.command_stages.proofs.StageLaws.{then_performs, error_performs}
use Rattle.command_stages.proofs.inputs.read_events.Goals as goal

pub returns-in_err-content-clause-stage : goal.returns-in_err-content-clause-stage
returns-in_err-content-clause-stage g c = λ w.
    let held = (g.F.Files.seen c.args.files.now).held in
    let a = around (g.F.Files.seen c.args.files.now) w in
    let b = around (g.F.Files.seen c.read_file.new.files) w in
    let error = err_from_is_err_and c.from_residual.result c.from_residual.ensures.1 in
    rw (error.1, error.2) (error_performs (ReadsFile held longest_script c.args.name.now) (ReadsScript c.args.name.now) a b c.in_err-content.field-0.0 (c.in_err-content.ensures.stage w))

pub returns-clause-stage : goal.returns-clause-stage
returns-clause-stage g c = λ w.
    let held = (g.F.Files.seen c.args.files.now).held in
    let a = around (g.F.Files.seen c.args.files.now) w in
    let b = around (g.F.Files.seen c.read_file.new.files) w in
    then_performs (ReadsFile held longest_script c.args.name.now) (ReadsScript c.args.name.now) a b b c.in_ok-content.content c.events_of.result (c.in_ok-content.ensures.stage w)
    (subst (λ (bytes : List ℕ). Performs {A = List EventWithBytes} (ReadsScript c.args.name.now bytes) b b c.events_of.result) c.as_slice.ensures (c.events_of.ensures.stage b))
