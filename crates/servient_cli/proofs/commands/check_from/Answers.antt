use Rattle.std.proofs.Common.{List, ℕ, subst}
use Rattle.std.proofs.lemmas.Result.{err_from_is_err_and}
use Rattle.command_stages.specs.Stages.{around}
use Rattle.command_stages.specs.Ending.{EndsBy}
use Rattle.command_stages.specs.Reading.{ReadsFile, longest_json}
use Rattle.command_stages.specs.Checking.{Checks}
use Rattle.command_stages.proofs.StageLaws.{then_ends, error_ends}
use Rattle.servient_cli.proofs.commands.check_from.Goals as goal

pub returns-in_err-content : goal.returns-in_err-content
returns-in_err-content g c = λ w.
    let held = (g.F.Files.seen c.args.files.now).held in
    let before = g.F.Files.seen c.args.files.now in
    let now = g.F.Files.seen c.read_file.new.files in
    let error = err_from_is_err_and c.from_residual.result c.from_residual.ensures.1 in
    rw (error.1, error.2) (error_ends (ReadsFile held longest_json c.args.name.now) (Checks c.args.name.now) (around before w) (around now w) c.in_err-content.field-0.0 (c.in_err-content.ensures.stage w))

pub returns : goal.returns
returns g c = λ w.
    let held = (g.F.Files.seen c.args.files.now).held in
    let before = g.F.Files.seen c.args.files.now in
    let now = g.F.Files.seen c.read_file.new.files in
    let done = subst (λ (bytes : List ℕ). EndsBy (Checks c.args.name.now bytes) (around now w) (around now w) c.check_file.result) c.as_slice.ensures (c.check_file.ensures (around now w)) in
    then_ends (ReadsFile held longest_json c.args.name.now) (Checks c.args.name.now) (around before w) (around now w) (around now w)
    c.in_ok-content.content c.check_file.result (c.in_ok-content.ensures.stage w) done
