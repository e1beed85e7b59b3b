use Rattle.std.proofs.Common.{List, ℕ, subst}
use Rattle.std.proofs.lemmas.Result.{err_from_is_err_and}
use Rattle.wot_json.specs.declared.tree.Tree.{Tree}
use Rattle.command_stages.specs.Stages.{around}
use Rattle.command_stages.specs.Ending.{Performs}
use Rattle.command_stages.specs.Reading.{ReadsFile, longest_json}
use Rattle.command_stages.specs.Describing.{DescriptionIn}
use Rattle.command_stages.proofs.StageLaws.{error_performs, then_performs}
use Rattle.command_stages.proofs.described.read_description.Goals as goal

pub returns-in_err-content-clause-stage : goal.returns-in_err-content-clause-stage
returns-in_err-content-clause-stage g c = λ w.
    let held = (g.F.Files.seen c.args.files.now).held in
    let name = c.args.name.now in
    let a = around (g.F.Files.seen c.args.files.now) w in
    let b = around (g.F.Files.seen c.read_file.new.files) w in
    let error = err_from_is_err_and c.from_residual.result c.from_residual.ensures.1 in
    rw (error.1, error.2) (error_performs {B = Tree} (ReadsFile held longest_json name) (DescriptionIn name) a b c.in_err-content.field-0.0 (c.in_err-content.ensures.stage w))

pub returns-clause-stage : goal.returns-clause-stage
returns-clause-stage g c = λ w.
    let held = (g.F.Files.seen c.args.files.now).held in
    let name = c.args.name.now in
    let a = around (g.F.Files.seen c.args.files.now) w in
    let b = around (g.F.Files.seen c.read_file.new.files) w in
    then_performs (ReadsFile held longest_json name) (DescriptionIn name) a b b c.in_ok-content.content c.description_in.result (c.in_ok-content.ensures.stage w)
    (subst (λ (bytes : List ℕ). Performs {A = Tree} (DescriptionIn name bytes) b b c.description_in.result) c.as_slice.ensures (c.description_in.ensures.stage b))
