use Rattle.std.proofs.Common.{List, ℕ, subst}
use Rattle.std.proofs.lemmas.Result.{err_from_is_err_and}
use Rattle.wot_json.specs.declared.tree.Tree.{Tree}
use Rattle.command_stages.specs.Stages.{around}
use Rattle.command_stages.specs.Ending.{Performs}
use Rattle.command_stages.specs.Reading.{ReadsFile, ReadsTree, longest_json}
use Rattle.command_stages.proofs.StageLaws.{error_performs, then_performs}
use Rattle.command_stages.proofs.described.read_value.Goals as goal

pub returns-in_err-content : goal.returns-in_err-content
returns-in_err-content g c = λ w.
    let held = (g.F.Files.seen c.args.files.now).held in
    let name = c.args.name.now in
    let a = around (g.F.Files.seen c.args.files.now) w in
    let b = around (g.F.Files.seen c.read_file.new.files) w in
    let error = err_from_is_err_and c.from_residual.result c.from_residual.ensures.1 in
    rw (error.1, error.2) (error_performs {B = Tree} (ReadsFile held longest_json name) (ReadsTree name) a b c.in_err-content.field-0.0 (c.in_err-content.ensures.stage w))

pub returns : goal.returns
returns g c = λ w.
    let held = (g.F.Files.seen c.args.files.now).held in
    let name = c.args.name.now in
    let a = around (g.F.Files.seen c.args.files.now) w in
    let b = around (g.F.Files.seen c.read_file.new.files) w in
    then_performs (ReadsFile held longest_json name) (ReadsTree name) a b b c.in_ok-content.content c.read_tree.result (c.in_ok-content.ensures.stage w)
    (subst (λ (bytes : List ℕ). Performs {A = Tree} (ReadsTree name bytes) b b c.read_tree.result) c.as_slice.ensures (c.read_tree.ensures b))
