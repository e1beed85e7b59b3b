use Rattle.std.proofs.lemmas.Result.{err_from_is_err_and}
use Rattle.command_stages.specs.Stages.{around}
use Rattle.command_stages.proofs.ModelStages.{taken_no_file, taken_no_tree, taken_tree}
use Rattle.command_stages.proofs.derivation.take_model.Goals as goal

pub returns-in_err-content-clause-stage : goal.returns-in_err-content-clause-stage
returns-in_err-content-clause-stage g c = λ w.
    let held = (g.F.Files.seen c.args.files.now).held in
    let a = around (g.F.Files.seen c.args.files.now) w in
    let b = around (g.F.Files.seen c.read_model.new.files) w in
    let error = err_from_is_err_and c.from_residual.result c.from_residual.ensures.1 in
    rw (error.1, error.2) (taken_no_file held c.args.model.now c.args.library c.as_str-file.result.now a b c.in_err-content.field-0.0 c.as_str-file.ensures (c.in_err-content.ensures.stage w))

pub returns-in_err-tree-clause-stage : goal.returns-in_err-tree-clause-stage
returns-in_err-tree-clause-stage g c = λ w.
    let held = (g.F.Files.seen c.args.files.now).held in
    let a = around (g.F.Files.seen c.args.files.now) w in
    let b = around (g.F.Files.seen c.read_model.new.files) w in
    let error = err_from_is_err_and c.from_residual-in_err-tree.result c.from_residual-in_err-tree.ensures.1 in
    rw (error.1, error.2) (taken_no_tree held c.args.model.now c.args.library c.as_str-file.result.now c.in_ok-content.content c.as_slice.result.now a b c.in_err-tree.field-0.0 c.as_str-file.ensures c.as_slice.ensures (c.in_ok-content.ensures.stage w) (c.in_err-tree.ensures b))

pub returns-clause-stage : goal.returns-clause-stage
returns-clause-stage g c = λ w.
    let held = (g.F.Files.seen c.args.files.now).held in
    let a = around (g.F.Files.seen c.args.files.now) w in
    let b = around (g.F.Files.seen c.read_model.new.files) w in
    taken_tree held c.args.model.now c.args.library c.as_str-url.result.now c.as_str-file.result.now c.in_ok-content.content c.as_slice.result.now c.in_ok-tree.tree a b c.add_model.result
    c.as_str-url.ensures c.as_str-file.ensures c.as_slice.ensures (c.in_ok-content.ensures.stage w) (c.in_ok-tree.ensures b) (c.add_model.ensures b)
