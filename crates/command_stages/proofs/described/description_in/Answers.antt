use Rattle.std.proofs.lemmas.Result.{err_from_is_err_and}
use Rattle.wot_json.specs.declared.tree.Tree.{Tree}
use Rattle.command_stages.specs.Reading.{ReadsTree}
use Rattle.command_stages.specs.Describing.{TakesDescription}
use Rattle.command_stages.proofs.StageLaws.{error_performs, then_performs}
use Rattle.command_stages.proofs.described.description_in.Goals as goal

pub returns-in_err-tree-clause-stage : goal.returns-in_err-tree-clause-stage
returns-in_err-tree-clause-stage c = λ a.
    let error = err_from_is_err_and c.from_residual.result c.from_residual.ensures.1 in
    rw (error.1, error.2) (error_performs {B = Tree} (ReadsTree c.args.name.now c.args.content.now) TakesDescription a a c.in_err-tree.field-0.0 (c.in_err-tree.ensures a))

pub returns-clause-stage : goal.returns-clause-stage
returns-clause-stage c = λ a.
    then_performs (ReadsTree c.args.name.now c.args.content.now) TakesDescription a a a c.in_ok-tree.tree c.judged.result (c.in_ok-tree.ensures a) (c.judged.ensures.stage a)
