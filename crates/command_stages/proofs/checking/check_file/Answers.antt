use Rattle.std.specs.Prelude.{Ok, Err}
use Rattle.std.proofs.lemmas.Result.{err_from_is_err_and}
use Rattle.command_stages.specs.declared.ending.Ended.TheVariants as ended
use Rattle.command_stages.specs.Reading.{ReadsTree}
use Rattle.command_stages.specs.Checking.{Judges}
use Rattle.command_stages.proofs.StageLaws.{then_ends, error_ends}
use Rattle.command_stages.proofs.checking.check_file.Goals as goal

pub returns-in_err-tree : goal.returns-in_err-tree
returns-in_err-tree c = λ a.
    let error = err_from_is_err_and c.from_residual.result c.from_residual.ensures.1 in
    rw (error.1, error.2) (error_ends (ReadsTree c.args.name.now c.args.content.now) Judges a a c.in_err-tree.field-0.0 (c.in_err-tree.ensures a))

pub returns-in_err-judge : goal.returns-in_err-judge
returns-in_err-judge c = λ a.
    let error = err_from_is_err_and c.from_residual-in_err-judge.result c.from_residual-in_err-judge.ensures.1 in
    rw (error.1, error.2) (then_ends (ReadsTree c.args.name.now c.args.content.now) Judges a a a c.in_ok-tree.tree (Err ended.NoMemory) (c.in_ok-tree.ensures a) (c.in_err-judge.ensures a))

pub returns : goal.returns
returns c = λ a.
    then_ends (ReadsTree c.args.name.now c.args.content.now) Judges a a a c.in_ok-tree.tree (Ok c.in_ok-judge.field-0) (c.in_ok-tree.ensures a) (c.in_ok-judge.ensures a)
