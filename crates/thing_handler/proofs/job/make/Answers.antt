use Rattle.thing_handler.proofs.JobLaws.{queried_by_write}
use Rattle.thing_handler.proofs.job.make.Goals as goal

pub returns-in-IsQueried : goal.returns-in-IsQueried
returns-in-IsQueried c =
    rw c.in-IsQueried.is
    (queried_by_write c.args.runs.now.items c.in-IsQueried.place c.saturating_sub.result c.index_mut.result.now c.index.result.now
    c.index_mut.ensures.value c.index.ensures c.saturating_sub.ensures)
