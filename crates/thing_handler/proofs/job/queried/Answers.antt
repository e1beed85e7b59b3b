use Rattle.std.proofs.Common.{List, subst, arith}
use Rattle.std.specs.Prelude.{Some}
use Rattle.thing_handler.specs.declared.job.Run.{Run}
use Rattle.thing_handler.specs.JobChanges.{StandsAt}
use Rattle.thing_handler.proofs.JobLaws.{runs_on}
use Rattle.thing_handler.proofs.job.queried.Goals as goal

pub returns-else-run-le1-clause-answer : goal.returns-else-run-le1-clause-answer
returns-else-run-le1-clause-answer c =
    let stands = subst (λ (runs : List Run). StandsAt c.args.id runs (Some c.in-Some.place)) c.as_slice.ensures.value c.in-Some.ensures in
    (runs_on c.args.id c.args.runs.now.items c.in-Some.place c.index-run.result.now stands c.index-run.ensures (omega arith)).0

pub returns-else-run-le1-clause-runs : goal.returns-else-run-le1-clause-runs
returns-else-run-le1-clause-runs c =
    let stands = subst (λ (runs : List Run). StandsAt c.args.id runs (Some c.in-Some.place)) c.as_slice.ensures.value c.in-Some.ensures in
    (runs_on c.args.id c.args.runs.now.items c.in-Some.place c.index-run.result.now stands c.index-run.ensures (omega arith)).1
