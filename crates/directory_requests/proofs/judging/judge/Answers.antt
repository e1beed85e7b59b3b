use Rattle.std.proofs.lemmas.Result.{err_from_is_err_and}
use Rattle.thing_ops.specs.Requests.{request_seen}
use Rattle.directory_requests.proofs.JudgeLaws.{asked_refused}
use Rattle.directory_requests.proofs.judging.judge.Goals as goal

pub returns-in_err-act-clause-fault : goal.returns-in_err-act-clause-fault
returns-in_err-act-clause-fault c =
    let p = err_from_is_err_and c.from_residual.result c.from_residual.ensures.1 in
    rw (p.1, p.2) (asked_refused (request_seen c.args.request.now) c.in_err-act.field-0.0 c.in_err-act.ensures)
