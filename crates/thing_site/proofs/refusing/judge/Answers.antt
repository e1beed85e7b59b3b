use Rattle.std.proofs.lemmas.Result.{err_from_is_err_and}
use Rattle.thing_ops.specs.Requests.{request_seen}
use Rattle.thing_site.proofs.InputLaws.{inputs_refused}
use Rattle.thing_site.proofs.refusing.judge.Goals as goal

pub returns-in_err-judge_inputs-clause-fault : goal.returns-in_err-judge_inputs-clause-fault
returns-in_err-judge_inputs-clause-fault c =
    let p = err_from_is_err_and c.from_residual-in_err-judge_inputs.result c.from_residual-in_err-judge_inputs.ensures.1 in
    rw (p.1, p.2) (inputs_refused c.args.act.now (request_seen c.args.request.now) c.formats_of-answer.result.0 c.formats_of-answer.result.1 c.in_ok-inputs.inputs.items c.as_slice.result.now _
    c.formats_of-answer.ensures.answer c.formats_of-answer.ensures.body c.in_ok-judge_formats.ensures.ok c.in_ok-inputs.ensures.ok c.as_slice.ensures.value c.in_err-judge_inputs.ensures.fault)
