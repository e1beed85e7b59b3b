use Rattle.file_devices.proofs.RunningSteps.{kept_so, begun_so}
use Rattle.file_devices.proofs.running.RunningAction.invoke.Goals as goal

pub returns-in-Ok-Err-clause-answer : goal.returns-in-Ok-Err-clause-answer
returns-in-Ok-Err-clause-answer g c = kept_so _ _ c.args.self.now.device c.as_str.result.now _ _ _ c.in-Ok.status c.in-Ok-Err.field-0 c.in-Ok-Err.answer _ c.as_str.ensures c.in-Ok.ensures.found
    c.in-Ok-Err.ensures c.in-Ok-Err.field-0-is c.keep-in-Ok-Err.ensures.ok

pub returns-clause-answer : goal.returns-clause-answer
returns-clause-answer g c = begun_so _ _ _ c.args.self.now.device c.as_str.result.now _ _ _ _ c.in-Ok.status c.in-Ok-Ok.field-0 c.in-Ok-Ok.texts _ _ c.as_str.ensures c.in-Ok.ensures.found
    c.in-Ok-Ok.ensures c.in-Ok-Ok.field-0-is c.begin-begun.ensures c.last_after-self.ensures c.answer_to-2.ensures
