use Rattle.file_devices.proofs.RunningSteps.{cancels_last}
use Rattle.file_devices.proofs.running.RunningAction.cancel_last.Goals as goal

pub returns-clause-answer : goal.returns-clause-answer
returns-clause-answer g c = cancels_last _ _ c.args.self.now.device.cancel _ c.as_str.result.now _ c.as_str-2.result.now _ c.in-Ok.texts _ _ c.in-Some.is c.as_str.ensures c.as_str-2.ensures
    c.in-Ok.ensures c.stop-stopped.ensures c.answer_to-2.ensures
