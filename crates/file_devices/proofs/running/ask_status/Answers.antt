use Rattle.file_devices.proofs.RunningSteps.{status_asked}
use Rattle.file_devices.proofs.running.ask_status.Goals as goal

pub returns-clause-answer : goal.returns-clause-answer
returns-clause-answer g c = status_asked _ _ c.args.device.now c.as_str.result.now c.in_ok-status.status _ c.as_str.ensures c.in_ok-status.ensures.found c.status_answer.ensures
