use Rattle.file_devices.proofs.Looks.{event_looks}
use Rattle.file_devices.proofs.event.FileEvent.poll.Goals as goal

pub returns-clause-looks : goal.returns-clause-looks
returns-clause-looks g c = event_looks _ _ _ _ c.args.self.now.last c.in_ok-found.found c.judge_found.result c.in_ok-found.ensures.found c.judge_found.ensures
