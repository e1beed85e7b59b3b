use Rattle.file_devices.proofs.RunningSteps.{query_told}
use Rattle.file_devices.proofs.running.RunningAction.query.Goals as goal

pub returns-in-Last-clause-calls : goal.returns-in-Last-clause-calls
returns-in-Last-clause-calls g c = query_told _ _ c.args.self.now.device _ c.in-Last.ensures c.ask_status.ensures.calls
