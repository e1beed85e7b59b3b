use Rattle.file_devices.proofs.RunningLaws.{running_invoked, running_cancelled}
use Rattle.file_devices.proofs.running.RunningActionHandler.call.Goals as goal

pub returns-in-Invoke-clause-calls : goal.returns-in-Invoke-clause-calls
returns-in-Invoke-clause-calls g c = running_invoked _ _ c.args.self.now.device c.args.self.now.last _ c.args.what.now c.in-Invoke.id c.in-Invoke.field-1 c.invoke.result c.in-Invoke.is
    c.invoke.ensures.answer c.invoke.ensures.missed

pub returns-in-Cancel-clause-calls : goal.returns-in-Cancel-clause-calls
returns-in-Cancel-clause-calls g c = running_cancelled g.D.DeviceFiles.seen _ _ c.args.self.now.device c.args.self.now.last c.args.what.now c.in-Cancel.id c.cancel.result c.in-Cancel.is c.cancel.ensures.answer
    c.cancel.ensures.missed
