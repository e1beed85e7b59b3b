use Rattle.file_devices.proofs.RunningSteps.{said_so, unsaid_so}
use Rattle.file_devices.proofs.stopping.stop.Goals as goal

pub returns-in-Ok : goal.returns-in-Ok
returns-in-Ok g c = said_so _ _ _ c.args.cancel.now c.args.status.now c.args.texts c.put_content.result _ c.in-Ok.is c.put_content.ensures c.put_content-in-Ok.ensures

pub returns-in-Err : goal.returns-in-Err
returns-in-Err g c = unsaid_so _ _ c.args.cancel.now c.args.status.now c.args.texts c.put_content.result _ c.in-Err.is c.put_content.ensures
