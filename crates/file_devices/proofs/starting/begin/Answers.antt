use Rattle.file_devices.proofs.RunningSteps.{marked_so, unmarked_so}
use Rattle.file_devices.proofs.starting.begin.Goals as goal

pub returns-in-Ok : goal.returns-in-Ok
returns-in-Ok g c = marked_so _ _ _ c.args.device.now c.as_str.result.now c.args.texts c.put_content.result _ c.as_str.ensures c.in-Ok.is c.put_content.ensures c.hand_in.ensures

pub returns-in-Err : goal.returns-in-Err
returns-in-Err g c = unmarked_so _ _ c.args.device.now c.as_str.result.now c.args.texts c.put_content.result _ c.as_str.ensures c.in-Err.is c.put_content.ensures
