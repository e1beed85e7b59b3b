use Rattle.file_devices.proofs.RunningSteps.{undone_so}
use Rattle.file_devices.proofs.starting.hand_in.Goals as goal

pub returns-in-Err : goal.returns-in-Err
returns-in-Err g c = undone_so _ _ _ c.args.device.now c.as_str.result.now c.as_str-in-Err.result.now c.args.input c.new.result c.put_content.result _ _ c.as_str.ensures c.as_str-in-Err.ensures
    c.new.ensures c.in-Err.is c.put_content.ensures c.put_content-emptied.ensures
