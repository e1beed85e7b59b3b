use Rattle.wot_json.specs.Places.{element_step_text}
use Rattle.wot_schema.proofs.FirstFaults.{through_step}
use Rattle.wot_schema.proofs.fault.in_element.Goals as goal

pub returns-in_ok-step-in-Err : goal.returns-in_ok-step-in-Err
returns-in_ok-step-in-Err c = λ faults found.
    through_step c.in_ok-step-in-Err.step (element_step_text c.args.index) faults c.through.result c.in_ok-step-in-Err.ensures (c.through.ensures faults (rw c.in-Err.is at found))
