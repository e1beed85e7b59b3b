use Rattle.std.proofs.Common.{ap}
use Rattle.servient_script.specs.Print.{answer_text}
use Rattle.turn_lines.proofs.Putting.{put_then, put_same}
use Rattle.turn_lines.proofs.line.put_answer.Goals as goal

pub returns-in-Value : goal.returns-in-Value
returns-in-Value g c = put_same _ _ (ap answer_text c.in-Value.is) (put_then c.push.ensures c.put_tree.ensures)

pub returns-in-Done : goal.returns-in-Done
returns-in-Done g c = put_same _ _ (ap answer_text c.in-Done.is) c.push-in-Done.ensures

pub returns-in-Started : goal.returns-in-Started
returns-in-Started g c = put_same _ _ (ap answer_text c.in-Started.is) c.push-in-Started.ensures

pub returns-in-Running : goal.returns-in-Running
returns-in-Running g c = put_same _ _ (ap answer_text c.in-Running.is) c.push-in-Running.ensures

pub returns-in-Finished : goal.returns-in-Finished
returns-in-Finished g c = put_same _ _ (ap answer_text c.in-Finished.is) (put_then c.push-in-Finished.ensures c.put_if_any.ensures)

pub returns-in-Cancelled : goal.returns-in-Cancelled
returns-in-Cancelled g c = put_same _ _ (ap answer_text c.in-Cancelled.is) c.push-in-Cancelled.ensures

pub returns-in-Quiet : goal.returns-in-Quiet
returns-in-Quiet g c = put_same _ _ (ap answer_text c.in-Quiet.is) c.push-in-Quiet.ensures

pub returns-in-Fired : goal.returns-in-Fired
returns-in-Fired g c = put_same _ _ (ap answer_text c.in-Fired.is) (put_then c.push-in-Fired.ensures c.put_tree-in-Fired.ensures)

pub returns-in-Refused : goal.returns-in-Refused
returns-in-Refused g c = put_same _ _ (ap answer_text c.in-Refused.is) (put_then c.push-in-Refused.ensures c.push_number.ensures)

pub returns-in-DeviceFault : goal.returns-in-DeviceFault
returns-in-DeviceFault g c = put_same _ _ (ap answer_text c.in-DeviceFault.is) (put_then c.push-in-DeviceFault.ensures c.push_number-in-DeviceFault.ensures)
