use Rattle.std.proofs.Common.{ap}
use Rattle.servient_script.specs.Print.{call_text}
use Rattle.turn_lines.proofs.Putting.{put_then, put_same}
use Rattle.turn_lines.proofs.line.put_call.Goals as goal

pub returns-in-Read : goal.returns-in-Read
returns-in-Read g c = put_same _ _ (ap call_text c.in-Read.is) c.push.ensures

pub returns-in-Write : goal.returns-in-Write
returns-in-Write g c = put_same _ _ (ap call_text c.in-Write.is) (put_then c.push-in-Write.ensures c.put_tree.ensures)

pub returns-in-Invoke : goal.returns-in-Invoke
returns-in-Invoke g c = put_same _ _ (ap call_text c.in-Invoke.is) (put_then (put_then (put_then c.push-in-Invoke.ensures c.push_number.ensures) c.push-in-Invoke-2.ensures) c.put_if_any.ensures)

pub returns-in-Query : goal.returns-in-Query
returns-in-Query g c = put_same _ _ (ap call_text c.in-Query.is) (put_then c.push-in-Query.ensures c.push_number-in-Query.ensures)

pub returns-in-Cancel : goal.returns-in-Cancel
returns-in-Cancel g c = put_same _ _ (ap call_text c.in-Cancel.is) (put_then c.push-in-Cancel.ensures c.push_number-in-Cancel.ensures)

pub returns-in-Poll : goal.returns-in-Poll
returns-in-Poll g c = put_same _ _ (ap call_text c.in-Poll.is) c.push-in-Poll.ensures
