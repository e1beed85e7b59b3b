use Rattle.turn_lines.proofs.Putting.{put_then}
use Rattle.turn_lines.proofs.line.put_turn.Goals as goal

pub returns : goal.returns
returns g c =
    put_then (put_then (put_then (put_then (put_then (put_then (put_then (put_then c.push.ensures c.push_number.ensures) c.push-2.ensures) c.push_number-2.ensures) c.push-3.ensures)
    c.put_call.ensures) c.push-4.ensures) c.put_answer.ensures) c.push-5.ensures
