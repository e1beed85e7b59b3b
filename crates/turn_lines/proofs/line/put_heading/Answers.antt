use Rattle.std.proofs.Common.{sym}
use Rattle.turn_lines.proofs.Putting.{put_then, put_same}
use Rattle.turn_lines.proofs.line.put_heading.Goals as goal

pub returns : goal.returns
returns g c =
    put_then (put_then (put_then (put_then (put_then (put_then c.push.ensures (put_same _ _ (sym c.as_bytes.ensures.value) c.push-2.ensures)) c.push-3.ensures)
    (put_same _ _ (sym c.as_bytes-2.ensures.value) c.push-4.ensures)) c.push-5.ensures) c.push_number.ensures) c.push-6.ensures
