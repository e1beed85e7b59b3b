use Rattle.turn_lines.proofs.Putting.{put_then}
use Rattle.turn_lines.proofs.buffer.LineBuffer.push_byte.Goals as goal

pub returns : goal.returns
returns g c = put_then c.make_room.ensures.put (c.keep.ensures (g.O.Out.seen c.make_room.new.out))
