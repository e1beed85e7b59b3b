use Rattle.turn_lines.specs.Buffer.{buffered_of}
use Rattle.turn_lines.proofs.Putting.{put_none}
use Rattle.turn_lines.proofs.buffer.LineBuffer.make_room.Goals as goal

pub returns-else-len-eq-PIECE_BYTES-clause-put : goal.returns-else-len-eq-PIECE_BYTES-clause-put
returns-else-len-eq-PIECE_BYTES-clause-put g c = put_none (buffered_of c.args.self.now) (g.O.Out.seen c.args.out.now)
