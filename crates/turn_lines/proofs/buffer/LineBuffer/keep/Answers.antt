use Rattle.turn_lines.specs.Buffer.{buffered_of}
use Rattle.turn_lines.proofs.Putting.{keeps_byte, keeps_none}
use Rattle.turn_lines.proofs.buffer.LineBuffer.keep.Goals as goal

pub returns-in-Done : goal.returns-in-Done
returns-in-Done c = λ out.
    keeps_byte (buffered_of c.args.self.now) (record { held = c.push_reserved.new.self.items; put = c.args.self.now.put }) c.args.byte out c.in-Done.is c.in-Done.is c.push_reserved.ensures.items
