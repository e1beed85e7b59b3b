use Rattle.std.proofs.Common.{refl}
use Rattle.turn_lines.specs.Buffer.{buffered_of}
use Rattle.turn_lines.proofs.Putting.{flushed}
use Rattle.turn_lines.proofs.buffer.LineBuffer.flush.Goals as goal

pub returns-clause-put : goal.returns-clause-put
returns-clause-put g c = flushed (buffered_of c.args.self.now) _ (g.O.Out.seen c.args.out.now) (g.O.Out.seen c.write_held-self.new.out) c.write_held-self.result c.write_held-self.ensures c.clear.ensures.items refl
