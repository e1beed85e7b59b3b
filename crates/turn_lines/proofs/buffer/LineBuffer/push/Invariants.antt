use Rattle.std.proofs.Common.{take}
use Rattle.turn_lines.specs.Buffer.{buffered_of, HasPut}
use Rattle.turn_lines.proofs.buffer.LineBuffer.push.Given as goal

abbrev pub invariant-loop-byte : goal.invariant-loop-byte
invariant-loop-byte g l = HasPut (take l.byte-index l.bytes) (buffered_of l.initial.self) (buffered_of l.self) (g.O.Out.seen l.initial.out) (g.O.Out.seen l.out)
