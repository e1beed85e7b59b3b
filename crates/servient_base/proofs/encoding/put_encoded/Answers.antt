use Rattle.std.proofs.Common.{refl}
use Rattle.servient_base.proofs.Pieces.{puts_more, no_room_more}
use Rattle.servient_base.specs.Encoding.{encoded_byte}
use Rattle.servient_base.proofs.encoding.put_encoded.Goals as goal

pub returns-in-None : goal.returns-in-None
returns-in-None c =
    no_room_more encoded_byte c.args.bytes.now c.loop-byte.byte-index 0 _ c.args.at c.loop-byte.end c.args.out.now c.loop-byte.out c.loop-byte-test.true refl c.loop-byte.auto.out c.loop-byte.invariant c.in-None.ensures

pub loop-byte-preserved : goal.loop-byte-preserved
loop-byte-preserved c =
    puts_more encoded_byte c.args.bytes.now c.loop-byte.byte-index 0 _ c.args.at c.loop-byte.end c.in-Some.next c.args.out.now c.loop-byte.out c.put_encoded_byte.new.out c.loop-byte-test.true refl c.loop-byte.invariant c.in-Some.ensures
