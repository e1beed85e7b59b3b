use Rattle.std.proofs.Common.{refl}
use Rattle.core_links.specs.Writing.{quoted_byte}
use Rattle.servient_base.proofs.Pieces.{puts_more, no_room_more}
use Rattle.core_links.proofs.writing.put_bytes.Goals as goal

pub returns-in-None : goal.returns-in-None
returns-in-None c =
    no_room_more quoted_byte c.args.value.now c.loop-byte.byte-index (0) _ c.args.at c.loop-byte.end c.args.out.now c.loop-byte.out c.loop-byte-test.true refl c.loop-byte.auto.out c.loop-byte.invariant c.in-None.ensures

pub loop-byte-preserved : goal.loop-byte-preserved
loop-byte-preserved c =
    puts_more quoted_byte c.args.value.now c.loop-byte.byte-index (0) _ c.args.at c.loop-byte.end c.in-Some.next c.args.out.now c.loop-byte.out c.put_byte.new.out c.loop-byte-test.true refl c.loop-byte.invariant c.in-Some.ensures
