use Rattle.std.proofs.Common.{refl, [], arith}
use Rattle.servient_base.proofs.Pieces.{puts_more, no_room_more}
use Rattle.http_bind.specs.Places.{segment_text}
use Rattle.http_bind.proofs.place.put_path.Goals as goal

pub returns-in-None : goal.returns-in-None
returns-in-None c =
    no_room_more segment_text c.args.path.now c.loop-index.index [] _ 0 c.loop-index.end c.args.out.now c.loop-index.out (omega (arith, c.loop-index-test.true, c.len-index-end.ensures)) refl c.loop-index.auto.out c.loop-index.invariant c.in-None.ensures

pub loop-index-preserved : goal.loop-index-preserved
loop-index-preserved c =
    puts_more segment_text c.args.path.now c.loop-index.index [] _ 0 c.loop-index.end c.in-Some.next c.args.out.now c.loop-index.out c.put_segment_at.new.out (omega (arith, c.loop-index-test.true, c.len-index-end.ensures)) refl c.loop-index.invariant c.in-Some.ensures
