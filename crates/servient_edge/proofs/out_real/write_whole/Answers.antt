use Rattle.std.proofs.Common.{take, ◌++◌}
use Rattle.servient_edge.proofs.BytesInTurns.{Appends-append, piece-after_turn}
use Rattle.servient_edge.proofs.out_real.write_whole.Goals as goal

pub loop-rest-preserved : goal.loop-rest-preserved
loop-rest-preserved g c =
    let front = c.loop-rest.invariant.0 in
    let rest = c.loop-rest.rest.now in
    let now = take c.in-Ok.count rest in (
      front ++ now,
      piece-after_turn c.args.piece.now front rest c.in-Ok.count c.loop-rest.invariant.1,
      Appends-append _ _ _ front now c.loop-rest.invariant.2 c.in-Ok.ensures.bytes,
    )
