use Rattle.std.proofs.Common.{◌≡◌, ◌∙◌, ◌<◌, ◌+◌, ◌^◌, length, get_or, sym, arith}
use Rattle.std.proofs.lemmas.List.{get_or_read}
use Rattle.servient_rehearsal.specs.declared.moves.Move.{Move}
use Rattle.servient_rehearsal.specs.declared.moves.Move.TheVariants as move
use Rattle.servient_rehearsal.specs.Moves.{total_passed, passed_by}
use Rattle.servient_rehearsal.proofs.LoopLaws.{total_more, too_long}
use Rattle.servient_rehearsal.proofs.moves.are_short.Goals as goal

pub returns-then-time-total : goal.returns-then-time-total
returns-then-time-total c =
    let within : c.loop-index.index < length c.args.moves.now.items = omega (arith, c.loop-index-test.true, c.len-index-end.ensures) in
    let is = get_or_read c.args.moves.now.items c.loop-index.index c.index.result.now within c.index.ensures c.index.result.now in
    let so_far = c.loop-index.invariant in
    let long : 10 ^ 15 < c.loop-index.total + passed_by c.index.result.now = omega (arith, c.if-time-total.true, c.passed_by-time.ensures, so_far.1) in
    let not_short = too_long c.args.moves.now.items c.loop-index.index c.index.result.now c.loop-index.total within is so_far.0 long in
    (λ e. absurd (cc), λ short. absurd (not_short short))

pub loop-index-preserved : goal.loop-index-preserved
loop-index-preserved c =
    let within : c.loop-index.index < length c.args.moves.now.items = omega (arith, c.loop-index-test.true, c.len-index-end.ensures) in
    let is = get_or_read c.args.moves.now.items c.loop-index.index c.index.result.now within c.index.ensures c.index.result.now in
    let so_far = c.loop-index.invariant in
    let more = total_more c.args.moves.now.items c.loop-index.index c.index.result.now within is in
    (omega (arith, so_far.0, more, c.passed_by-time.ensures), omega (arith, c.if-time-total.false, so_far.1))
