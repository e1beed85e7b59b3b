use Rattle.std.proofs.Common.{◌<◌, length, refl, arith}
use Rattle.std.proofs.lemmas.List.{get_or_read}
use Rattle.servient_rehearsal.specs.Playing.{kept}
use Rattle.servient_rehearsal.proofs.LoopLaws.{plays_on_none, plays_on_more, plays_on_fails, played_all, within_time}
use Rattle.servient_rehearsal.proofs.PlayLaws.{on_error}
use Rattle.servient_rehearsal.proofs.rehearsal.play_all.Goals as goal

pub loop-index-init : goal.loop-index-init
loop-index-init g c =
    plays_on_none c.args.servient.now.exposed.site c.args.moves.now.items (kept c.args.servient.now c.args.client.now c.args.notes.now) (g.R.Handlers.slots c.args.rack.now)
    refl c.requires.fits c.requires.client c.requires.noted c.requires.moves.time

pub play-requires-clause-moment : goal.play-requires-clause-moment
play-requires-clause-moment g c =
    let within : c.loop-index.index < length c.args.moves.now.items = omega (arith, c.loop-index-test.true, c.len-index-end.ensures) in
    let is = get_or_read c.args.moves.now.items c.loop-index.index c.index.result.now within c.index.ensures c.index.result.now in
    within_time c.args.servient.now.exposed.site c.args.moves.now.items c.loop-index.index c.index.result.now (kept c.args.servient.now c.args.client.now c.args.notes.now) (kept c.loop-index.servient c.loop-index.client c.loop-index.notes) (g.R.Handlers.slots c.args.rack.now) (g.R.Handlers.slots c.loop-index.rack) within is c.loop-index.invariant

pub play-requires-clause-few : goal.play-requires-clause-few
play-requires-clause-few g c = omega (arith, c.loop-index.invariant.asks, c.loop-index-test.true, c.len-index-end.ensures, c.requires.moves.few)

pub loop-index-preserved : goal.loop-index-preserved
loop-index-preserved g c =
    let within : c.loop-index.index < length c.args.moves.now.items = omega (arith, c.loop-index-test.true, c.len-index-end.ensures) in
    let is = get_or_read c.args.moves.now.items c.loop-index.index c.index.result.now within c.index.ensures c.index.result.now in
    plays_on_more c.args.servient.now.exposed.site c.args.moves.now.items c.loop-index.index c.index.result.now (kept c.args.servient.now c.args.client.now c.args.notes.now) (kept c.loop-index.servient c.loop-index.client c.loop-index.notes) (kept c.play.new.servient c.play.new.client c.play.new.notes) (g.R.Handlers.slots c.args.rack.now) (g.R.Handlers.slots c.loop-index.rack) (g.R.Handlers.slots c.play.new.rack)
    within is c.loop-index.invariant c.in_ok-play.ensures.ok c.in_ok-play.ensures.goes_on c.play.ensures.site c.play.ensures.fits

pub returns-in_err-play-clause-fault : goal.returns-in_err-play-clause-fault
returns-in_err-play-clause-fault g c =
    let within : c.loop-index.index < length c.args.moves.now.items = omega (arith, c.loop-index-test.true, c.len-index-end.ensures) in
    let is = get_or_read c.args.moves.now.items c.loop-index.index c.index.result.now within c.index.ensures c.index.result.now in
    on_error c.from_residual.result
    (plays_on_fails c.args.servient.now.exposed.site c.args.moves.now.items c.loop-index.index c.index.result.now (kept c.args.servient.now c.args.client.now c.args.notes.now) (kept c.loop-index.servient c.loop-index.client c.loop-index.notes) (kept c.play.new.servient c.play.new.client c.play.new.notes) (g.R.Handlers.slots c.args.rack.now) (g.R.Handlers.slots c.loop-index.rack) (g.R.Handlers.slots c.play.new.rack)
    within is c.loop-index.invariant c.in_err-play.ensures.fault)

pub returns-clause-ok : goal.returns-clause-ok
returns-clause-ok g c =
    played_all c.args.servient.now.exposed.site c.args.moves.now.items c.loop-index.index (kept c.args.servient.now c.args.client.now c.args.notes.now) (kept c.loop-index.servient c.loop-index.client c.loop-index.notes) (g.R.Handlers.slots c.args.rack.now) (g.R.Handlers.slots c.loop-index.rack) (omega (arith, c.loop-index-test.false, c.len-index-end.ensures)) c.loop-index.invariant
