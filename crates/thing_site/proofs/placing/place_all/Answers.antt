use Rattle.std.proofs.lemmas.Result.{err_from_is_err_and}
use Rattle.thing_site.specs.Exposing.{kinds_of}
use Rattle.thing_site.proofs.Judging.{all_faulty, all_placed, faults_left, site_grows, valid_first, valid_rest}
use Rattle.thing_site.proofs.placing.place_all.Goals as goal

pub returns-in_err-one : goal.returns-in_err-one
returns-in_err-one g c =
    let p = err_from_is_err_and c.from_residual.result c.from_residual.ensures.1 in
    rw (p.1, p.2)
    (all_faulty (kinds_of (g.R.Handlers.slots c.args.rack.now)) c.args.slots.now c.args.things.now c.loop-thing.earlier.items c.loop-thing.thing-index c.thing-item.result c.in_err-one.field-0.0
    c.loop-thing.invariant.clear c.loop-thing-test.true c.thing-item.is c.in_err-one.ensures)

pub place-requires : goal.place-requires
place-requires g c = valid_first c.args.things.now c.loop-thing.thing-index c.thing-item.result c.loop-thing-test.true c.thing-item.is c.loop-thing.invariant.valid

pub loop-thing-preserved : goal.loop-thing-preserved
loop-thing-preserved g c = record {
  placed = site_grows c.args.slots.now c.args.things.now c.loop-thing.thing-index c.thing-item.result c.loop-thing.held.items c.push_thing.new.held.items c.in_ok-one.one
      c.loop-thing.invariant.placed c.loop-thing-test.true c.thing-item.is c.in_ok-one.ensures.0 c.in_ok-push_thing.ensures;
  clear = faults_left (kinds_of (g.R.Handlers.slots c.args.rack.now)) c.args.slots.now c.args.things.now c.loop-thing.earlier.items c.place.new.earlier.items c.loop-thing.thing-index c.thing-item.result
      c.loop-thing.invariant.clear c.loop-thing-test.true c.thing-item.is c.in_ok-one.ensures.1;
  valid = valid_rest c.args.things.now c.loop-thing.thing-index c.thing-item.result c.loop-thing-test.true c.loop-thing.invariant.valid;
}

pub returns : goal.returns
returns g c =
    all_placed (kinds_of (g.R.Handlers.slots c.args.rack.now)) c.args.slots.now c.args.things.now c.loop-thing.held.items c.loop-thing.earlier.items c.loop-thing.thing-index
    c.loop-thing.invariant.placed c.loop-thing.invariant.clear c.loop-thing-test.false
